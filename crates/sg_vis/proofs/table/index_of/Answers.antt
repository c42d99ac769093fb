use Rattle.std.proofs.Common.{◌<◌, ◌+◌, ◌-◌, ◌/◌, refl, sym, arith}
use Rattle.sg_vis.specs.Model.{origin_of}
use Rattle.sg_vis.specs.Table.{view_from}
use Rattle.sg_vis.proofs.Ordered.{less_upto, more_from, view_at}
use Rattle.sg_vis.proofs.table.index_of.Goals as goal

pub loop-low-preserved-in-Less : goal.loop-low-preserved-in-Less
loop-low-preserved-in-Less c =
    let low = c.loop-low.low in
    let high = c.loop-low.high in
    let l : low < high = c.loop-low-test.true in
    let most = c.loop-low.invariant.1 in (
      omega arith,
      most,
      less_upto c.args.rows.now (view_from (origin_of c.args.from) c.args.items.now) (low + (high - low) / 2) c.index-rows-middle.result c.requires
          (omega arith) c.index-rows-middle.is (sym c.in-Less.ensures.order),
      c.loop-low.invariant.3,
    )

pub returns-in-Equal-clause-found : goal.returns-in-Equal-clause-found
returns-in-Equal-clause-found c =
    let low = c.loop-low.low in
    let high = c.loop-low.high in
    let l : low < high = c.loop-low-test.true in
    let most = c.loop-low.invariant.1 in
    view_at c.args.rows.now (low + (high - low) / 2) c.index-rows-middle.result (view_from (origin_of c.args.from) c.args.items.now)
    (omega arith) c.index-rows-middle.is (c.in-Equal.ensures.same refl)

pub loop-low-preserved : goal.loop-low-preserved
loop-low-preserved c =
    let low = c.loop-low.low in
    let high = c.loop-low.high in
    let l : low < high = c.loop-low-test.true in
    let most = c.loop-low.invariant.1 in (
      omega arith,
      omega arith,
      c.loop-low.invariant.2,
      more_from c.args.rows.now (view_from (origin_of c.args.from) c.args.items.now) (low + (high - low) / 2) c.index-rows-middle.result c.requires
          (omega arith) c.index-rows-middle.is (sym c.in-Greater.ensures.order),
    )
