use Rattle.std.proofs.Common.{◌≡◌, ◌<◌, not, false, true, ap, sym, ◌∙◌, arith}
use Rattle.sg_compose.specs.Expansion.{is_final}
use Rattle.sg_compose.proofs.Ends.{counted-there, counted-away}
use Rattle.sg_compose.proofs.end.sole_final.Goals as goal
use Rattle.sg_compose.proofs.end.sole_final.Goals.{then-not-left-number, else-not-left-number}

pub loop-number-preserved : goal.loop-number-preserved
loop-number-preserved c =
    let g = c.args.inner.now in
    let n = c.loop-number.number in
    let few : n < 256 = omega (arith, c.loop-number-test.true, c.nodes-number-end.ensures.count, c.nodes-number-end.ensures.graph.sizes.2) in
    let left = c.requires n few in
    elim c.if-not-left-number.branch [
      | then-not-left-number w ↦
          (let there : is_final g n ≡ true = ap not (sym left ∙ w.if-not-left-number.true) in
          record {
            few = rw w.count-is (omega (arith, c.loop-number.invariant.few));
            counted = rw (w.count-is, w.last-is) (counted-there (is_final g) n c.loop-number.count c.loop-number.last there c.loop-number.invariant.counted);
          })
      | else-not-left-number w ↦
          (let away : is_final g n ≡ false = ap not (sym left ∙ w.if-not-left-number.false) in
          record {
            few = rw w.count-is (omega (arith, c.loop-number.invariant.few));
            counted = rw (w.count-is, w.last-is) (counted-away (is_final g) n c.loop-number.count c.loop-number.last away c.loop-number.invariant.counted);
          })
    ]
