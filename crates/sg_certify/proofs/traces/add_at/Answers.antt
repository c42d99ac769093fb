use Rattle.std.proofs.Common.{◌≡◌}
use Rattle.indexmap.specs.IndexMap.{set_value_at}
use Rattle.sg_walk.specs.Model.{event_of}
use Rattle.sg_certify.specs.Adding.{GoesAt, with_shown}
use Rattle.sg_certify.proofs.Taking.{on_ok, on_err, goes_at_index, same_value}
use Rattle.sg_certify.proofs.traces.add_at.Goals as goal

pub returns-clause-ok : goal.returns-clause-ok
returns-clause-ok c =
    on_ok (c.add.new.self ≡ with_shown c.index_mut.result.now (event_of c.args.event.now) c.args.walk.now)
    (GoesAt (event_of c.args.event.now) c.args.walk.now c.args.table.now.entries (set_value_at c.args.table.now.entries c.args.index c.add.new.self) c.args.index)
    c.add.result
    (λ adds. goes_at_index (event_of c.args.event.now) c.args.walk.now c.args.table.now.entries c.args.index c.requires.there.0 c.index_mut.result.now c.add.new.self c.requires.there.1 c.index_mut.ensures.value adds)
    c.add.ensures.ok

pub returns-clause-err : goal.returns-clause-err
returns-clause-err c =
    on_err (c.add.new.self ≡ c.index_mut.result.now) (set_value_at c.args.table.now.entries c.args.index c.add.new.self ≡ c.args.table.now.entries) c.add.result
    (λ same. same_value c.args.table.now.entries c.args.index c.index_mut.result.now c.add.new.self c.index_mut.ensures.value same)
    c.add.ensures.err
