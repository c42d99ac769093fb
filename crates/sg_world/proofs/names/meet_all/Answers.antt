use Rattle.std.proofs.Common.{take, ap, ◌∙◌}
use Rattle.std.specs.Prelude.{filter_map}
use Rattle.sg_text.specs.Sessions.{naming}
use Rattle.sg_world.specs.KeptLines.{sid_kept}
use Rattle.sg_world.proofs.NamesMore.{event_next, known_with}
use Rattle.sg_world.proofs.names.meet_all.Goals as goal

pub loop-entry-preserved : goal.loop-entry-preserved
loop-entry-preserved c = λ m start.
    c.in_ok-meet.ensures (known_with m (filter_map sid_kept (take c.loop-entry.entry-index c.args.entries.now))) (c.loop-entry.invariant m start)
    ∙ ap (naming 120) (event_next m c.args.entries.now c.loop-entry.entry-index c.entry-item.result c.loop-entry-test.true c.entry-item.is)
