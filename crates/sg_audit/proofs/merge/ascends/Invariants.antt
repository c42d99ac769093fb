use Rattle.std.proofs.Common.{◌↔◌, drop, map}
use Rattle.sg_walk.specs.Model.{event_of}
use Rattle.sg_audit.specs.Merged.{AscendFrom}
use Rattle.sg_audit.proofs.merge.ascends.Given as goal

abbrev pub invariant-loop-event : goal.invariant-loop-event
invariant-loop-event l = AscendFrom 0 (map event_of l.events) ↔ AscendFrom l.least (map event_of (drop l.event-index l.events))
