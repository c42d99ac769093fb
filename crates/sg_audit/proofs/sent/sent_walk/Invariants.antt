use Rattle.std.proofs.Common.{◌≡◌, ◌++◌, drop, map}
use Rattle.sg_walk.specs.Model.{event_of, step_of}
use Rattle.sg_audit.specs.Sent.{sent_steps}
use Rattle.sg_audit.proofs.sent.sent_walk.Given as goal

abbrev pub invariant-loop-event : goal.invariant-loop-event
invariant-loop-event l = map step_of l.steps.items ++ sent_steps (map event_of (drop l.event-index l.events)) ≡ sent_steps (map event_of l.events)
