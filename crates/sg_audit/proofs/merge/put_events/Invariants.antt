use Rattle.std.proofs.Common.{◌≡◌, ◌++◌, take}
use Rattle.sg_audit.proofs.merge.put_events.Given as goal

abbrev pub invariant-loop-event : goal.invariant-loop-event
invariant-loop-event l = l.all.items ≡ l.fn.all.items ++ take l.event-index l.events
