use Rattle.std.proofs.Common.{◌≡◌, ◌-◌, drop, map}
use Rattle.sg_walk.specs.Model.{event_of}
use Rattle.sg_audit.proofs.Moments.{first_twice}
use Rattle.sg_audit.proofs.merge.first_clash.Given as goal

abbrev pub invariant-loop-next : goal.invariant-loop-next
invariant-loop-next l = first_twice (map event_of l.events) ≡ first_twice (map event_of (drop (l.next - 1) l.events))
