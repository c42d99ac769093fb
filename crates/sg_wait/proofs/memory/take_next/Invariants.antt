use Rattle.std.proofs.Common.{◌≡◌, length}
use Rattle.sg_wait.specs.Waiting.{received}
use Rattle.sg_wait.proofs.memory.take_next.Given as goal

abbrev pub invariant-loop-next : goal.invariant-loop-next
invariant-loop-next l = received l.limited l.coming.items ≡ received l.limited l.initial.coming.items

abbrev pub decreases-loop-next : goal.decreases-loop-next
decreases-loop-next l = length l.coming.items
