use Rattle.std.proofs.Common.{◌≡◌, take, length}
use Rattle.sg_role.proofs.same.all_same.Given as goal

abbrev pub invariant-loop-at : goal.invariant-loop-at
invariant-loop-at g l = (length l.one ≡ length l.other) × (take l.at l.one ≡ take l.at l.other)
