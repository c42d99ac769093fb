use Rattle.std.proofs.Common.{◌≡◌, take}
use Rattle.sg_role.proofs.next.copied_openings.Given as goal

abbrev pub invariant-loop-at : goal.invariant-loop-at
invariant-loop-at l = l.list.items ≡ take l.at l.openings
