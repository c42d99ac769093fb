use Rattle.std.proofs.Common.{◌≡◌, take}
use Rattle.sg_role.proofs.kept_state.copied.Given as goal

abbrev pub invariant-loop-at : goal.invariant-loop-at
invariant-loop-at g l = l.list.items ≡ take l.at l.items
