use Rattle.std.proofs.Common.{◌≡◌, ◌++◌, drop}
use Rattle.sg_role.proofs.own.copy_values.Given as goal

abbrev pub invariant-loop-at : goal.invariant-loop-at
invariant-loop-at l = l.list ++ drop l.at l.values ≡ l.values
