use Rattle.std.proofs.Common.{◌≡◌, ◌++◌, drop}
use Rattle.sg_role.specs.Keeping.{kept_from}
use Rattle.sg_role.proofs.next.keep_each.Given as goal

abbrev pub invariant-loop-at : goal.invariant-loop-at
invariant-loop-at l = l.list.items ++ kept_from l.count l.earlier (drop l.at l.items ++ l.later) ≡ l.initial.list.items ++ kept_from l.count l.initial.earlier (l.items ++ l.later)
