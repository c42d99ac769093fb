use Rattle.std.proofs.Common.{◌≡◌, filter}
use Rattle.sg_model.specs.Lists.{is_in, below}
use Rattle.sg_role.proofs.own.roles_of.Given as goal

abbrev pub invariant-loop-number : goal.invariant-loop-number
invariant-loop-number l = l.list.items ≡ filter (λ x. is_in x l.set) (below l.number)
