use Rattle.std.proofs.Common.{◌≡◌, nat_lt, filter}
use Rattle.sg_compose.specs.Expansion.{shifted}
use Rattle.sg_compose.proofs.rename.shifted.Given as goal

abbrev pub invariant-loop-number : goal.invariant-loop-number
invariant-loop-number l = l.found ≡ shifted l.count (filter (λ x. nat_lt x l.number) l.vars)
