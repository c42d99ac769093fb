use Rattle.std.proofs.Common.{◌≡◌, ◌≤◌, nat_lt, filter, length}
use Rattle.sg_compile.proofs.text.count_roles.Given as goal

abbrev pub invariant-loop-number : goal.invariant-loop-number
invariant-loop-number l = (l.count ≡ length (filter (λ x. nat_lt x l.number) l.roles)) × (l.count ≤ l.number)
