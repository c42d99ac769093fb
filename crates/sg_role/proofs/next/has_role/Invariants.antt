use Rattle.std.proofs.Common.{◌≡◌, drop}
use Rattle.sg_model.specs.Last.{has}
use Rattle.sg_role.proofs.next.has_role.Given as goal

abbrev pub invariant-loop-at : goal.invariant-loop-at
invariant-loop-at l = has (λ i. i.role) l.role (drop l.at l.items) ≡ has (λ i. i.role) l.role l.items
