use Rattle.std.proofs.Common.{◌≡◌, drop}
use Rattle.sg_model.specs.Last.{after_last}
use Rattle.sg_role.proofs.evidence.index_after.Given as goal

abbrev pub invariant-loop-at : goal.invariant-loop-at
invariant-loop-at l = after_last (λ i. i.role) l.role (drop l.at l.items) ≡ after_last (λ i. i.role) l.role l.items
