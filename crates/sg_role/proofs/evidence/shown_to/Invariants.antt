use Rattle.std.proofs.Common.{◌≡◌, ◌++◌, drop}
use Rattle.sg_model.specs.Last.{after_last}
use Rattle.sg_protocol.specs.Sending.{tags_left}
use Rattle.sg_role.proofs.evidence.shown_to.Given as goal

abbrev pub invariant-loop-at : goal.invariant-loop-at
invariant-loop-at l = l.list ++ tags_left (drop l.at l.items) ≡ tags_left (after_last (λ i. i.role) l.fn.to l.items)
