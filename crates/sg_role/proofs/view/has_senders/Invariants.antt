use Rattle.std.proofs.Common.{◌≡◌, ◌==◌, drop}
use Rattle.std.specs.List.{list_all}
use Rattle.sg_model.specs.Shape.{sender}
use Rattle.sg_protocol.specs.Graph.{shape}
use Rattle.sg_role.proofs.view.has_senders.Given as goal

abbrev pub invariant-loop-at : goal.invariant-loop-at
invariant-loop-at l = list_all (λ i. i.role == sender (shape l.graph) i.label) l.items ≡ list_all (λ i. i.role == sender (shape l.graph) i.label) (drop l.at l.items)
