use Rattle.std.proofs.Common.{◌≡◌, ◌<◌, ℕ}
use Rattle.sg_model.specs.Shape.{role_at}
use Rattle.sg_protocol.specs.Graph.{shape}
use Rattle.sg_check.proofs.shape.has_node.Given as goal

abbrev pub invariant-loop-number : goal.invariant-loop-number
invariant-loop-number l = (k : ℕ) → k < l.number → role_at (shape l.graph) k ≡ l.fn.role → ⊥
