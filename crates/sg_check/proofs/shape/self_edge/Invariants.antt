use Rattle.std.proofs.Common.{◌<◌, ℕ}
use Rattle.sg_check.specs.Shaped.{IsSelfEdge}
use Rattle.sg_check.proofs.shape.self_edge.Given as goal

abbrev pub invariant-loop-number : goal.invariant-loop-number
invariant-loop-number l = (k : ℕ) → k < l.number → IsSelfEdge l.graph k → ⊥
