use Rattle.std.proofs.Common.{◌≡◌, ◌<◌}
use Rattle.sg_protocol.specs.Graph.{shape}
use Rattle.sg_check.specs.Blind.{PairAtNode, IsBlind}
use Rattle.sg_check.proofs.blinding.check_pairs.Given as goal

abbrev pub invariant-loop-number : goal.invariant-loop-number
invariant-loop-number l = (p : PairAtNode) → p.node ≡ l.fn.node → p.a ≡ l.fn.a → p.b < l.number → IsBlind (shape l.graph) p → ⊥
