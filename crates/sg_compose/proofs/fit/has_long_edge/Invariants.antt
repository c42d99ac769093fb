use Rattle.std.proofs.Common.{◌≡◌, false, take}
use Rattle.std.specs.List.{list_any}
use Rattle.sg_protocol.specs.Graph.{Edge}
use Rattle.sg_compose.specs.Expansion.{inner_name, is_long}
use Rattle.sg_compose.proofs.fit.has_long_edge.Given as goal

abbrev pub invariant-loop-number : goal.invariant-loop-number
invariant-loop-number l = list_any (λ (e : Edge). is_long (inner_name l.used e.name)) (take l.number l.inner.edges) ≡ false
