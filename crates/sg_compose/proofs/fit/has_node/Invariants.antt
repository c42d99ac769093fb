use Rattle.std.proofs.Common.{◌≡◌, false, filter}
use Rattle.std.specs.List.{list_any}
use Rattle.sg_model.specs.Lists.{has_text, below}
use Rattle.sg_protocol.specs.Graph.{node_name}
use Rattle.sg_graph.specs.Parts.{node_names}
use Rattle.sg_compose.specs.Expansion.{inner_name, is_inside}
use Rattle.sg_compose.proofs.fit.has_node.Given as goal

abbrev pub invariant-loop-number : goal.invariant-loop-number
invariant-loop-number l = list_any (λ x. has_text (inner_name l.used (node_name l.inner x)) (node_names l.graph)) (filter (is_inside l.end) (below l.number)) ≡ false
