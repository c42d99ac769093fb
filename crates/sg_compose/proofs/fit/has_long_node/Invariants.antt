use Rattle.std.proofs.Common.{◌≡◌, false, filter}
use Rattle.std.specs.List.{list_any}
use Rattle.sg_model.specs.Lists.{below}
use Rattle.sg_protocol.specs.Graph.{node_name}
use Rattle.sg_compose.specs.Expansion.{inner_name, is_long, is_inside}
use Rattle.sg_compose.proofs.fit.has_long_node.Given as goal

abbrev pub invariant-loop-number : goal.invariant-loop-number
invariant-loop-number l = list_any (λ x. is_long (inner_name l.used (node_name l.inner x))) (filter (is_inside l.end) (below l.number)) ≡ false
