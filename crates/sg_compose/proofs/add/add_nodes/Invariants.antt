use Rattle.std.proofs.Common.{◌≡◌, ◌++◌, map, filter}
use Rattle.sg_model.specs.Lists.{below}
use Rattle.sg_compose.specs.Expansion.{is_inside, new_node}
use Rattle.sg_compose.proofs.add.add_nodes.Given as goal

abbrev pub invariant-loop-number : goal.invariant-loop-number
invariant-loop-number l = l.graph ≡ record l.fn.graph { nodes = l.fn.graph.nodes ++ map (new_node l.inner l.used) (filter (is_inside l.end) (below l.number)) }
