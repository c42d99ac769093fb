use Rattle.std.proofs.Common.{◌≡◌, ◌≤◌, ◌-◌, length, map, max}
use Rattle.sg_model.specs.Lists.{below}
use Rattle.sg_sched.specs.Pair.{node}
use Rattle.sg_sched.proofs.pair.add_nodes.Given as goal

abbrev pub invariant-loop-graph : goal.invariant-loop-graph
invariant-loop-graph l = record {
  same : l.graph ≡ record l.initial.graph { nodes = map node (below (length l.graph.nodes)) };
  count : length l.graph.nodes ≤ max (length l.initial.graph.nodes) l.count;
  least : length l.initial.graph.nodes ≤ length l.graph.nodes;
}

abbrev pub decreases-loop-graph : goal.decreases-loop-graph
decreases-loop-graph l = l.count - length l.graph.nodes
