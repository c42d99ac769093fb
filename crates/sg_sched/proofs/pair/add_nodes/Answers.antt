use Rattle.std.proofs.Common.{◌≡◌, suc, ◌∙◌, length, ap, sym, map, arith}
use Rattle.sg_model.specs.Lists.{below}
use Rattle.sg_graph.specs.Adding.{with_node}
use Rattle.sg_sched.specs.Pair.{node}
use Rattle.sg_sched.proofs.PairLaws.{node_more, nodes_there}
use Rattle.sg_sched.proofs.pair.add_nodes.Goals as goal

pub loop-graph-preserved : goal.loop-graph-preserved
loop-graph-preserved c =
    let n = length c.loop-graph.graph.nodes in
    let added : c.add_node.new.graph ≡ with_node c.loop-graph.graph (node n) = c.in_ok-add_node.ensures ∙ ap (λ k. with_node c.loop-graph.graph (node k)) c.nodes-number.ensures.count in
    let more = node_more c.args.graph.now c.loop-graph.graph c.add_node.new.graph n c.loop-graph.invariant.same added in
    let count : length c.add_node.new.graph.nodes ≡ suc n = nodes_there c.args.graph.now c.add_node.new.graph (suc n) more in
    record {
      same = more ∙ ap (λ m. record c.args.graph.now { nodes = map node (below m) }) (sym count);
      count = rw count (omega (arith, c.nodes.ensures.count, c.loop-graph-test.true));
      least = rw count (omega (arith, c.loop-graph.invariant.least));
    }
