use Rattle.std.proofs.Common.{◌≡◌, ◌∙◌, ◌+◌, ap, sym, map, arith}
use Rattle.sg_model.specs.Lists.{below}
use Rattle.sg_graph.specs.Adding.{with_edge}
use Rattle.sg_sched.specs.Pair.{node, edge}
use Rattle.sg_sched.proofs.PairLaws.{pair_nodes, nodes_there, edge_more}
use Rattle.sg_sched.proofs.pair.add_edge.Goals as goal

pub add_nodes-requires-clause-nodes : goal.add_nodes-requires-clause-nodes
add_nodes-requires-clause-nodes c =
    ap (λ g. g.nodes) c.requires.pair ∙ ap (λ n. map node (below n)) (sym (pair_nodes c.args.graph.now c.requires.pair))

pub add_edge-requires-clause-source : goal.add_edge-requires-clause-source
add_edge-requires-clause-source c =
    let there = nodes_there c.args.graph.now c.add_nodes.new.graph _ c.in_ok-add_nodes.ensures in
    rw there (omega arith)

pub add_edge-requires-clause-target : goal.add_edge-requires-clause-target
add_edge-requires-clause-target c =
    let there = nodes_there c.args.graph.now c.add_nodes.new.graph _ c.in_ok-add_nodes.ensures in
    rw there (omega arith)

pub returns-in-Ok : goal.returns-in-Ok
returns-in-Ok c =
    let added : c.add_edge.new.self ≡ with_edge c.add_nodes.new.graph (edge c.args.label c.args.from c.args.to) =
    c.in-Ok.ensures.added ∙ (λ i. with_edge c.add_nodes.new.graph (record { name = c.args.label; source = c.from-2.ensures i; target = c.from-3.ensures i; writes = c.empty-none.ensures i; reads = c.empty-none.ensures i })) in
    edge_more c.args.graph.now c.add_nodes.new.graph c.add_edge.new.self c.args.label c.args.from c.args.to (c.from.result + 1) c.requires.pair (ap (λ n. n + 1) (c.from.ensures ∙ c.max.ensures)) c.in_ok-add_nodes.ensures added
