use Rattle.std.proofs.Common.{◌≡◌, true, [], map, arith}
use Rattle.std.proofs.lemmas.Grind.{common_steps}
use Rattle.sg_model.specs.Lists.{all_differ}
use Rattle.sg_sched.proofs.IndexLaws.{found_named}
use Rattle.sg_sched.proofs.index.label_index.Goals as goal

pub returns : goal.returns
returns c =
    let differ : all_differ (map (λ e. e.name) c.args.graph.now.edges) ≡ true = grind (arith, common_steps, c.edges-count.ensures.graph.edge_names) in
    found_named (λ e. e.name) c.args.graph.now.edges (record { name = []; source = 0; target = 0; writes = []; reads = [] }) c.args.name.now c.find_edge.result differ c.find_edge.ensures.found c.find_edge.ensures.index
