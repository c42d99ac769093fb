use Rattle.std.proofs.Common.{[], map, ap, ◌∙◌}
use Rattle.sg_protocol.specs.Graph.{Graph, Edge}
use Rattle.sg_graph.specs.Model.{edge_of}
use Rattle.sg_graph.proofs.FirstIndex.{name_found, name_missed}
use Rattle.sg_graph.proofs.graph.Graph.find_edge.Goals as goal

pub returns-in_err-index-clause-found : goal.returns-in_err-index-clause-found
returns-in_err-index-clause-found c = name_missed edge_of (λ (e : Edge). e.name) _ _ _ (ap (map edge_of) c.deref.ensures.value ∙ ap (λ (g : Graph). g.edges) c.self.view_is) _ c.from_residual.ensures c.in_err-index.ensures

pub returns : goal.returns
returns c =
    let there = name_found edge_of (λ (e : Edge). e.name) _ _ _ (ap (map edge_of) c.deref.ensures.value ∙ ap (λ (g : Graph). g.edges) c.self.view_is) _ (record { name = []; source = 0; target = 0; writes = []; reads = [] }) c.in_ok-index.ensures in
    record { found = there.0; index = there.1 }
