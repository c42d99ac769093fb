use Rattle.std.proofs.Common.{[], map, ap, ◌∙◌}
use Rattle.sg_protocol.specs.Graph.{Graph, Variable, Int}
use Rattle.sg_graph.specs.Model.{variable_of}
use Rattle.sg_graph.proofs.FirstIndex.{name_found, name_missed}
use Rattle.sg_graph.proofs.graph.Graph.find_var.Goals as goal

pub returns-in_err-index-clause-found : goal.returns-in_err-index-clause-found
returns-in_err-index-clause-found c = name_missed variable_of (λ (v : Variable). v.name) _ _ _ (ap (map variable_of) c.deref.ensures.value ∙ ap (λ (g : Graph). g.variables) c.self.view_is) _ c.from_residual.ensures c.in_err-index.ensures

pub returns : goal.returns
returns c =
    let there = name_found variable_of (λ (v : Variable). v.name) _ _ _ (ap (map variable_of) c.deref.ensures.value ∙ ap (λ (g : Graph). g.variables) c.self.view_is) _ (record { name = []; kind = Int; writers = [] }) c.in_ok-index.ensures in
    record { found = there.0; index = there.1 }
