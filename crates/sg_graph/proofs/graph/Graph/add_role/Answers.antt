use Rattle.std.proofs.Common.{◌≡◌, List, [], ◌∷◌, ◌++◌, subst, arith, rules}
use Rattle.sg_protocol.specs.Graph.{IsGraph, Name}
use Rattle.sg_graph.specs.Model.{graph_of}
use Rattle.sg_graph.proofs.FirstIndex.{unfound_name}
use Rattle.sg_graph.proofs.Growth.{IsGraph-with_role}
use Rattle.sg_graph.proofs.graph.Graph.add_role.Goals as goal

pub invariant_of-self-2 : goal.invariant_of-self-2
invariant_of-self-2 c =
    let items : c.self.inside.roles.items ++ c.args.name ∷ [] ≡ c.push.new.self.items = search rules in
    let new = unfound_name c.find_role.result c.is_some.result (λ g. g.roles) c.args.name (graph_of c.self.inside) _ c.self.view_is c.find_role.ensures.found c.is_some.ensures c.if-is_some.false in
    let whole = IsGraph-with_role (graph_of c.self.inside) c.args.name c.self.invariant.graph c.as_bytes-bytes.ensures.name c.requires new (omega arith) in
    record {
      graph = subst (λ (rs : List Name). IsGraph (record (graph_of c.self.inside) { roles = rs })) items whole;
      labels = c.self.invariant.labels;
      leaving = c.self.invariant.leaving;
    }
