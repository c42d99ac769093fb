use Rattle.std.proofs.Common.{◌≡◌, ℕ, ◌<◌, List, [], ◌∷◌, ◌++◌, length, sym, ◌∙◌, ap, subst, arith, rules}
use Rattle.std.proofs.lemmas.List.{length-map}
use Rattle.sg_protocol.specs.Graph.{Graph, IsGraph, Node}
use Rattle.sg_graph.specs.Adding.{with_node}
use Rattle.sg_graph.specs.Edges.{leaving_of}
use Rattle.sg_graph.specs.Parts.{node_names}
use Rattle.sg_graph.specs.Model.{graph_of, node_of}
use Rattle.sg_graph.specs.declared.graph.Node.{Node as Kept}
use Rattle.sg_graph.proofs.FirstIndex.{unfound_name}
use Rattle.sg_graph.proofs.Growth.{IsGraph-with_node}
use Rattle.sg_graph.proofs.ModelLaws.{one_more}
use Rattle.sg_graph.proofs.Leaving.{leaving_of-node}
use Rattle.sg_graph.proofs.graph.Graph.add_node.Goals as goal

pub invariant_of-self-2 : goal.invariant_of-self-2
invariant_of-self-2 c =
    let part : Kept = record { name = c.args.name; role = c.args.role } in
    let pushed : c.self.inside.nodes.items ++ part ∷ [] ≡ c.put.new.items.items = search rules in
    let items = one_more node_of c.self.inside.nodes.items c.put.new.items.items part pushed in
    let new = unfound_name c.find_node.result c.is_some.result node_names c.args.name (graph_of c.self.inside) _ c.self.view_is c.find_node.ensures.found c.is_some.ensures c.if-is_some.false in
    let there = subst (λ (g : Graph). c.args.role < length g.roles) (sym c.self.view_is) c.requires.role in
    let kept : length c.self.inside.nodes.items < 256 = omega arith in
    let room : length (graph_of c.self.inside).nodes < 256 = rw length-map kept in
    let whole = IsGraph-with_node (graph_of c.self.inside) (node_of part) c.self.invariant.graph c.as_bytes-bytes.ensures.name c.requires.name new there room in
    let pushed' : c.push.new.self.items ≡ c.self.inside.leaving.items ++ [] ∷ [] = search rules in
    let lists : c.push.new.self.items ≡ leaving_of (with_node (graph_of c.self.inside) (node_of part)) =
    pushed' ∙ ap (λ (ls : List (List ℕ)). ls ++ [] ∷ []) c.self.invariant.leaving ∙ sym (leaving_of-node (graph_of c.self.inside) (node_of part) c.self.invariant.graph) in
    record {
      graph = subst (λ (xs : List Node). IsGraph (record (graph_of c.self.inside) { nodes = xs })) items whole;
      labels = c.self.invariant.labels;
      leaving = lists ∙ ap (λ (xs : List Node). leaving_of (record (graph_of c.self.inside) { nodes = xs })) items;
    }
