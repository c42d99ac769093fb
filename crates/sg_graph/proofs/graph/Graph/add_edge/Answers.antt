use Rattle.std.proofs.Common.{◌≡◌, ℕ, get_or, set, ◌<◌, List, [], ◌∷◌, ◌++◌, length, sym, ◌∙◌, ap, subst, arith, rules}
use Rattle.std.proofs.lemmas.List.{length-map}
use Rattle.sg_protocol.specs.Graph.{Graph, IsGraph, Edge, AreNumbers}
use Rattle.sg_graph.specs.Adding.{with_edge}
use Rattle.sg_graph.specs.Edges.{leaving_of}
use Rattle.sg_graph.specs.Parts.{edge_names}
use Rattle.sg_graph.specs.Model.{graph_of, edge_of}
use Rattle.sg_graph.specs.declared.graph.NamedEdge.{NamedEdge}
use Rattle.sg_graph.proofs.FirstIndex.{unfound_name}
use Rattle.sg_graph.proofs.Growth.{IsGraph-with_edge}
use Rattle.sg_graph.proofs.ModelLaws.{labels-append, one_more}
use Rattle.sg_graph.proofs.Leaving.{leaving_of-edge, length-leaving_of}
use Rattle.sg_graph.proofs.graph.Graph.add_edge.Goals as goal

pub put_label-requires : goal.put_label-requires
put_label-requires c =
    let from = subst (λ (g : Graph). c.args.source < length g.nodes) (sym c.self.view_is) c.requires.source in
    subst (λ k. c.args.source < k) (sym (ap length c.self.invariant.leaving ∙ length-leaving_of (graph_of c.self.inside))) from

pub invariant_of-self-2 : goal.invariant_of-self-2
invariant_of-self-2 c =
    let part : NamedEdge = record {
      name = c.args.name;
      edge = record { label = c.len-number.result; source = c.args.source; target = c.args.target; writes = c.args.writes; reads = c.args.reads };
    } in
    let pushed : c.self.inside.edges.items ++ part ∷ [] ≡ c.put.new.items.items = search rules in
    let items = one_more edge_of c.self.inside.edges.items c.put.new.items.items part pushed in
    let new = unfound_name c.find_edge.result c.is_some.result edge_names c.args.name (graph_of c.self.inside) _ c.self.view_is c.find_edge.ensures.found c.is_some.ensures c.if-is_some.false in
    let from = subst (λ (g : Graph). c.args.source < length g.nodes) (sym c.self.view_is) c.requires.source in
    let to = subst (λ (g : Graph). c.args.target < length g.nodes) (sym c.self.view_is) c.requires.target in
    let written = subst (λ (g : Graph). AreNumbers (length g.variables) c.args.writes) (sym c.self.view_is) c.requires.writes in
    let read = subst (λ (g : Graph). AreNumbers (length g.variables) c.args.reads) (sym c.self.view_is) c.requires.reads in
    let kept : length c.self.inside.edges.items < 512 = omega arith in
    let room : length (graph_of c.self.inside).edges < 512 = rw length-map kept in
    let whole = IsGraph-with_edge (graph_of c.self.inside) (edge_of part) c.self.invariant.graph c.as_bytes-bytes.ensures.name c.requires.name new from to written read room in
    let put : c.put_label.new.lists.items ≡ set c.self.inside.leaving.items c.args.source (get_or c.self.inside.leaving.items c.args.source [] ++ c.len-number.result ∷ []) = search rules in
    let number : c.len-number.result ≡ length (graph_of c.self.inside).edges = rw length-map (omega arith) in
    let put' : c.put_label.new.lists.items ≡ set c.self.inside.leaving.items c.args.source (get_or c.self.inside.leaving.items c.args.source [] ++ length (graph_of c.self.inside).edges ∷ []) =
    put ∙ ap (λ (k : ℕ). set c.self.inside.leaving.items c.args.source (get_or c.self.inside.leaving.items c.args.source [] ++ k ∷ [])) number in
    let lists : c.put_label.new.lists.items ≡ leaving_of (with_edge (graph_of c.self.inside) (edge_of part)) =
    leaving_of-edge (graph_of c.self.inside) (edge_of part) c.self.inside.leaving.items c.put_label.new.lists.items from c.self.invariant.leaving put' in
    record {
      graph = subst (λ (xs : List Edge). IsGraph (record (graph_of c.self.inside) { edges = xs })) items whole;
      labels = labels-append c.self.inside.edges.items part c.put.new.items.items c.self.invariant.labels (omega arith) pushed;
      leaving = lists ∙ ap (λ (xs : List Edge). leaving_of (record (graph_of c.self.inside) { edges = xs })) items;
    }
