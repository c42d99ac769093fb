use Rattle.std.proofs.Common.{◌≡◌, ◌<◌, List, [], ◌∷◌, ◌++◌, length, sym, subst, arith, rules}
use Rattle.std.proofs.lemmas.List.{length-map}
use Rattle.sg_protocol.specs.Graph.{Graph, IsGraph, Variable, AreNumbers}
use Rattle.sg_graph.specs.Parts.{variable_names}
use Rattle.sg_graph.specs.Model.{graph_of, variable_of}
use Rattle.sg_graph.specs.declared.graph.Variable.{Variable as Kept}
use Rattle.sg_graph.proofs.FirstIndex.{unfound_name}
use Rattle.sg_graph.proofs.Growth.{IsGraph-with_variable}
use Rattle.sg_graph.proofs.ModelLaws.{one_more}
use Rattle.sg_graph.proofs.graph.Graph.add_var.Goals as goal

pub invariant_of-self-2 : goal.invariant_of-self-2
invariant_of-self-2 c =
    let part : Kept = record { name = c.args.name; kind = c.args.kind; writers = c.args.writers } in
    let pushed : c.self.inside.vars.items ++ part ∷ [] ≡ c.push.new.self.items = search rules in
    let items = one_more variable_of c.self.inside.vars.items c.push.new.self.items part pushed in
    let new = unfound_name c.find_var.result c.is_some.result variable_names c.args.name (graph_of c.self.inside) _ c.self.view_is c.find_var.ensures.found c.is_some.ensures c.if-is_some.false in
    let there = subst (λ (g : Graph). AreNumbers (length g.roles) c.args.writers) (sym c.self.view_is) c.requires.writers in
    let kept : length c.self.inside.vars.items < 32 = omega arith in
    let room : length (graph_of c.self.inside).variables < 32 = rw length-map kept in
    let whole = IsGraph-with_variable (graph_of c.self.inside) (variable_of part) c.self.invariant.graph c.as_bytes-bytes.ensures.name c.requires.name new there c.requires.some room in
    record {
      graph = subst (λ (xs : List Variable). IsGraph (record (graph_of c.self.inside) { variables = xs })) items whole;
      labels = c.self.invariant.labels;
      leaving = c.self.invariant.leaving;
    }
