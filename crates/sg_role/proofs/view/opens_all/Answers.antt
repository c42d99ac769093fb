use Rattle.std.proofs.Common.{◌≡◌, ◌≤◌, length, map, sym, ap, ◌∙◌, subst, arith}
use Rattle.sg_model.specs.Lists.{is_in}
use Rattle.sg_model.specs.Values.{Opening}
use Rattle.sg_graph.specs.declared.edge.Edge.{Edge}
use Rattle.sg_graph.proofs.Sets.{numbers_within}
use Rattle.sg_protocol.specs.Graph.{Graph, AreNumbers, reads}
use Rattle.sg_role.proofs.Rising.{equal_rising}
use Rattle.sg_role.proofs.view.opens_all.Goals as goal

pub returns : goal.returns
returns c =
    let same = ap (λ (e : Edge). e.reads) c.edge.ensures.edge ∙ ap (λ (g : Graph). reads g c.args.label) c.graph.ensures.graph in
    let few : length c.graph.result.now.variables ≤ 32 = subst (λ (g : Graph). length g.variables ≤ 32) (sym c.graph.ensures.graph) c.graph.ensures.program.is_graph.sizes.1 in
    sym (equal_rising 32 (map (λ (o : Opening). o.variable) c.args.openings.now) (reads c.args.program.now.graph c.args.label) c.requires.variables
    (subst (AreNumbers 32) same (numbers_within (length c.graph.result.now.variables) 32 c.edge.result.now.reads few c.edge.ensures.sets.1))
    (λ x l. subst (λ ys. is_in x (map (λ (o : Opening). o.variable) c.args.openings.now) ≡ is_in x ys) same (c.loop-number.invariant x (omega (arith, l, c.loop-number-test.false)))))
