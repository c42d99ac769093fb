use Rattle.std.proofs.Common.{◌≡◌, ℕ, true, length, nat_lt, sym, ap, ◌∙◌, subst, arith}
use Rattle.std.specs.List.{list_all}
use Rattle.sg_model.specs.Values.{Value}
use Rattle.sg_graph.specs.declared.edge.Edge.{Edge}
use Rattle.sg_protocol.specs.Graph.{AreNumbers, writes}
use Rattle.sg_walk.specs.Model.{values_of}
use Rattle.sg_role.proofs.ValueLaws.{none_above}
use Rattle.sg_role.proofs.values.bound.Goals as goal

pub returns-then-are_below-clause-none : goal.returns-then-are_below-clause-none
returns-then-are_below-clause-none c = λ x l m.
    let g = c.args.graph.now in
    let n = length g.variables in
    let written : AreNumbers n (writes g c.args.label) = subst (AreNumbers n) (ap (λ (e : Edge). e.writes) c.edge.ensures.edge) c.edge.ensures.sets.0 in
    let given : list_all (λ (w : ℕ × Value). nat_lt w.0 n) (values_of c.args.values.now) ≡ true =
    ap (λ k. list_all (λ (w : ℕ × Value). nat_lt w.0 k) (values_of c.args.values.now)) (sym c.vars-count.ensures.count) ∙ sym c.are_below.ensures ∙ c.if-are_below.true in
    none_above g c.args.label n (values_of c.args.values.now) x written given (omega (arith, l, c.vars-count.ensures.count))
