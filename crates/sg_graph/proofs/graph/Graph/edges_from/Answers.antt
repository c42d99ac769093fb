use Rattle.std.proofs.Common.{◌≡◌, ◌<◌, ◌∙◌, sym, subst, length, All, Contains}
use Rattle.sg_model.specs.Shape.{source}
use Rattle.sg_protocol.specs.Graph.{shape}
use Rattle.sg_graph.proofs.Leaving.{kept_at, kept_past, leaving-each, leaving-all}
use Rattle.sg_graph.proofs.graph.Graph.edges_from.Goals as goal

pub returns-in-Some-clause-labels : goal.returns-in-Some-clause-labels
returns-in-Some-clause-labels c =
    c.as_slice.ensures
    ∙ kept_at c.self.inside c.args.self.now c.deref.result.now c.node.inside.0 c.args.node c.in-Some.labels.now c.self.invariant c.self.view_is c.deref.ensures.value c.node.view_is
    c.in-Some.ensures.lookup.3.0 c.in-Some.ensures.lookup.1

pub returns-in-Some-clause-each : goal.returns-in-Some-clause-each
returns-in-Some-clause-each c =
    subst (All (λ e. (e < length c.args.self.now.edges) × (source (shape c.args.self.now) e ≡ c.args.node))) (sym (returns-in-Some-clause-labels c)) (leaving-each c.args.self.now c.args.node)

pub returns-in-Some-clause-all : goal.returns-in-Some-clause-all
returns-in-Some-clause-all c = λ e l s. subst (λ xs. Contains xs e) (sym (returns-in-Some-clause-labels c)) (leaving-all c.args.self.now c.args.node e l s)

pub returns-in-None-clause-labels : goal.returns-in-None-clause-labels
returns-in-None-clause-labels c =
    kept_past c.self.inside c.args.self.now c.deref.result.now c.node.inside.0 c.args.node c.self.invariant c.self.view_is c.deref.ensures.value c.node.view_is c.in-None.ensures.lookup.3

pub returns-in-None-clause-all : goal.returns-in-None-clause-all
returns-in-None-clause-all c = λ e l s. subst (λ xs. Contains xs e) (sym (returns-in-None-clause-labels c)) (leaving-all c.args.self.now c.args.node e l s)
