use Rattle.std.proofs.Common.{◌≡◌, ℕ, take, sym, ◌∙◌, ap, subst, arith}
use Rattle.std.specs.Prelude.{Some}
use Rattle.std.proofs.lemmas.List.{take_all}
use Rattle.sg_model.specs.Lists.{is_in}
use Rattle.sg_model.specs.Shape.{source}
use Rattle.sg_protocol.specs.Graph.{shape}
use Rattle.sg_know.specs.declared.states.WalkState.{WalkState}
use Rattle.sg_know.specs.declared.states.ReachedState.{ReachedState}
use Rattle.sg_graph.specs.Edges.{leaving_from}
use Rattle.sg_know.specs.States.{Has, Enters, state_along, state_at}
use Rattle.sg_know.proofs.Outgoing.{leaves_in, listed_leaves, taken_more}
use Rattle.sg_know.proofs.Reaching.{AreReached-enters, AreThere-enters, Extends-enters, Extends-length, Extends-more, Has-enters, Has-extends, state_stays}
use Rattle.sg_know.proofs.closure.follow.Goals as goal

pub along-requires : goal.along-requires
along-requires c =
    let g = c.args.graph.now in
    let is = c.edges_from-label-items.ensures.labels in
    (listed_leaves g c.edges_from-label-items.result.now c.state-state.result.node c.loop-label.label-index c.label-item.result is c.loop-label-test.true c.label-item.is).0

pub loop-label-preserved : goal.loop-label-preserved
loop-label-preserved c =
    let g = c.args.graph.now in
    let r = c.args.role in
    let x = c.args.var in
    let at = c.args.at in
    let e = c.label-item.result in
    let first = c.args.states.now in
    let old = c.loop-label.states in
    let new = c.enter.new.self in
    let labels = c.edges_from-label-items.result.now in
    let held = c.loop-label.invariant in
    let is = c.edges_from-label-items.ensures.labels in
    let edge = listed_leaves g labels c.state-state.result.node c.loop-label.label-index e is c.loop-label-test.true c.label-item.is in
    let same : state_at old at ≡ state_at first at = state_stays first old at held.grows c.requires.there in
    let here : c.state-state.result ≡ state_at old at = c.state-state.ensures.state ∙ sym same in
    let t : ReachedState = record { state = c.along.result; by = Some (record { from = at; label = e }) } in
    let enters : Enters old t new = c.in_ok-enter.ensures.ok in
    let enters' = subst (λ (s : WalkState). Enters old (record { state = s; by = Some (record { from = at; label = e }) }) new) (c.along.ensures.state ∙ ap (state_along g r x e) here) enters in
    let goes_on = Extends-enters old new t enters in
    record {
      reached = AreReached-enters g r x at e old new held.reached (omega (arith, c.requires.there, Extends-length first old held.grows)) edge.0 (edge.1 ∙ ap (λ (s : WalkState). s.node) here) enters';
      nodes = AreThere-enters g old new t held.nodes c.along.ensures.there enters;
      grows = Extends-more first old new held.grows goes_on;
      followed = taken_more (λ (f : ℕ). Has new (state_along g r x f (state_at first at))) labels c.loop-label.label-index e c.loop-label-test.true
          (λ f h. Has-extends old new (state_along g r x f (state_at first at)) goes_on (held.followed f h))
          (subst (λ (f : ℕ). Has new (state_along g r x f (state_at first at))) c.label-item.is
          (subst (Has new) (c.along.ensures.state ∙ ap (state_along g r x e) c.state-state.ensures.state) (Has-enters old new t enters)));
    }

pub returns-clause-followed : goal.returns-clause-followed
returns-clause-followed c e l leaves =
    let g = c.args.graph.now in
    let labels = c.edges_from-label-items.result.now in
    let is = c.edges_from-label-items.ensures.labels in
    let whole : take c.loop-label.label-index labels ≡ leaving_from g c.state-state.result.node = take_all c.loop-label.label-index labels c.loop-label-test.false ∙ is in
    let leaves' : source (shape g) e ≡ c.state-state.result.node = leaves ∙ ap (λ (s : WalkState). s.node) (sym c.state-state.ensures.state) in
    c.loop-label.invariant.followed e (ap (is_in e) whole ∙ leaves_in g c.state-state.result.node e l leaves')
