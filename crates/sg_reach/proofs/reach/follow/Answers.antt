use Rattle.std.proofs.Common.{◌≡◌, ◌<◌, ◌+◌, ℕ, false, length, refl, inl, inr, sym, ◌∙◌, ap, arith}
use Rattle.std.specs.Prelude.{Some, None, option_map}
use Rattle.std.proofs.lemmas.List.{length-map, get_or_default}
use Rattle.sg_graph.specs.declared.edge.Edge.{Edge}
use Rattle.sg_model.specs.Lists.{is_in}
use Rattle.sg_model.specs.Shape.{source, target, role_at}
use Rattle.sg_protocol.specs.Graph.{shape}
use Rattle.sg_reach.specs.WalkEnd.{found_at}
use Rattle.sg_reach.specs.declared.search.WalkEnd.{WalkEnd}
use Rattle.sg_graph.proofs.Left.{IsLeft, left_at_first, left_on, none_left, at_index}
use Rattle.sg_reach.proofs.Searching.{search_with, followed, count_free}
use Rattle.sg_reach.proofs.reach.follow.Goals as goal

pub loop-label-init : goal.loop-label-init
loop-label-init c =
    let g = shape c.args.graph.now in
    let n = c.args.node in
    let labels = c.edges_from-label-items.result.now in
    let small : n < 256 = omega (arith, c.requires.there, c.nodes-nodes.ensures.graph.sizes.2) in
    let inner : c.node.inside.0 < length c.args.search.now.found = omega (arith, small, c.requires.search.found.sizes.0, c.node.view_is) in
    let found : found_at c.args.search.now.found n ≡ Some c.in-Some.found =
    ap (found_at c.args.search.now.found) (sym c.node.view_is) ∙ get_or_default c.args.search.now.found c.node.inside.0 None _ inner ∙ c.in-Some.is in
    record {
      search = search_with g (λ e. source g e ≡ n) (IsLeft labels 0) c.args.search.now c.requires.search (λ e l p leaves. inr (left_at_first labels e (c.edges_from-label-items.ensures.all e (rw length-map at l) leaves)));
      walk = (c.in-Some.found.edges, omega arith, ap (option_map (λ (f : WalkEnd). f.edges)) found);
      from = refl;
      past = refl;
      at = refl;
    }

pub edge-requires : goal.edge-requires
edge-requires c =
    (at_index (λ e. (e < length c.args.graph.now.edges) × (source (shape c.args.graph.now) e ≡ c.args.node)) c.edges_from-label-items.result.now c.loop-label.label-index c.label-item.result c.edges_from-label-items.ensures.each c.loop-label-test.true
    c.label-item.is).0.0

pub enter-requires-clause-room : goal.enter-requires-clause-room
enter-requires-clause-room c = λ none.
    let s = c.loop-label.search in
    let x = c.loop-label.invariant.search in
    let fits : c.edge.result.now.target < length s.found = omega (arith, c.edge.ensures.ends.1, c.nodes-nodes.ensures.graph.sizes.2, x.found.sizes.0) in
    omega (arith, count_free s.found c.edge.result.now.target (record { edges = 0; last = 0 }) fits none, x.found.counted, x.found.sizes.0)

pub loop-label-preserved : goal.loop-label-preserved
loop-label-preserved c =
    let g = shape c.args.graph.now in
    let l : ℕ = c.label-item.result in
    let n : ℕ = c.args.node in
    let t : ℕ = c.edge.result.now.target in
    let s = c.loop-label.search in
    let labels = c.edges_from-label-items.result.now in
    let at = c.loop-label.label-index in
    let here = at_index (λ e. (e < length c.args.graph.now.edges) × (source (shape c.args.graph.now) e ≡ c.args.node)) labels at l c.edges_from-label-items.ensures.each c.loop-label-test.true c.label-item.is in
    let inner : l < length g.edges = rw length-map here.0.0 in
    let to : target g l ≡ t = sym (ap (λ (e : Edge). e.target) c.edge.ensures.edge) in
    let there : t < length g.roles = rw length-map c.edge.ensures.ends.1 in
    let small : t < 256 = omega (arith, c.edge.ensures.ends.1, c.nodes-nodes.ensures.graph.sizes.2) in
    let free : is_in (role_at g n) s.past ≡ false = rw c.loop-label.invariant.past c.requires.passed in
    let walk = c.loop-label.invariant.walk in
    let moved = followed g s c.enter.new.self n l t walk.0 (record { edges = c.in-Some.found.edges + 1; last = l }) (IsLeft labels at) (IsLeft labels (at + 1)) c.loop-label.invariant.search inner here.0.1 to there small free walk.2 walk.1 refl
    (λ e left. elim (left_on labels at e left) [ inl same ↦ inl (same ∙ sym here.1) | inr more ↦ inr more ]) c.enter.ensures.known c.enter.ensures.entered in
    record {
      search = moved.0;
      walk = (walk.0, walk.1, moved.1);
      from = moved.2 ∙ c.loop-label.invariant.from;
      past = moved.3 ∙ c.loop-label.invariant.past;
      at = moved.4 ∙ c.loop-label.invariant.at;
    }

pub returns-clause-search : goal.returns-clause-search
returns-clause-search c =
    let labels = c.edges_from-label-items.result.now in
    search_with (shape c.args.graph.now) (IsLeft labels c.loop-label.label-index) (λ _. ⊥) c.loop-label.search c.loop-label.invariant.search (λ e l p left. absurd (none_left labels c.loop-label.label-index e c.loop-label-test.false left))
