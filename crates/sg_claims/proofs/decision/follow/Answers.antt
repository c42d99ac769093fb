use Rattle.std.proofs.Common.{◌≡◌, false, ◌<◌, ◌+◌, ℕ, length, get_or, refl, inl, inr, sym, ◌∙◌, ap, subst, arith}
use Rattle.std.proofs.lemmas.List.{length-map, get_or_read}
use Rattle.sg_graph.specs.declared.edge.Edge.{Edge}
use Rattle.sg_model.specs.Shape.{source, target}
use Rattle.sg_model.specs.Claims.{bit_after}
use Rattle.sg_protocol.specs.Graph.{shape}
use Rattle.sg_claims.specs.Search.{Any, IsSound, entry_at}
use Rattle.sg_claims.specs.declared.search.Entry.{Entry}
use Rattle.sg_claims.proofs.Following.{followed}
use Rattle.sg_graph.proofs.Left.{IsLeft, at_index, left_at_first, left_on, none_left}
use Rattle.sg_claims.proofs.Rising.{leaving_rise, left_before, left_greater}
use Rattle.sg_claims.proofs.Searching.{search_with, goes_on}
use Rattle.sg_claims.proofs.decision.follow.Goals as goal

pub loop-label-init : goal.loop-label-init
loop-label-init c =
    let g = shape c.args.graph.now in
    let entries = c.args.search.now.entries.items in
    let labels = c.edges_from-label-items.result.now in
    let here : entry_at entries c.args.at ≡ c.index-entry.result.now = sym (get_or_read entries c.args.at c.index-entry.result.now c.requires.there c.index-entry.ensures (record { node = 0; bit = false; from = 0; last = 0 })) in
    record {
      search = search_with g c.args.claim.now c.args.at Any (IsLeft labels 0) entries c.args.search.now.seen c.requires.search
          (λ e l s k. inr (left_at_first labels e (c.edges_from-label-items.ensures.all e (rw length-map at l) (s ∙ ap (λ (x : Entry). x.node) here)))) (λ e k. tt);
      there = c.requires.there;
      here = here;
    }

pub loop-label-preserved : goal.loop-label-preserved
loop-label-preserved c =
    let g = shape c.args.graph.now in
    let l : ℕ = c.label-item.result in
    let s = c.loop-label.search in
    let x = c.loop-label.invariant in
    let node : ℕ = c.index-entry.result.now.node in
    let labels = c.edges_from-label-items.result.now in
    let at = c.loop-label.label-index in
    let here = at_index (λ e. (e < length c.args.graph.now.edges) × (source g e ≡ node)) labels at l c.edges_from-label-items.ensures.each c.loop-label-test.true c.label-item.is in
    let inner : l < length g.edges = rw length-map here.0.0 in
    let to : c.edge.result.now.target ≡ target g l = ap (λ (e : Edge). e.target) c.edge.ensures.edge in
    let small : c.edge.result.now.target < 256 = omega (arith, c.edge.ensures.ends.1, c.nodes-nodes.ensures.graph.sizes.2) in
    let bit = c.next_bit.ensures ∙ sym (ap (λ (y : Entry). bit_after c.args.claim.now y.bit l) x.here) in
    let leaves : source g l ≡ (entry_at s.entries.items c.args.at).node = here.0.1 ∙ sym (ap (λ (y : Entry). y.node) x.here) in
    let rises : (i j : ℕ) → i < j → j < length labels → get_or labels i 0 < get_or labels j 0 =
    subst (λ ls. (i j : ℕ) → i < j → j < length ls → get_or ls i 0 < get_or ls j 0) (sym c.edges_from-label-items.ensures.labels) (λ i j b d. leaving_rise c.args.graph.now node i j b d) in
    let moved = followed g c.args.claim.now c.args.at (IsLeft labels at) (IsLeft labels (at + 1)) s.entries.items c.enter.new.self.entries.items s.seen c.enter.new.self.seen
    (record { node = c.edge.result.now.target; bit = c.next_bit.result; from = c.args.at; last = l }) x.search x.there to bit refl (at, omega arith, c.loop-label-test.true, sym here.1) inner leaves small
    (λ e k. elim (left_on labels at e k) [ inl same ↦ inl (same ∙ sym here.1) | inr more ↦ inr more ]) (left_before labels at)
    (λ e k. subst (λ n. n < e) (sym here.1) (left_greater labels rises at e k)) c.in_ok-enter.ensures.known c.in_ok-enter.ensures.entered in
    record { search = moved.0; there = moved.1; here = moved.2 ∙ x.here }

pub returns : goal.returns
returns c =
    let g = shape c.args.graph.now in
    let s = c.loop-label.search in
    let x = c.loop-label.invariant in
    let entries = c.args.search.now.entries.items in
    let labels = c.edges_from-label-items.result.now in
    let first : entry_at entries c.args.at ≡ c.index-entry.result.now = sym (get_or_read entries c.args.at c.index-entry.result.now c.requires.there c.index-entry.ensures (record { node = 0; bit = false; from = 0; last = 0 })) in
    let same : entry_at entries c.args.at ≡ entry_at s.entries.items c.args.at = first ∙ sym x.here in
    goes_on g c.args.claim.now c.args.at s.entries.items s.seen
    (search_with g c.args.claim.now c.args.at (IsLeft labels c.loop-label.label-index) (λ _. ⊥) s.entries.items s.seen x.search (λ e l d k. absurd (none_left labels c.loop-label.label-index e c.loop-label-test.false k)) (λ e k. absurd k))
    (subst (λ (y : Entry). IsSound g c.args.claim.now y.node y.bit) same c.requires.sound)
