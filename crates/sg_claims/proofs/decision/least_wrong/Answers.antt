use Rattle.std.proofs.Common.{◌≡◌, ◌<◌, ◌≤◌, ℕ, not, length, get_or, inl, inr, sym, ◌∙◌, ap, subst, arith}
use Rattle.std.proofs.lemmas.List.{length-map}
use Rattle.sg_model.specs.Lists.{is_in}
use Rattle.sg_model.specs.Shape.{source}
use Rattle.sg_model.specs.Claims.{Claim, right_bit}
use Rattle.sg_model.proofs.Small.{clash}
use Rattle.sg_protocol.specs.Graph.{shape}
use Rattle.sg_claims.proofs.Cases.{less_or, separated}
use Rattle.sg_graph.proofs.Left.{at_index, left_at_first}
use Rattle.sg_claims.proofs.Rising.{leaving_rise, left_at_least}
use Rattle.sg_claims.proofs.decision.least_wrong.Goals as goal

pub returns-then-is_later-clause-some : goal.returns-then-is_later-clause-some
returns-then-is_later-clause-some c =
    let g = shape c.args.graph.now in
    let later = c.args.claim.now.later in
    let l : ℕ = c.label-item.result in
    let node : ℕ = c.args.node in
    let labels = c.edges_from-label-items.result.now in
    let at = c.loop-label.label-index in
    let here = at_index (λ e. (e < length c.args.graph.now.edges) × (source g e ≡ node)) labels at l c.edges_from-label-items.ensures.each c.loop-label-test.true c.label-item.is in
    let rises : (i j : ℕ) → i < j → j < length labels → get_or labels i 0 < get_or labels j 0 =
    subst (λ ls. (i j : ℕ) → i < j → j < length ls → get_or ls i 0 < get_or ls j 0) (sym c.edges_from-label-items.ensures.labels) (λ i j b d. leaving_rise c.args.graph.now node i j b d) in
    record {
      is_edge = rw length-map here.0.0;
      leaves = here.0.1;
      is_later = sym c.is_later.ensures ∙ c.if-is_later.true;
      wrong = separated c.args.bit c.right_bit.result c.if-bit-right_bit.false ∙ ap not (c.right_bit.ensures ∙ ap right_bit (ap (λ (k : Claim). k.kind) c.claim.view_is));
      least = λ e d s i.
          (let k = left_at_first labels e (c.edges_from-label-items.ensures.all e (rw length-map at d) s) in
          elim (less_or k.0 at) [
            | inl y ↦ clash (is_in e later) i (ap (λ n. is_in n later) (sym k.3) ∙ c.loop-label.invariant k.0 y)
            | inr m ↦ subst (λ n. n ≤ e) (sym here.1) (left_at_least labels rises at e (k.0, m, k.2, k.3))
          ]);
    }

pub returns-clause-none : goal.returns-clause-none
returns-clause-none c = λ none e d s i.
    let later = c.args.claim.now.later in
    let labels = c.edges_from-label-items.result.now in
    let k = left_at_first labels e (c.edges_from-label-items.ensures.all e (rw length-map at d) s) in
    let before : k.0 < c.loop-label.label-index = (let short = k.2 in omega (arith, short, c.loop-label-test.false)) in
    clash (is_in e later) i (ap (λ n. is_in n later) (sym k.3) ∙ c.loop-label.invariant k.0 before)
