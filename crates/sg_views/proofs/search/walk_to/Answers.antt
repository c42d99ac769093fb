use Rattle.std.proofs.Common.{◌≡◌, ◌<◌, ◌++◌, ◌∷◌, [], length, get_or, reverse, subst, sym, ap, ◌∙◌, append_assoc, arith}
use Rattle.std.specs.Option.{IfSome}
use Rattle.std.proofs.lemmas.Option.{get_or_from_slice_get, slice_get-get_or}
use Rattle.std.proofs.lemmas.List.{reverse-append}
use Rattle.sg_views.specs.Search.{Arrives}
use Rattle.sg_views.specs.declared.states.State.{State}
use Rattle.sg_views.proofs.Reached.{no_state, arrives_first, arrives_linked}
use Rattle.sg_views.proofs.search.walk_to.Goals as goal

pub loop-index-preserved : goal.loop-index-preserved
loop-index-preserved c =
    let states = c.args.states.now in
    let index = c.loop-index.index in
    let last = c.get-last.result.now in
    let l : index < length states = c.loop-index.invariant.0 in
    let more : 0 < index = c.loop-index-test.true in
    let at : (d : State) → get_or states index d ≡ last = λ d. get_or_from_slice_get states index last d c.get-last.ensures in
    let back : last.before < index = subst (λ (p : State). p.before < index) (at no_state) (c.requires.back index no_state more l) in
    let labels : c.push.new.self.items ≡ c.loop-index.labels.items ++ last.label ∷ [] = c.in_ok-push.ensures.items in (
      omega arith,
      λ g r s d walk a.
          (let a' : Arrives g r (get_or states (get_or states index d).before d) walk = subst (λ (p : State). Arrives g r (get_or states p.before d) walk) (sym (at d)) a in
          let on : Arrives g r (get_or states index d) (walk ++ last.label ∷ []) = subst (λ (p : State). Arrives g r (get_or states index d) (walk ++ p.label ∷ [])) (at d) (arrives_linked g r states index d walk s more l a') in
          let whole : walk ++ reverse c.push.new.self.items ≡ (walk ++ last.label ∷ []) ++ reverse c.loop-index.labels.items =
          ap (λ ls. walk ++ reverse ls) labels ∙ ap (λ ls. walk ++ ls) (reverse-append c.loop-index.labels.items (last.label ∷ [])) ∙ sym (append_assoc walk (last.label ∷ []) (reverse c.loop-index.labels.items)) in
          subst (Arrives g r (get_or states c.args.at d)) (sym whole) (c.loop-index.invariant.1 g r s d (walk ++ last.label ∷ []) on)),
    )

pub returns : goal.returns
returns c = λ g r s.
    (let states = c.args.states.now in
    let first : c.loop-index.index ≡ 0 = omega (arith, c.loop-index-test.false) in
    let at : Arrives g r (get_or states c.loop-index.index no_state) [] = subst (λ n. Arrives g r (get_or states n no_state) []) (sym first) (arrives_first g r states no_state s) in
    let whole = c.loop-index.invariant.1 g r s no_state [] at in
    let walk : Arrives g r (get_or states c.args.at no_state) c.reverse.new.self.items = subst (Arrives g r (get_or states c.args.at no_state)) (sym c.reverse.ensures.items) whole in
    subst (λ o. IfSome o (λ p. Arrives g r p c.reverse.new.self.items)) (sym (slice_get-get_or states c.args.at no_state c.requires.there)) walk)
