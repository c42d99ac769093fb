use Rattle.std.proofs.Common.{◌≡◌, ℕ, suc, ◌<◌, ◌∙◌, ap, sym, subst, List, [], ◌∷◌, ◌++◌, length, take, drop, get_or, arith, Some, option_copied, append_assoc}
use Rattle.std.proofs.lemmas.List.{take_more}
use Rattle.sg_protocol.specs.Broken.{first_collision}
use Rattle.sg_protocol.specs.Texts.{real}
use Rattle.sg_certify.specs.Collisions.{Keeps}
use Rattle.sg_certify.proofs.CollisionLaws.{hits, keeps_more, split_at}
use Rattle.sg_certify.proofs.collision.add_all.Goals as goal

pub returns-in-Some : goal.returns-in-Some
returns-in-Some c = λ before k after.
    let i : ℕ = c.loop-text.text-index in
    let lt : i < length c.args.texts.now = omega arith in
    let d : List ℕ = c.text-item.result in
    let t : List ℕ = c.as_slice.result.now in
    let q : get_or c.args.texts.now i d ≡ t = sym c.text-item.is ∙ sym c.as_slice.ensures in
    let r : t ≡ c.as_slice-in-Some.result.now = c.as_slice.ensures ∙ sym c.as_slice-in-Some.ensures in
    ap (first_collision real) (split_at before c.args.texts.now after i d lt ∙ ap (λ x. (before ++ take i c.args.texts.now) ++ x ∷ (drop (suc i) c.args.texts.now ++ after)) q)
    ∙ hits (before ++ take i c.args.texts.now) c.loop-text.firsts t c.in-Some.one.now (c.loop-text.invariant before k) (sym c.in_ok-one.ensures.other ∙ ap option_copied c.in-Some.is) (drop (suc i) c.args.texts.now ++ after)
    ∙ ap (λ x. let p : List ℕ × List ℕ = (c.in-Some.one.now, x) in Some p) r

pub loop-text-preserved : goal.loop-text-preserved
loop-text-preserved c = λ before k.
    let i : ℕ = c.loop-text.text-index in
    let lt : i < length c.args.texts.now = omega arith in
    let d : List ℕ = c.text-item.result in
    let t : List ℕ = c.as_slice.result.now in
    let q : get_or c.args.texts.now i d ≡ t = sym c.text-item.is ∙ sym c.as_slice.ensures in
    subst (λ l. Keeps l c.add.new.self)
    (append_assoc before (take i c.args.texts.now) (t ∷ []) ∙ ap (λ l. before ++ l) (ap (λ x. take i c.args.texts.now ++ x ∷ []) (sym q) ∙ sym (take_more c.args.texts.now i d lt)))
    (keeps_more (before ++ take i c.args.texts.now) c.loop-text.firsts c.add.new.self t (c.loop-text.invariant before k) (sym c.in_ok-one.ensures.other ∙ ap option_copied c.in_default.is) c.in_ok-one.ensures.kept)
