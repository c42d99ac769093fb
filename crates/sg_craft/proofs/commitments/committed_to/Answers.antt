use Rattle.std.proofs.Common.{◌≡◌, ℕ, ◌<◌, ◌∙◌, ap, sym, List, [], ◌∷◌, ◌++◌, map, length, take, get_or, arith}
use Rattle.std.proofs.lemmas.List.{map-append, take_more}
use Rattle.sg_model.specs.Values.{Opening}
use Rattle.sg_protocol.specs.Texts.{real, commitment}
use Rattle.sg_craft.proofs.commitments.committed_to.Goals as goal

pub loop-opening-preserved : goal.loop-opening-preserved
loop-opening-preserved c =
    let i : ℕ = c.loop-opening.opening-index in
    let lt : i < length c.args.openings.now = omega arith in
    let d : Opening = c.opening-item.result in
    let f : Opening → ℕ × List ℕ = λ o. (o.variable, commitment real c.args.sid.now o) in
    let this : (c.opening.inside.var, c.commit.result) ≡ f d = λ j. ((c.opening.view_is j).variable, c.commit.ensures j) in
    c.in_ok-push.ensures.ok
    ∙ (λ j. c.loop-opening.invariant j ++ (this ∙ ap f c.opening-item.is) j ∷ [])
    ∙ sym (map-append f (take i c.args.openings.now) (get_or c.args.openings.now i d ∷ []))
    ∙ ap (map f) (sym (take_more c.args.openings.now i d lt))
