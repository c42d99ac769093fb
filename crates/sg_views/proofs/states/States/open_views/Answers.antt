use Rattle.std.proofs.Common.{◌≡◌, ◌<◌, ◌∷◌, ◌++◌, [], Vec, Global, true, false, length, get_or, sym, ap, ◌∙◌, arith}
use Rattle.std.proofs.lemmas.Option.{get_or_from_slice_get}
use Rattle.sg_views.specs.declared.open_view.OpenView.{OpenView}
use Rattle.sg_views.proofs.Growing.{open-more}
use Rattle.sg_views.proofs.states.States.open_views.Goals as goal
use Rattle.sg_views.proofs.states.States.open_views.Goals.{then-is_open+in_ok-copied+in_ok-push, else-is_open}

pub loop-at-preserved : goal.loop-at-preserved
loop-at-preserved c =
    let states = c.args.self.now in
    let at = c.loop-at.at in
    let p = c.get-state.result.now in
    let is : get_or states at p ≡ p = get_or_from_slice_get states at p p c.get-state.ensures in
    let l : at < length states = omega (arith, c.loop-at-test.true, c.len-at-end.ensures.len) in
    elim c.if-is_open.branch [
      | then-is_open+in_ok-copied+in_ok-push w ↦
          open-more states at p c.loop-at.list.items c.if-is_open.list.items true l is (sym c.is_open.ensures ∙ w.if-is_open.true) c.loop-at.invariant
          (ap (λ (v : Vec OpenView Global). v.items) w.list-is ∙ w.in_ok-push.ensures.items ∙ ap (λ o. c.loop-at.list.items ++ o ∷ []) w.in_ok-copied.ensures)
      | else-is_open w ↦
          open-more states at p c.loop-at.list.items c.if-is_open.list.items false l is (sym c.is_open.ensures ∙ w.if-is_open.false) c.loop-at.invariant
          (ap (λ (v : Vec OpenView Global). v.items) w.list-is)
    ]
