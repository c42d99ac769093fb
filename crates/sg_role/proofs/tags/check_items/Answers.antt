use Rattle.std.proofs.Common.{◌≡◌, ◌+◌, ◌<◌, ◌≤◌, true, List, ℕ, Option, ◌∷◌, [], ◌++◌, length, sym, ap, subst, ◌∙◌, arith}
use Rattle.sg_protocol.specs.Frame.{Item}
use Rattle.sg_protocol.specs.Notes.{Notes, note_of}
use Rattle.sg_protocol.specs.Session.{principal}
use Rattle.sg_protocol.specs.Texts.{real}
use Rattle.sg_protocol.specs.Verdict.{has_item_tag}
use Rattle.sg_role.specs.Looking.{bare, overwritten, text_for}
use Rattle.sg_role.specs.Model.{state_of}
use Rattle.sg_role.proofs.Looked.{Looking, begins, goes_right, goes_last}
use Rattle.sg_role.proofs.tags.check_items.Goals as goal
use Rattle.sg_role.proofs.tags.check_items.Goals.{then-at-items+in_ok-check_item, else-at-items}

pub loop-at-init : goal.loop-at-init
loop-at-init c = subst (λ cs. Looking c.args.keys.now (state_of c.args.kept.now).held c.args.items.now c.args.notes.now 0 cs c.args.notes.now) (sym (c.in_ok-commitments.ensures ∙ c.as_slice.ensures.value))
    (begins c.args.keys.now (state_of c.args.kept.now).held c.args.items.now c.args.notes.now)

pub loop-at-preserved : goal.loop-at-preserved
loop-at-preserved c =
    let h = (state_of c.args.kept.now).held in
    let keys = c.args.keys.now in
    let i = c.index-items-at.result in
    let n = c.loop-at.notes in
    let l : c.loop-at.at < length c.args.items.now = omega (arith, c.loop-at-test.true) in
    let next : List (Option (List ℕ)) = overwritten c.loop-at.commitments.items i.delta in
    let over : c.overwrite.new.commitments.items ≡ next =
    c.overwrite.ensures ∙ ap (overwritten c.loop-at.commitments.items) (c.as_slice-in-loop-at.ensures ∙ ap (λ (i : Item). i.delta) c.item.view_is) in
    let back : (new : Notes) → c.if-at-items.notes ≡ new → Looking keys h c.args.items.now c.args.notes.now (c.loop-at.at + 1) next new → Looking keys h c.args.items.now c.args.notes.now (c.loop-at.at + 1) c.overwrite.new.commitments.items c.if-at-items.notes =
    λ new e k. subst (λ cs. Looking keys h c.args.items.now c.args.notes.now (c.loop-at.at + 1) cs c.if-at-items.notes) (sym over) (subst (Looking keys h c.args.items.now c.args.notes.now (c.loop-at.at + 1) next) (sym e) k) in
    elim c.if-at-items.branch [
      | then-at-items+in_ok-check_item w ↦ (
          let more : c.loop-at.at + 1 < length c.args.items.now = omega (arith, w.if-at-items) in
          let at_now = w.as_slice-then-at-items.ensures.value ∙ over in
          back w.check_item.new.notes w.notes-is (goes_right keys h c.args.items.now c.args.notes.now c.loop-at.at i l c.index-items-at.is c.loop-at.commitments.items n c.loop-at.invariant w.check_item.new.notes more
          (subst (λ cs. has_item_tag real keys (bare h) (i, text_for h cs i) ≡ true) at_now w.in_ok-check_item.ensures.right)
          (subst (λ cs. w.check_item.new.notes ≡ record n { found = n.found ++ note_of keys.me (principal h.cast i.role) (text_for h cs i) ∷ [] }) at_now w.in_ok-check_item.ensures.noted)))
      | else-at-items w ↦ (
          let last : length c.args.items.now ≤ c.loop-at.at + 1 = omega (arith, w.if-at-items) in
          back n w.notes-is (goes_last keys h c.args.items.now c.args.notes.now c.loop-at.at i l c.index-items-at.is c.loop-at.commitments.items n c.loop-at.invariant last))
    ]
