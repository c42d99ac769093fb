use Rattle.std.proofs.Common.{◌≡◌, ◌+◌, ◌<◌, ◌||◌, true, false, List, ℕ, [], ◌∷◌, ◌++◌, length, drop, sym, ap, ◌∙◌, arith}
use Rattle.sg_model.specs.Last.{Map, has, merge}
use Rattle.sg_model.specs.Lists.{in_order}
use Rattle.sg_protocol.specs.Frame.{Item}
use Rattle.sg_role.specs.Keeping.{kept_from}
use Rattle.sg_role.proofs.Keeping.{keeps_going, keeps_putting}
use Rattle.sg_role.proofs.next.keep_each.Goals as goal
use Rattle.sg_role.proofs.next.keep_each.Goals.{then-comes_again, else-comes_again+in_ok-with_delta+in_ok-push}

pub loop-at-preserved : goal.loop-at-preserved
loop-at-preserved c =
    let i = c.index-items-at.result in
    let items = c.args.items.now in
    let l : c.loop-at.at < length items = omega (arith, c.loop-at-test.true) in
    let its : c.in_ok-delta.delta ≡ in_order c.args.count (merge c.loop-at.earlier i.delta) =
    c.in_ok-delta.ensures ∙ ap (λ (e : Map (List ℕ)). in_order c.args.count (merge e c.as_slice-in-loop-at.result.now)) c.as_slice.ensures
    ∙ ap (λ (d : Map (List ℕ)). in_order c.args.count (merge c.loop-at.earlier d)) (c.as_slice-in-loop-at.ensures ∙ ap (λ (i : Item). i.delta) c.item.view_is) in
    let role = ap (λ (r : ℕ). has (λ (i : Item). i.role) r (drop (c.loop-at.at + 1) items) || has (λ (i : Item). i.role) r c.args.later.now) (sym (ap (λ (i : Item). i.role) c.item.view_is)) in
    elim c.if-comes_again.branch [
      | then-comes_again w ↦ (
          let again : (has (λ (i : Item). i.role) i.role (drop (c.loop-at.at + 1) items) || has (λ (i : Item). i.role) i.role c.args.later.now) ≡ true = role ∙ sym w.if-comes_again.ensures in
          keeps_going c.args.count items c.args.later.now c.loop-at.at i l c.index-items-at.is c.loop-at.list.items c.loop-at.earlier (c.args.list.now.items ++ kept_from c.args.count c.args.earlier (items ++ c.args.later.now)) c.loop-at.invariant again
          c.if-comes_again.list.items c.if-comes_again.earlier (ap (λ l. l.items) w.list-is) (w.earlier-is ∙ its))
      | else-comes_again+in_ok-with_delta+in_ok-push w ↦ (
          let again : (has (λ (i : Item). i.role) i.role (drop (c.loop-at.at + 1) items) || has (λ (i : Item). i.role) i.role c.args.later.now) ≡ false = role ∙ sym w.if-comes_again.ensures in
          let item : w.in_ok-with_delta.field-0 ≡ record i { delta = in_order c.args.count (merge c.loop-at.earlier i.delta) } = w.in_ok-with_delta.ensures ∙ ap (λ (d : Map (List ℕ)). record i { delta = d }) its in
          keeps_putting c.args.count items c.args.later.now c.loop-at.at i l c.index-items-at.is c.loop-at.list.items c.loop-at.earlier (c.args.list.now.items ++ kept_from c.args.count c.args.earlier (items ++ c.args.later.now)) c.loop-at.invariant again
          c.if-comes_again.list.items c.if-comes_again.earlier (ap (λ l. l.items) w.list-is ∙ w.in_ok-push.ensures.items ∙ ap (λ (j : Item). c.loop-at.list.items ++ j ∷ []) item) (w.earlier-is ∙ w.new-earlier.ensures))
    ]
