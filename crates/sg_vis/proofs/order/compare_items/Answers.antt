use Rattle.std.proofs.Common.{◌≤◌, ◌⊎◌, length, sym, ◌∙◌, inl, inr, arith}
use Rattle.sg_vis.proofs.Ordered.{ended}
use Rattle.sg_vis.proofs.order.compare_items.Goals as goal
use Rattle.sg_vis.proofs.order.compare_items.Goals.{then-loop-at-test+else-at-two, else-loop-at-test}

pub returns-clause-order : goal.returns-clause-order
returns-clause-order c =
    let done : (length c.args.one.now ≤ c.loop-at.at) ⊎ (length c.args.two.now ≤ c.loop-at.at) =
    elim c.loop-at-test.branch [ then-loop-at-test+else-at-two w ↦ inr (omega arith) | else-loop-at-test w ↦ inl (omega arith) ] in
    c.cmp.ensures ∙ sym (c.loop-at.invariant.3 ∙ ended c.loop-at.at c.args.one.now c.args.two.now c.loop-at.invariant.0 c.loop-at.invariant.1 done)
