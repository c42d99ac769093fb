use Rattle.std.proofs.Common.{rules, inl, inr, ap}
use Rattle.sg_role.proofs.Lists.{members_next}
use Rattle.sg_role.proofs.own.roles_of.Goals as goal
use Rattle.sg_role.proofs.own.roles_of.Goals.{then-has+in_ok-push, else-has}

pub loop-number-preserved : goal.loop-number-preserved
loop-number-preserved c =
    members_next c.args.set c.loop-number.number c.has.result c.loop-number.list.items c.if-has.list.items c.has.ensures c.loop-number.invariant (elim c.if-has.branch [
      | then-has+in_ok-push w ↦ inl (w.if-has.true, search rules)
      | else-has w ↦ inr (w.if-has.false, ap (λ l. l.items) w.list-is)
    ])
