use Rattle.std.proofs.Common.{◌≡◌, ◌<◌, ◌+◌, ap, sym, ◌∙◌, arith, subst}
use Rattle.sg_model.specs.Lists.{has_text}
use Rattle.sg_protocol.specs.Session.{principal}
use Rattle.sg_certify.proofs.HonestSets.{AreHonestBelow, honest_more, honest_same, there}
use Rattle.sg_certify.proofs.honest.honest_roles.Goals as goal
use Rattle.sg_certify.proofs.honest.honest_roles.Goals.{then-is_honest, else-is_honest}

pub loop-role-preserved : goal.loop-role-preserved
loop-role-preserved g c =
    let names = g.H.Honest.names c.args.honest.now in
    let less : c.loop-role.role < c.count-role-end.result = c.loop-role-test.true in
    let count = c.count-role-end.ensures.value in
    let bound = c.count-role-end.ensures.bounds.1 in
    let at : principal c.args.cast.now c.loop-role.role ≡ c.index-names-role.result =
    there c.args.cast.now c.names-names.result.now c.loop-role.role c.index-names-role.result c.names-names.ensures (omega (arith, less, count)) c.index-names-role.is in
    elim c.if-is_honest.branch [
      | then-is_honest w ↦
          subst (AreHonestBelow names c.args.cast.now (c.loop-role.role + 1)) (sym (w.roles-is ∙ w.with-roles.ensures))
          (honest_more names c.args.cast.now c.loop-role.role c.loop-role.roles (omega (arith, less, bound)) (ap (λ n. has_text n names) at ∙ sym c.is_honest.ensures ∙ w.if-is_honest.true) c.loop-role.invariant)
      | else-is_honest w ↦
          subst (AreHonestBelow names c.args.cast.now (c.loop-role.role + 1)) (sym w.roles-is)
          (honest_same names c.args.cast.now c.loop-role.role c.loop-role.roles (ap (λ n. has_text n names) at ∙ sym c.is_honest.ensures ∙ w.if-is_honest.false) c.loop-role.invariant)
    ]
