use Rattle.std.proofs.Common.{◌≡◌, ◌<◌, ◌∙◌, ℕ, sym, subst, ap, map}
use Rattle.std.specs.List.{AllByRecursion}
use Rattle.sg_model.specs.Lists.{is_in}
use Rattle.sg_walk.specs.Model.{event_of, steps_of}
use Rattle.sg_audit.specs.Model.{log_of, logs_of, reported_of}
use Rattle.sg_audit.specs.Merged.{roles_of}
use Rattle.sg_audit.proofs.Answering.{same_honest, asked, agrees, disagrees, small_roles}
use Rattle.sg_audit.proofs.explain.explain.Goals as goal

pub roles_of-honest-requires : goal.roles_of-honest-requires
roles_of-honest-requires c =
    subst (λ ls. AllByRecursion (λ l. l.0 < 16) (map log_of ls)) (sym c.as_slice.ensures) (small_roles c.args.graph.now (logs_of c.args.session.now) c.roles-roles.ensures.graph c.requires.logs.each)

pub returns-then-check_part : goal.returns-then-check_part
returns-then-check_part c =
    let same : (r : ℕ) → is_in r c.roles_of-honest.result ≡ is_in r (roles_of (logs_of c.args.session.now)) = λ r. c.roles_of-honest.ensures r ∙ ap (λ ls. is_in r (roles_of (map log_of ls))) c.as_slice.ensures in (
      agrees c.args.graph.now (logs_of c.args.session.now) (reported_of c.args.session.now) (map event_of c.args.merged.now) (steps_of c.in_ok-walk.walk) c.requires.logs c.requires.merged c.requires.apart c.requires.ascend
          (same_honest c.args.graph.now c.roles_of-honest.result (roles_of (logs_of c.args.session.now)) (map event_of c.args.merged.now) (steps_of c.in_ok-walk.walk) same (c.check_part.ensures.0 c.if-check_part.true)),
      asked (reported_of c.args.session.now) (steps_of c.in_ok-walk.walk) _ c.in_ok-walk.ensures,
    )

pub returns-else-check_part : goal.returns-else-check_part
returns-else-check_part c =
    let same : (r : ℕ) → is_in r (roles_of (logs_of c.args.session.now)) ≡ is_in r c.roles_of-honest.result = λ r. sym (c.roles_of-honest.ensures r ∙ ap (λ ls. is_in r (roles_of (map log_of ls))) c.as_slice.ensures) in (
      c.requires.apart,
      disagrees c.args.graph.now (logs_of c.args.session.now) (reported_of c.args.session.now) (map event_of c.args.merged.now) (steps_of c.in_ok-walk.walk) c.roles-roles.ensures.graph c.requires.logs c.requires.merged c.in_ok-walk.ensures
          (λ p. let t = c.check_part.ensures.1 (same_honest c.args.graph.now (roles_of (logs_of c.args.session.now)) c.roles_of-honest.result (map event_of c.args.merged.now) (steps_of c.in_ok-walk.walk) same p) in let f = c.if-check_part.false in absurd (cc)),
    )
