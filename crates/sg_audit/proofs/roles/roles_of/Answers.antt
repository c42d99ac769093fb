use Rattle.std.proofs.Common.{◌≡◌, ◌<◌, ◌+◌, ◌-◌, ◌∙◌, ℕ, sym, ap, subst, arith, drop, map}
use Rattle.sg_model.specs.Lists.{is_in}
use Rattle.sg_base.specs.Sets.{with_member}
use Rattle.sg_audit.specs.Model.{log_of}
use Rattle.sg_audit.specs.Merged.{roles_of}
use Rattle.sg_audit.proofs.Honest.{one_more, small_at}
use Rattle.sg_audit.proofs.roles.roles_of.Goals as goal

pub with-roles-requires : goal.with-roles-requires
with-roles-requires c = subst (λ x. x.0 < 16) c.index-logs-left.is (small_at c.args.logs.now (c.loop-left.left - 1) c.index-logs-left.result c.requires (omega arith) c.index-logs-left.is)

pub loop-left-preserved : goal.loop-left-preserved
loop-left-preserved c = (
  omega arith,
  λ r.
      let up : c.loop-left.left - 1 + 1 ≡ c.loop-left.left = omega arith in
      subst (λ s. is_in r s ≡ is_in r (roles_of (map log_of (drop (c.loop-left.left - 1) c.args.logs.now)))) (sym (c.with-roles.ensures ∙ ap (λ x. with_member 16 c.loop-left.roles x.0) (sym c.index-logs-left.is)))
      (one_more c.args.logs.now (c.loop-left.left - 1) c.loop-left.roles c.index-logs-left.result c.requires (omega arith) c.index-logs-left.is
      (subst (λ n. (r : ℕ) → is_in r c.loop-left.roles ≡ is_in r (roles_of (map log_of (drop n c.args.logs.now)))) (sym up) c.loop-left.invariant.1) r),
)
