use Rattle.std.proofs.Common.{Err, refl, sym, ap, ◌∙◌, subst}
use Rattle.sg_joins.specs.Joins.{join_reported}
use Rattle.sg_joins.specs.declared.fault.JoinFault.{JoinFault}
use Rattle.sg_ledger.specs.Format.{OpenLedger}
use Rattle.sg_play.proofs.Counting.{alone_rose, alone_same, no_fault}
use Rattle.sg_report.specs.Outcome.{outcome_of}
use Rattle.sg_keep.specs.Representation.{HasMore}
use Rattle.sg_keep.proofs.Asking.{holds_after, is_new, kept_or_not, not_failed, represent_now}
use Rattle.sg_keep.proofs.Keeping.{left_by}
use Rattle.sg_keep.proofs.Moments.{more_with}
use Rattle.sg_keep.proofs.keeper.Keeper.keep_join.Goals as goal

pub add_join-requires-clause-working : goal.add_join-requires-clause-working
add_join-requires-clause-working g c = not_failed c.args.self.now (g.D.Disk.may_leave c.args.disk.now) c.args.outcome.now c.requires.asked

pub add_join-requires-clause-images : goal.add_join-requires-clause-images
add_join-requires-clause-images g c = represent_now c.args.self.now (g.D.Disk.may_leave c.args.disk.now) c.args.outcome.now c.requires.asked

pub add_join-requires-clause-new : goal.add_join-requires-clause-new
add_join-requires-clause-new g c = is_new c.args.self.now (g.D.Disk.may_leave c.args.disk.now) c.args.outcome.now c.requires.asked

pub returns-in-Ok-clause-holds : goal.returns-in-Ok-clause-holds
returns-in-Ok-clause-holds g c =
    holds_after c.args.self.now (g.D.Disk.may_leave c.args.disk.now) c.args.outcome.now c.requires.asked c.add_join.new.ledger (g.D.Disk.may_leave c.add_join.new.disk) (join_reported (outcome_of c.args.outcome.now)) refl c.in-Ok.ensures.added c.in-Ok.ensures.images

pub returns-in-Ok-clause-more : goal.returns-in-Ok-clause-more
returns-in-Ok-clause-more g c =
    let joins = c.args.self.now.ledger.joins in
    subst (HasMore joins) (sym (ap (λ (l : OpenLedger). l.joins) c.in-Ok.ensures.added)) (more_with joins (join_reported (outcome_of c.args.outcome.now)))

pub returns-in-Ok-clause-faults : goal.returns-in-Ok-clause-faults
returns-in-Ok-clause-faults g c = alone_same (c.in-Ok.ensures.no_fault (no_fault tt)) (no_fault tt)

pub returns-in-Err-DiskFailed-clause-faults : goal.returns-in-Err-DiskFailed-clause-faults
returns-in-Err-DiskFailed-clause-faults g c = alone_rose c.add_join.ensures.never_falls (c.add_join.ensures.failed (c.in-Err-DiskFailed.is ∙ ap (λ (f : JoinFault). Err f) c.in-Err-DiskFailed.field-0-is)) refl

pub returns-in-Err-OutOfMemory-clause-faults : goal.returns-in-Err-OutOfMemory-clause-faults
returns-in-Err-OutOfMemory-clause-faults g c = alone_same (c.add_join.ensures.no_fault (λ e. absurd (cc))) (λ e. absurd (cc))

pub returns-in-Err-DiskFailed-clause-images : goal.returns-in-Err-DiskFailed-clause-images
returns-in-Err-DiskFailed-clause-images g c = kept_or_not c.args.self.now (g.D.Disk.may_leave c.args.disk.now) c.args.outcome.now c.requires.asked (g.D.Disk.may_leave c.add_join.new.disk) c.in-Err-DiskFailed.ensures.between

pub returns-in-Err-OutOfMemory-clause-images : goal.returns-in-Err-OutOfMemory-clause-images
returns-in-Err-OutOfMemory-clause-images g c = kept_or_not c.args.self.now (g.D.Disk.may_leave c.args.disk.now) c.args.outcome.now c.requires.asked (g.D.Disk.may_leave c.add_join.new.disk) c.in-Err-OutOfMemory.ensures.between

pub returns-in-Ok-clause-any_moment : goal.returns-in-Ok-clause-any_moment
returns-in-Ok-clause-any_moment g c = (left_by g.D.Disk.moment g.D.Disk.left_since c.args.disk.now c.add_join.new.disk c.args.self.now (g.D.Disk.may_leave c.args.disk.now) c.args.outcome.now c.requires.asked c.add_join.ensures.any_moment).0

pub returns-in-Ok-clause-leaves_at_most : goal.returns-in-Ok-clause-leaves_at_most
returns-in-Ok-clause-leaves_at_most g c = (left_by g.D.Disk.moment g.D.Disk.left_since c.args.disk.now c.add_join.new.disk c.args.self.now (g.D.Disk.may_leave c.args.disk.now) c.args.outcome.now c.requires.asked c.add_join.ensures.any_moment).1

pub returns-in-Err-DiskFailed-clause-any_moment : goal.returns-in-Err-DiskFailed-clause-any_moment
returns-in-Err-DiskFailed-clause-any_moment g c = (left_by g.D.Disk.moment g.D.Disk.left_since c.args.disk.now c.add_join.new.disk c.args.self.now (g.D.Disk.may_leave c.args.disk.now) c.args.outcome.now c.requires.asked c.add_join.ensures.any_moment).0

pub returns-in-Err-DiskFailed-clause-leaves_at_most : goal.returns-in-Err-DiskFailed-clause-leaves_at_most
returns-in-Err-DiskFailed-clause-leaves_at_most g c = (left_by g.D.Disk.moment g.D.Disk.left_since c.args.disk.now c.add_join.new.disk c.args.self.now (g.D.Disk.may_leave c.args.disk.now) c.args.outcome.now c.requires.asked c.add_join.ensures.any_moment).1

pub returns-in-Err-OutOfMemory-clause-any_moment : goal.returns-in-Err-OutOfMemory-clause-any_moment
returns-in-Err-OutOfMemory-clause-any_moment g c = (left_by g.D.Disk.moment g.D.Disk.left_since c.args.disk.now c.add_join.new.disk c.args.self.now (g.D.Disk.may_leave c.args.disk.now) c.args.outcome.now c.requires.asked c.add_join.ensures.any_moment).0

pub returns-in-Err-OutOfMemory-clause-leaves_at_most : goal.returns-in-Err-OutOfMemory-clause-leaves_at_most
returns-in-Err-OutOfMemory-clause-leaves_at_most g c = (left_by g.D.Disk.moment g.D.Disk.left_since c.args.disk.now c.add_join.new.disk c.args.self.now (g.D.Disk.may_leave c.args.disk.now) c.args.outcome.now c.requires.asked c.add_join.ensures.any_moment).1
