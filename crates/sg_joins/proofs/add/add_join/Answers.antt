use Rattle.std.proofs.Common.{List, inl, inr, ⊎_elim, Err, refl, ap, ◌∙◌, subst, arith}
use Rattle.sg_ledger.specs.Disk.{LeavesOnly}
use Rattle.sg_ledger.specs.Format.{Join, Represents}
use Rattle.sg_ledger.specs.declared.ledger.AddJoinFault.{AddJoinFault}
use Rattle.sg_report.specs.Outcome.{outcome_of}
use Rattle.sg_joins.specs.Joins.{join_reported, with_join}
use Rattle.sg_joins.specs.Images.{RepresentsEither}
use Rattle.sg_joins.proofs.Adding.{new_of, not_asked, with_none, with_one, working}
use Rattle.sg_joins.proofs.add.add_join.Goals as goal

pub returns-in_default-clause-added : goal.returns-in_default-clause-added
returns-in_default-clause-added g c = λ i. record { joins = with_none c.args.ledger.now.joins (join_reported (outcome_of c.args.outcome.now)) c.join_in.result c.join_in.ensures c.in_default.is i; failed = c.requires.working i }

pub add-requires-clause-role : goal.add-requires-clause-role
add-requires-clause-role g c = (new_of c.args.ledger.now.joins (join_reported (outcome_of c.args.outcome.now)) c.join_in.result c.join_in.ensures c.in-Some.join c.in-Some.is c.requires.new).role

pub unreachable-requires : goal.unreachable-requires
unreachable-requires g c =
    (new_of c.args.ledger.now.joins (join_reported (outcome_of c.args.outcome.now)) c.join_in.result c.join_in.ensures c.in-Some.join c.in-Some.is c.requires.new).absent
    (c.add.ensures.twice.0 (c.in-Err-Twice.is ∙ ap (λ (f : AddJoinFault). Err f) c.in-Err-Twice.field-0-is))

pub unreachable-requires-in-Err-Full : goal.unreachable-requires-in-Err-Full
unreachable-requires-in-Err-Full g c =
    let room = (new_of c.args.ledger.now.joins (join_reported (outcome_of c.args.outcome.now)) c.join_in.result c.join_in.ensures c.in-Some.join c.in-Some.is c.requires.new).room in
    let full = (c.add.ensures.full.0 (c.in-Err-Full.is ∙ ap (λ (f : AddJoinFault). Err f) c.in-Err-Full.field-0-is)).1 in
    omega (arith, room, full)

pub returns-in-Ok-clause-added : goal.returns-in-Ok-clause-added
returns-in-Ok-clause-added g c = c.in-Ok.ensures.added ∙ ap working (with_one c.args.ledger.now.joins (join_reported (outcome_of c.args.outcome.now)) c.join_in.result c.join_in.ensures c.in-Some.join c.in-Some.is)

pub returns-in-Err-Failed-clause-between : goal.returns-in-Err-Failed-clause-between
returns-in-Err-Failed-clause-between g c = λ image left.
    let more = with_one c.args.ledger.now.joins (join_reported (outcome_of c.args.outcome.now)) c.join_in.result c.join_in.ensures c.in-Some.join c.in-Some.is in
    ⊎_elim (λ s. inl s) (λ s. inr (subst (Represents image) more s))
    (c.add.ensures.any_moment.each image (g.met.D.Disk.counts_now c.add.new.disk (g.D.Disk.moment c.args.disk.now) image c.add.ensures.any_moment.later left))

pub returns-in_default-clause-any_moment : goal.returns-in_default-clause-any_moment
returns-in_default-clause-any_moment g c =
    not_asked g.D.Disk.moment g.D.Disk.left_since c.args.disk.now (g.D.Disk.may_leave c.args.disk.now) (g.met.D.Disk.only_now c.args.disk.now) c.args.ledger.now.joins
    (with_join c.args.ledger.now.joins (join_reported (outcome_of c.args.outcome.now))) c.requires.images

pub returns-in-Ok-clause-any_moment : goal.returns-in-Ok-clause-any_moment
returns-in-Ok-clause-any_moment g c =
    subst (λ (js : List Join). LeavesOnly g.D.Disk.moment g.D.Disk.left_since c.args.disk.now c.add.new.disk (RepresentsEither c.args.ledger.now.joins js))
    (with_one c.args.ledger.now.joins (join_reported (outcome_of c.args.outcome.now)) c.join_in.result c.join_in.ensures c.in-Some.join c.in-Some.is) c.add.ensures.any_moment

pub returns-in-Err-Failed-clause-any_moment : goal.returns-in-Err-Failed-clause-any_moment
returns-in-Err-Failed-clause-any_moment g c =
    subst (λ (js : List Join). LeavesOnly g.D.Disk.moment g.D.Disk.left_since c.args.disk.now c.add.new.disk (RepresentsEither c.args.ledger.now.joins js))
    (with_one c.args.ledger.now.joins (join_reported (outcome_of c.args.outcome.now)) c.join_in.result c.join_in.ensures c.in-Some.join c.in-Some.is) c.add.ensures.any_moment

pub returns-in-Err-OutOfMemory-clause-any_moment : goal.returns-in-Err-OutOfMemory-clause-any_moment
returns-in-Err-OutOfMemory-clause-any_moment g c =
    subst (λ (js : List Join). LeavesOnly g.D.Disk.moment g.D.Disk.left_since c.args.disk.now c.add.new.disk (RepresentsEither c.args.ledger.now.joins js))
    (with_one c.args.ledger.now.joins (join_reported (outcome_of c.args.outcome.now)) c.join_in.result c.join_in.ensures c.in-Some.join c.in-Some.is) c.add.ensures.any_moment

pub returns-in_default-clause-failed : goal.returns-in_default-clause-failed
returns-in_default-clause-failed g c = λ e. absurd (cc)

pub returns-in-Ok-clause-failed : goal.returns-in-Ok-clause-failed
returns-in-Ok-clause-failed g c = λ e. absurd (cc)

pub returns-in-Ok-clause-no_fault : goal.returns-in-Ok-clause-no_fault
returns-in-Ok-clause-no_fault g c = λ n. c.in-Ok.ensures.no_fault (λ e. cc)

pub returns-in-Err-Failed-clause-failed : goal.returns-in-Err-Failed-clause-failed
returns-in-Err-Failed-clause-failed g c = λ e. c.add.ensures.failed (c.in-Err-Failed.is ∙ ap (λ (f : AddJoinFault). Err f) c.in-Err-Failed.field-0-is)

pub returns-in-Err-Failed-clause-no_fault : goal.returns-in-Err-Failed-clause-no_fault
returns-in-Err-Failed-clause-no_fault g c = λ n. absurd (n refl)

pub returns-in-Err-OutOfMemory-clause-failed : goal.returns-in-Err-OutOfMemory-clause-failed
returns-in-Err-OutOfMemory-clause-failed g c = λ e. absurd (cc)

pub returns-in-Err-OutOfMemory-clause-no_fault : goal.returns-in-Err-OutOfMemory-clause-no_fault
returns-in-Err-OutOfMemory-clause-no_fault g c = λ n. c.add.ensures.no_fault (λ e. absurd (cc))
