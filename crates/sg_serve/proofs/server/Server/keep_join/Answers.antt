use Rattle.std.proofs.Common.{Err, ap, refl, ◌∙◌}
use Rattle.sg_joins.specs.declared.fault.JoinFault.{JoinFault}
use Rattle.sg_serve.proofs.Asking.{holds_after, holds_none, is_new, unkept}
use Rattle.sg_play.proofs.Counting.{alone_rose, alone_same, no_fault}
use Rattle.sg_serve.proofs.server.Server.keep_join.Goals as goal

pub add_join-requires-clause-new : goal.add_join-requires-clause-new
add_join-requires-clause-new g c = is_new c.args.self.now (g.D.Disk.may_leave c.args.disk.now) c.args.outcome.now c.requires.asked c.in-Some.ledger c.in-Some.is

pub returns-in-Ok-clause-holds : goal.returns-in-Ok-clause-holds
returns-in-Ok-clause-holds g c =
    holds_after c.args.self.now (g.D.Disk.may_leave c.args.disk.now) c.args.outcome.now c.requires.asked c.in-Some.ledger c.in-Some.is c.add_join.new.ledger (g.D.Disk.may_leave c.add_join.new.disk) c.in-Ok.ensures.added c.in-Ok.ensures.images

pub returns-in-Err-DiskFailed-clause-images : goal.returns-in-Err-DiskFailed-clause-images
returns-in-Err-DiskFailed-clause-images g c =
    unkept c.args.self.now (g.D.Disk.may_leave c.args.disk.now) c.args.outcome.now c.requires.asked c.in-Some.ledger c.in-Some.is (g.D.Disk.may_leave c.add_join.new.disk) c.in-Err-DiskFailed.ensures.between

pub returns-in-Err-OutOfMemory-clause-images : goal.returns-in-Err-OutOfMemory-clause-images
returns-in-Err-OutOfMemory-clause-images g c =
    unkept c.args.self.now (g.D.Disk.may_leave c.args.disk.now) c.args.outcome.now c.requires.asked c.in-Some.ledger c.in-Some.is (g.D.Disk.may_leave c.add_join.new.disk) c.in-Err-OutOfMemory.ensures.between

pub returns-in-None-clause-holds : goal.returns-in-None-clause-holds
returns-in-None-clause-holds g c = holds_none c.args.self.now (g.D.Disk.may_leave c.args.disk.now) c.args.outcome.now c.requires.asked c.in-None.is

pub returns-in-Ok-clause-faults : goal.returns-in-Ok-clause-faults
returns-in-Ok-clause-faults g c = alone_same (c.in-Ok.ensures.no_fault (no_fault _)) (no_fault _)

pub returns-in-Err-DiskFailed-clause-faults : goal.returns-in-Err-DiskFailed-clause-faults
returns-in-Err-DiskFailed-clause-faults g c = alone_rose c.add_join.ensures.never_falls (c.add_join.ensures.failed (c.in-Err-DiskFailed.is ∙ ap (λ (f : JoinFault). Err f) c.in-Err-DiskFailed.field-0-is)) refl

pub returns-in-Err-OutOfMemory-clause-faults : goal.returns-in-Err-OutOfMemory-clause-faults
returns-in-Err-OutOfMemory-clause-faults g c = alone_same (c.add_join.ensures.no_fault (λ e. absurd (cc))) (λ e. absurd (cc))

pub returns-in-None-clause-faults : goal.returns-in-None-clause-faults
returns-in-None-clause-faults g c = alone_same refl (no_fault _)
