use Rattle.std.proofs.Common.{◌≡◌, Err, rules}
use Rattle.sg_drive.proofs.Extends.{err_is}
use Rattle.sg_drive.specs.Groups.{IsGroupFault}
use Rattle.sg_drive.specs.declared.fault.GenerateFault.{GenerateFault}
use Rattle.sg_drive.proofs.Grouped.{begin_fault, group_begun, groups_end, groups_stop}
use Rattle.sg_drive.proofs.generator.Generator.group.Goals as goal

pub take_turns-requires : goal.take_turns-requires
take_turns-requires c = record { budget = group_begun c.args.self.now c.begin_all.new.self c.args.first c.args.count c.requires.budget c.requires.few.0 c.requires.few.1 c.in_ok-begin_all.ensures.going }

pub returns-in_err-begin_all-clause-stopped : goal.returns-in_err-begin_all-clause-stopped
returns-in_err-begin_all-clause-stopped c =
    let e : GenerateFault = c.in_err-begin_all.field-0.0 in
    let same : c.from_residual.result ≡ Err e = search rules in
    err_is c.from_residual.result e (IsGroupFault c.args.first c.args.count c.args.self.now) same (begin_fault c.args.self.now c.args.first c.args.count e c.in_err-begin_all.ensures.stopped)

pub returns-clause-group : goal.returns-clause-group
returns-clause-group c = groups_end c.args.self.now c.begin_all.new.self c.take_turns.new.self c.args.first c.args.count c.take_turns.result c.in_ok-begin_all.ensures.going c.take_turns.ensures.over

pub returns-clause-stopped : goal.returns-clause-stopped
returns-clause-stopped c = groups_stop c.args.self.now c.begin_all.new.self c.args.first c.args.count c.take_turns.result c.in_ok-begin_all.ensures.going c.take_turns.ensures.stopped
