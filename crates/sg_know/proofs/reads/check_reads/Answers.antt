use Rattle.std.proofs.Common.{rules}
use Rattle.std.specs.Prelude.{IfErr}
use Rattle.sg_know.specs.Reads.{IsFirstFault}
use Rattle.sg_know.proofs.Accepted.{accepts, is_accepted}
use Rattle.sg_know.proofs.reads.check_reads.Goals as goal

pub returns-in_err-check_writers-clause-accepts : goal.returns-in_err-check_writers-clause-accepts
returns-in_err-check_writers-clause-accepts c =
    let fault : IfErr c.from_residual.result (IsFirstFault c.args.graph.now) = search rules in
    accepts c.args.graph.now c.from_residual.result fault

pub returns-in_err-check_own-clause-accepts : goal.returns-in_err-check_own-clause-accepts
returns-in_err-check_own-clause-accepts c =
    let fault : IfErr c.from_residual-in_err-check_own.result (IsFirstFault c.args.graph.now) = search rules in
    accepts c.args.graph.now c.from_residual-in_err-check_own.result fault

pub returns-clause-ok : goal.returns-clause-ok
returns-clause-ok c = is_accepted c.args.graph.now c.check_known.result c.in_ok-check_writers.ensures.ok c.in_ok-check_own.ensures.ok c.check_known.ensures.ok

pub returns-clause-accepts : goal.returns-clause-accepts
returns-clause-accepts c = accepts c.args.graph.now c.check_known.result c.check_known.ensures.fault
