-- The laws of answers.
use Rattle.sg_audit.proofs.OneAnswer.{logs_one, fault_one, no_logs}
use Rattle.sg_audit.proofs.laws.answers_are_one.Goals as goal

pub returns : goal.returns
returns c = record { logs = logs_one; fault = fault_one; apart = no_logs }
