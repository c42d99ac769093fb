-- The laws of answers.
use Rattle.sg_sched.proofs.FormatOne.{one_schedule}
use Rattle.sg_sched_text.proofs.OneFault.{one_fault, no_schedule}
use Rattle.sg_sched_text.proofs.laws.answers_are_one.Goals as goal

pub returns : goal.returns
returns c = record { schedule = one_schedule; fault = one_fault; apart = no_schedule }
