-- The laws of each call.
use Rattle.sg_protocol.proofs.PerCall.{answers_are_of_sessions, calls_keep_alike, calls_leave_others}
use Rattle.sg_protocol.proofs.calls_isolated.Goals as goal

pub returns : goal.returns
returns c = record { answers = answers_are_of_sessions; alike = calls_keep_alike; others = calls_leave_others }
