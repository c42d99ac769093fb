-- What else holds over restarts.
use Rattle.sg_protocol.proofs.LifeSteps.{frames_show_last_steps_over_restarts}
use Rattle.sg_protocol.proofs.OverRestarts.{receipts_have_sends_over_restarts, sessions_have_one_cast_over_restarts, none_takes_two_roles_over_restarts}
use Rattle.sg_protocol.proofs.laws_over_restarts.Goals as goal

pub returns : goal.returns
returns c = record { receipts = receipts_have_sends_over_restarts; one_cast = sessions_have_one_cast_over_restarts; one_role = none_takes_two_roles_over_restarts; last_steps = frames_show_last_steps_over_restarts }
