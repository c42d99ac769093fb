-- The law of turns over restarts.
use Rattle.sg_restarts.proofs.Turns.{turn_is_of_session_over_restarts}
use Rattle.sg_restarts.proofs.turns_over_restarts.Goals as goal

pub returns : goal.returns
returns c = turn_is_of_session_over_restarts
