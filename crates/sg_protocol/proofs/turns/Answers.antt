-- The law of turns.
use Rattle.sg_protocol.proofs.Turn.{turn_is_of_session}
use Rattle.sg_protocol.proofs.turns.Goals as goal

pub returns : goal.returns
returns c = turn_is_of_session
