-- The law of isolation.
use Rattle.sg_protocol.proofs.Isolation.{sessions_are_isolated}
use Rattle.sg_protocol.proofs.sessions_isolated.Goals as goal

pub returns : goal.returns
returns c = sessions_are_isolated
