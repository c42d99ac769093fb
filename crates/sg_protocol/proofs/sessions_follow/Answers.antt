-- The law of sessions.
use Rattle.sg_protocol.proofs.ExplainingWalks.{sessions_follow_walks}
use Rattle.sg_protocol.proofs.sessions_follow.Goals as goal

pub returns : goal.returns
returns c = sessions_follow_walks
