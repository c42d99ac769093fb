-- The law of walks that what is kept follows.
use Rattle.sg_protocol.proofs.Following.{kept_follows_walks}
use Rattle.sg_protocol.proofs.kept_follows.Goals as goal

pub returns : goal.returns
returns c = kept_follows_walks
