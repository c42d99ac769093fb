-- The law of the walk that is made move by move.
use Rattle.sg_law.proofs.Follow.{made_follows}
use Rattle.sg_law.proofs.walks_are_followed.Goals as goal

pub returns : goal.returns
returns c = made_follows
