-- The headline.
use Rattle.sg_protocol.proofs.Joins.{none_joins_twice}
use Rattle.sg_protocol.proofs.ExplainingWalks.{sessions_follow_walks}
use Rattle.sg_protocol.proofs.headline.Goals as goal

pub returns : goal.returns
returns c = λ sha hash. (sessions_follow_walks sha hash, none_joins_twice sha)
