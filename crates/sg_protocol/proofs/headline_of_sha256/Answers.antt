-- The headline, with SHA-256.
use Rattle.sg_protocol.specs.Texts.{real}
use Rattle.sg_protocol.proofs.Joins.{none_joins_twice}
use Rattle.sg_protocol.proofs.ExplainingWalks.{sessions_follow_walks}
use Rattle.sg_protocol.proofs.RealHash.{real_hash}
use Rattle.sg_protocol.proofs.headline_of_sha256.Goals as goal

pub returns : goal.returns
returns c = (sessions_follow_walks real real_hash, none_joins_twice real)
