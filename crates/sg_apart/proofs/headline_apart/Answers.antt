-- The headline of principals that run apart.
use Rattle.sg_protocol.proofs.RealHash.{real_hash}
use Rattle.sg_apart.proofs.Whole.{sessions_follow_walks_apart, none_joins_twice_apart}
use Rattle.sg_apart.proofs.headline_apart.Goals as goal

pub returns-clause-of_any : goal.returns-clause-of_any
returns-clause-of_any c = λ sha hash. (sessions_follow_walks_apart sha hash, none_joins_twice_apart sha)

pub returns-clause-of_sha256 : goal.returns-clause-of_sha256
returns-clause-of_sha256 c = (sessions_follow_walks_apart _ real_hash, none_joins_twice_apart _)
