-- The headline over restarts.
use Rattle.sg_protocol.specs.Texts.{real}
use Rattle.sg_protocol.proofs.OverRestarts.{headline_over_restarts}
use Rattle.sg_protocol.proofs.RealHash.{real_hash}
use Rattle.sg_protocol.proofs.headline_over_restarts.Goals as goal

pub returns : goal.returns
returns c = record { of_any = headline_over_restarts; of_sha256 = headline_over_restarts real real_hash }
