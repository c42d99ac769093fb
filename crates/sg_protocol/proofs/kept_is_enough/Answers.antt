-- The law of what is kept.
use Rattle.sg_protocol.proofs.Enough.{kept_is_enough}
use Rattle.sg_protocol.proofs.kept_is_enough.Goals as goal

pub returns : goal.returns
returns c = kept_is_enough
