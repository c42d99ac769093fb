-- The laws of first breaks.
use Rattle.sg_protocol.proofs.Broken.{forged_is_first, collision_is_first}
use Rattle.sg_protocol.proofs.first_breaks.Goals as goal

pub returns : goal.returns
returns c = record { forged = forged_is_first; collision = collision_is_first }
