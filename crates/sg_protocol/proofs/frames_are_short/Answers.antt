-- The law of lengths.
use Rattle.sg_protocol.proofs.Bounds.{frames_are_short}
use Rattle.sg_protocol.proofs.frames_are_short.Goals as goal

pub returns : goal.returns
returns c = frames_are_short
