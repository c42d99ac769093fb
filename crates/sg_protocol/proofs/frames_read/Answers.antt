-- The law of frames.
use Rattle.sg_protocol.proofs.ReadLaws.{read-spelling}
use Rattle.sg_protocol.proofs.frames_read.Goals as goal

pub returns : goal.returns
returns c = read-spelling
