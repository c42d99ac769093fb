-- The law of bytes that are read.
use Rattle.sg_protocol.proofs.ReadBack.{read-SpellsFrame}
use Rattle.sg_protocol.proofs.frames_read_back.Goals as goal

pub returns : goal.returns
returns c = read-SpellsFrame
