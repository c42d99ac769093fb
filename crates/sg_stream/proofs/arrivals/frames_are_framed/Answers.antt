use Rattle.sg_stream.proofs.FramesOf.{framed}
use Rattle.sg_stream.proofs.arrivals.frames_are_framed.Goals as goal

pub returns : goal.returns
returns c = framed
