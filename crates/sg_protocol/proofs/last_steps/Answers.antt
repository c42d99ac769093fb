-- The law of last steps.
use Rattle.sg_protocol.proofs.LastSteps.{frames_show_last_steps}
use Rattle.sg_protocol.proofs.last_steps.Goals as goal

pub returns : goal.returns
returns c = frames_show_last_steps
