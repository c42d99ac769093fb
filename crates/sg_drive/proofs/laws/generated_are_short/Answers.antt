use Rattle.sg_drive.proofs.WholeRun.{generated_are_short}
use Rattle.sg_drive.proofs.laws.generated_are_short.Goals as goal

pub returns : goal.returns
returns c = generated_are_short
