use Rattle.sg_drive.proofs.Turning.{generated_is_one}
use Rattle.sg_drive.proofs.laws.generated_is_one.Goals as goal

pub returns : goal.returns
returns c = generated_is_one
