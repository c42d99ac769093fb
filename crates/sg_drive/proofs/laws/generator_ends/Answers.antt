use Rattle.sg_drive.proofs.WholeRun.{generator_ends}
use Rattle.sg_drive.proofs.laws.generator_ends.Goals as goal

pub returns : goal.returns
returns c = generator_ends
