use Rattle.sg_again.proofs.Calls.{keeps_live}
use Rattle.sg_again.proofs.laws.keeps_the_live.Goals as goal

pub returns : goal.returns
returns c = keeps_live
