use Rattle.sg_again.proofs.Calls.{keeps_few}
use Rattle.sg_again.proofs.laws.keeps_few.Goals as goal

pub returns : goal.returns
returns c = keeps_few
