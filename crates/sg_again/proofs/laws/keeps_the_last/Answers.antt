use Rattle.sg_again.proofs.Calls.{keeps_last}
use Rattle.sg_again.proofs.laws.keeps_the_last.Goals as goal

pub returns : goal.returns
returns c = keeps_last
