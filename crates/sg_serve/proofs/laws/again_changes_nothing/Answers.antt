use Rattle.sg_serve.proofs.Pasts.{again_same_run}
use Rattle.sg_serve.proofs.laws.again_changes_nothing.Goals as goal

pub returns : goal.returns
returns c = again_same_run
