use Rattle.sg_certify.proofs.Going.{goes_past}
use Rattle.sg_certify.proofs.laws.others_pass.Goals as goal

pub returns : goal.returns
returns c = goes_past
