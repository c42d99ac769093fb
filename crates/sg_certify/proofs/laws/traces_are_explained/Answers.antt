use Rattle.sg_certify.proofs.Stepping.{traces_go_on}
use Rattle.sg_certify.proofs.Traced.{traces_are_explained}
use Rattle.sg_certify.proofs.laws.traces_are_explained.Goals as goal

pub returns : goal.returns
returns c = record { goes_on = traces_go_on; explained = traces_are_explained }
