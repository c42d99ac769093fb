-- The laws of beginnings.
use Rattle.sg_protocol.proofs.FirstSteps.{runs_go_on, premises_hold_before}
use Rattle.sg_protocol.proofs.beginnings.Goals as goal

pub returns : goal.returns
returns c = record { goes_on = runs_go_on; premises = premises_hold_before }
