-- The law of setups that are there or not.
use Rattle.sg_setup.proofs.SomeSetup.{principals_there, setups_there}
use Rattle.sg_setup.proofs.laws.setups_are_there_or_not.Goals as goal

pub returns : goal.returns
returns c = record { principals = principals_there; setups = setups_there }
