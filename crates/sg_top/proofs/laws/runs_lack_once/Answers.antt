-- The law of setups.
use Rattle.sg_setup.proofs.OneSetup.{principals_once, setups_once}
use Rattle.sg_top.proofs.laws.runs_lack_once.Goals as goal

pub returns : goal.returns
returns c = record { principals = principals_once; setups = setups_once }
