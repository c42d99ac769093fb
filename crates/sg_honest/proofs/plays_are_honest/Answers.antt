-- The past of a play is that of an honest principal.
use Rattle.sg_honest.proofs.Plays.{plays_are_honest}
use Rattle.sg_honest.proofs.plays_are_honest.Goals as goal

pub returns : goal.returns
returns c = plays_are_honest
