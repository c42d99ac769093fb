-- The past of a run of lines that were served is that of an honest principal.
use Rattle.sg_honest.proofs.Served.{runs_are_honest}
use Rattle.sg_honest.proofs.runs_are_honest.Goals as goal

pub returns : goal.returns
returns c = runs_are_honest
