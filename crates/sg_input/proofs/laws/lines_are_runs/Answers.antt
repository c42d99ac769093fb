use Rattle.sg_input.proofs.Runs.{lines_of-runs}
use Rattle.sg_input.proofs.laws.lines_are_runs.Goals as goal

pub returns : goal.returns
returns c = lines_of-runs
