use Rattle.sg_world.proofs.RunsOfReplays.{laws_hold}
use Rattle.sg_world.proofs.laws.runs_of_replays.Goals as goal

pub returns : goal.returns
returns c = laws_hold
