-- The law of a run of `serve`.
use Rattle.sg_lives.proofs.Serving.{served_is_run}
use Rattle.sg_lives.proofs.served_is_run.Goals as goal

pub returns : goal.returns
returns c = served_is_run
