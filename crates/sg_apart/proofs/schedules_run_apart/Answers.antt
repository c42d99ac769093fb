-- The run of a schedule is one of its honest principals apart.
use Rattle.sg_apart.proofs.Schedules.{schedules_run_apart}
use Rattle.sg_apart.proofs.schedules_run_apart.Goals as goal

pub returns : goal.returns
returns c = schedules_run_apart
