-- The law of runs over one ledger.
use Rattle.sg_lives.proofs.Lives.{runs_are_lives, runs_report_joins_once}
use Rattle.sg_lives.proofs.runs_are_lives.Goals as goal

pub returns : goal.returns
returns c = record { lives = runs_are_lives; reported = runs_report_joins_once }
