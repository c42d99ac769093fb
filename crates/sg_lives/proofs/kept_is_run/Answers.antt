-- The laws of a run of `keep`.
use Rattle.sg_lives.proofs.Plays.{cut_off_is_run, kept_is_run}
use Rattle.sg_lives.proofs.kept_is_run.Goals as goal

pub returns : goal.returns
returns c = record { ended = kept_is_run; cut_off = cut_off_is_run }
