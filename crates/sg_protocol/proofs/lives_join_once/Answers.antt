-- The laws of lives.
use Rattle.sg_protocol.proofs.Lives.{lives_join_once}
use Rattle.sg_protocol.proofs.ReportedLives.{reported_join_once}
use Rattle.sg_protocol.proofs.lives_join_once.Goals as goal

pub returns : goal.returns
returns c = record { whole = lives_join_once; reported = reported_join_once }
