-- What steps send is short.
use Rattle.sg_protocol.proofs.Bounds.{sent_are_short}
use Rattle.sg_protocol.proofs.ShortRuns.{runs_send_short}
use Rattle.sg_protocol.proofs.sent_are_short.Goals as goal

pub returns : goal.returns
returns c = record { by_sessions = sent_are_short; in_runs = runs_send_short }
