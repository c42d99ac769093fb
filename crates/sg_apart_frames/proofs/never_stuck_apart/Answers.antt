-- A session is never stuck.
use Rattle.sg_apart_frames.proofs.Delivery.{sessions_go_on_apart}
use Rattle.sg_apart_frames.proofs.Honest.{honest_sessions_go_on}
use Rattle.sg_apart_frames.proofs.never_stuck_apart.Goals as goal

pub returns : goal.returns
returns c = record { runs = sessions_go_on_apart; pasts = honest_sessions_go_on }
