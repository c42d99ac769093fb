-- The law of sessions that go on over restarts.
use Rattle.sg_restarts.proofs.GoesOn.{sessions_go_on_over_restarts}
use Rattle.sg_restarts.proofs.never_stuck_over_restarts.Goals as goal

pub returns : goal.returns
returns c = sessions_go_on_over_restarts
