-- The law of sessions that go on.
use Rattle.sg_protocol.proofs.Awaited.{sessions_go_on}
use Rattle.sg_protocol.proofs.never_stuck.Goals as goal

pub returns : goal.returns
returns c = sessions_go_on
