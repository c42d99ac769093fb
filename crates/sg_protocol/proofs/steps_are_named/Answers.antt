-- In which graphs the steps of a run have their names.
use Rattle.sg_protocol.proofs.NamedRuns.{steps_are_named}
use Rattle.sg_protocol.proofs.steps_are_named.Goals as goal

pub returns : goal.returns
returns c = steps_are_named
