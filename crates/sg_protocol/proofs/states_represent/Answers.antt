-- The laws of what states represent.
use Rattle.sg_protocol.proofs.Representation.{states_represent}
use Rattle.sg_protocol.proofs.states_represent.Goals as goal

pub returns : goal.returns
returns c = states_represent
