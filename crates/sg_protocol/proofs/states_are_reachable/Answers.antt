-- The law of the invariants of a role's states.
use Rattle.sg_protocol.proofs.Reachable.{states_are_reachable}
use Rattle.sg_protocol.proofs.states_are_reachable.Goals as goal

pub returns : goal.returns
returns c = states_are_reachable
