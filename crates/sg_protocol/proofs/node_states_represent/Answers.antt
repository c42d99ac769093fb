-- The law of what a node's states represent.
use Rattle.sg_protocol.proofs.NodeStates.{node_states_represent}
use Rattle.sg_protocol.proofs.node_states_represent.Goals as goal

pub returns : goal.returns
returns c = node_states_represent
