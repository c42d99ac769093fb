-- A new node's past, and the next one.
use Rattle.sg_node.proofs.Life.{new_nodes, pasts_go_on}
use Rattle.sg_node.proofs.laws.represents_its_past.Goals as goal

pub returns : goal.returns
returns c = record { begins = new_nodes; goes_on = pasts_go_on }
