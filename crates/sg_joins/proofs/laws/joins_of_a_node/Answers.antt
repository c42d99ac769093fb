use Rattle.sg_joins.proofs.NewJoins.{joins_of_node}
use Rattle.sg_joins.proofs.laws.joins_of_a_node.Goals as goal

pub returns : goal.returns
returns c = joins_of_node
