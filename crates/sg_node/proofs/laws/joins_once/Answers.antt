-- The law of joins.
use Rattle.sg_node.proofs.Life.{pairs_once}
use Rattle.sg_node.proofs.laws.joins_once.Goals as goal

pub returns : goal.returns
returns c = pairs_once
