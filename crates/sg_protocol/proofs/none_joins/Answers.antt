-- The laws of joins.
use Rattle.sg_protocol.proofs.Joins.{nodes_join_once, none_joins_twice}
use Rattle.sg_protocol.proofs.none_joins.Goals as goal

pub returns : goal.returns
returns c = record { at_nodes = nodes_join_once; in_runs = none_joins_twice }
