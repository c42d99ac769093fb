-- The laws of ranges.
use Rattle.sg_protocol.proofs.Ranges.{sessions_stay_in_range, nodes_stay_in_range}
use Rattle.sg_protocol.proofs.stay_in_range.Goals as goal

pub returns : goal.returns
returns c = record { by_sessions = sessions_stay_in_range; at_nodes = nodes_stay_in_range }
