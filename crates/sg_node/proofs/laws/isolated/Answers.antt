-- The laws of isolation.
use Rattle.sg_node.proofs.Life.{sessions_alone, same_for_sessions, others_left}
use Rattle.sg_node.proofs.laws.isolated.Goals as goal

pub returns : goal.returns
returns c = record { alone = sessions_alone; same = same_for_sessions; others = others_left }
