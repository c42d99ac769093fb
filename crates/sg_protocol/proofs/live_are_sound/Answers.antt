-- The laws of live sessions.
use Rattle.sg_protocol.proofs.Live.{sessions_are_sound, nodes_are_sound}
use Rattle.sg_protocol.proofs.live_are_sound.Goals as goal

pub returns : goal.returns
returns c = record { by_sessions = sessions_are_sound; at_nodes = nodes_are_sound }
