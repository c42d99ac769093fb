use Rattle.sg_protocol.proofs.RealHash.{real_hash}
use Rattle.sg_protocol.specs.Texts.{real}
use Rattle.sg_sessions.proofs.Spent.{frames_are_taken_once}
use Rattle.sg_sessions.proofs.laws.frames_are_taken_once.Goals as goal

pub returns : goal.returns
returns c = frames_are_taken_once real real_hash
