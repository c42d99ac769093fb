use Rattle.std.proofs.Common.{map, take}
use Rattle.sg_audit.specs.TakingLines.{session_of}
use Rattle.sg_replay.specs.Audited.{AllAnswered}
use Rattle.sg_replay.proofs.answer.answers_text.Given as goal

abbrev pub invariant-sessions : goal.invariant-sessions
invariant-sessions l = AllAnswered l.graph (map session_of (take l.session-index l.sessions)) l.text
