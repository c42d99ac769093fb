use Rattle.std.proofs.Common.{◌≡◌, take}
use Rattle.sg_setting.proofs.copies.copy_sessions.Given as goal

-- the copies so far
abbrev pub invariant-loop-session : goal.invariant-loop-session
invariant-loop-session l = l.copies ≡ take l.session-index l.sessions
