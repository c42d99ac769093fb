use Rattle.std.proofs.Common.{◌≡◌, map, take}
use Rattle.sg_protocol.specs.Texts.{real, session_id}
use Rattle.sg_setting.proofs.texts.sids_of.Given as goal

-- the identifiers so far
abbrev pub invariant-loop-session : goal.invariant-loop-session
invariant-loop-session l = l.sids.items ≡ map (λ d. session_id real d.cast) (take l.session-index l.sessions)
