-- The steps of one principal who plays: each is a call of its node, with the line that reports it and the frame that it sends.
use Rattle.std.specs.Prelude.{ℕ, ◌+◌, ◌-◌, ◌^◌, min, List, [], ◌∷◌, map, flat_map, length}
use Rattle.std.specs.Option.{option_map_or}
use Rattle.sg_base.specs.declared.address.Addr.{Addr}
use Rattle.sg_protocol.specs.Acting.{answer}
use Rattle.sg_protocol.specs.Calls as Protocol
use Rattle.sg_protocol.specs.Calls.{sid_of, Call, Answer, events_of_answer}
use Rattle.sg_protocol.specs.Keyring.{Keyring}
use Rattle.sg_protocol.specs.Past.{AnsweredCall, Past, node_of, past_after}
use Rattle.sg_protocol.specs.Spelling.{spelling}
use Rattle.sg_protocol.specs.Texts.{real}
use Rattle.sg_protocol.specs.Named.{graph_of_call}
use Rattle.sg_keys.specs.Names.{addr_of}
use Rattle.sg_text.specs.Sessions.{KnownSessions, session_name}
use Rattle.sg_report.specs.Lines.{graph_or_none, line_text}
use Rattle.sg_report.specs.Reported.{reported_answer, session_reported, sid_left}

-- a step: its line, and the frame that it sends, if it sends one, with the address of its receiver
pub record Step : Type 0 where
  pub line : List ℕ
  pub frames : List (Addr × List ℕ)

-- the lines of steps, one after the other
abbrev pub lines_of : List Step → List ℕ
lines_of steps = flat_map (λ s. s.line) steps

-- the frames of steps, in order
abbrev pub frames_of : List Step → List (Addr × List ℕ)
frames_of steps = flat_map (λ s. s.frames) steps

-- ---- sessions

-- the sessions with an event are called s1, s2 and so on, in the order of their first events
abbrev pub known_in : List AnsweredCall → KnownSessions
known_in calls = record { declared = []; events = map sid_of (flat_map (λ c. events_of_answer c.answer) calls) }

-- ---- a step

-- a count of steps or frames, which stays at the greatest number that 64 bits hold
abbrev pub counted : ℕ → ℕ
counted n = min n (2 ^ 64 - 1)

-- the frame of an answer, for the address that the keyring has for its receiver
abbrev pub frames_in : Keyring → Answer → List (Addr × List ℕ)
frames_in keys (Protocol.Sends e to f) = option_map_or (λ at. (at, spelling f) ∷ []) (addr_of keys to) []
frames_in keys other = []

-- the line of a call before which `sent` frames were sent, by the graph of the session that the call is of
abbrev pub line_of : Past → (sent : ℕ) → Call → List ℕ
line_of past sent c =
    let reported = reported_answer (counted (sent + 1)) (answer real (node_of past) c) in
    let calls = (past_after real past c).calls in
    line_text
    (option_map_or (session_name 115 (known_in calls)) (session_reported (sid_left c) reported) [])
    (graph_or_none (graph_of_call real (node_of past) c))
    (counted (length calls)) past.keys.me reported
