-- What is reported of each step of a run: the core's answer, with the number of the frame that was recorded in place of the frame.
use Rattle.std.specs.Prelude.{ℕ, ◌<◌, List, [], ◌∷◌, ◌++◌, length, Option, Some, None, option_map, IsSomeAnd, ⊤}
use Rattle.sg_model.specs.Names.{Name}
use Rattle.sg_protocol.specs.Calls as Protocol
use Rattle.sg_protocol.specs.Calls.{Event, Call, Abandon, sid_of}
use Rattle.sg_protocol.specs.Graph.{Graph}
use Rattle.sg_protocol.specs.Steps.{frame_number}
use Rattle.sg_protocol.specs.Named.{HasEvent}
use Rattle.sg_protocol.specs.World as Core
use Rattle.sg_protocol.specs.World.{Logged}

-- what is reported of a step. A frame is its number
pub data Reported : Type 0 where
  Happened : Event → Reported
  Sends : Event → (to : Name) → (frame : ℕ) → Reported
  Abandoned : Reported
  Crafted : (frame : ℕ) → Reported
  NotStarted : Protocol.StartFault → Reported
  NotActed : Protocol.ActFault → Reported
  NotAbandoned : Reported
  NotDelivered : Protocol.Refusal → Reported
  NoFrame : Reported

-- what is reported of an answer, if its frame has this number
abbrev pub reported_answer : ℕ → Protocol.Answer → Reported
reported_answer n (Protocol.Answer.Happened e) = Happened e
reported_answer n (Protocol.Answer.Sends e to f) = Sends e to n
reported_answer n Protocol.Answer.Abandoned = Abandoned
reported_answer n (Protocol.Answer.NotStarted fault) = NotStarted fault
reported_answer n (Protocol.Answer.NotActed fault) = NotActed fault
reported_answer n Protocol.Answer.NotAbandoned = NotAbandoned
reported_answer n (Protocol.Answer.NotDelivered why) = NotDelivered why

-- what is reported of an outcome, if its frame has this number
abbrev pub reported_outcome : ℕ → Core.Outcome → Reported
reported_outcome n (Core.Outcome.Answered a) = reported_answer n a
reported_outcome n Core.Outcome.Crafted = Crafted n
reported_outcome n Core.Outcome.NoFrame = NoFrame

-- what is reported of each of these entries, which stand after those before
abbrev pub reported_after : List Logged → List Logged → List Reported
reported_after before [] = []
reported_after before (l ∷ ls) = reported_outcome (frame_number before) l.outcome ∷ reported_after (before ++ l ∷ []) ls

-- what is reported of a log
abbrev pub reported_log : List Logged → List Reported
reported_log log = reported_after [] log

-- the event that is reported, if one is
abbrev pub event_reported : Reported → Option Event
event_reported (Happened e) = Some e
event_reported (Sends e to frame) = Some e
event_reported other = None

-- the session of the event that is reported
abbrev pub sid_reported : Reported → Option (List ℕ)
sid_reported reported = option_map sid_of (event_reported reported)

-- the session that a call gives up
abbrev pub sid_left : Call → Option (List ℕ)
sid_left (Abandon sid) = Some sid
sid_left other = None

-- the session that a line names: that of its event, or the one that was left
abbrev pub session_reported : (left : Option (List ℕ)) → Reported → Option (List ℕ)
session_reported left Abandoned = left
session_reported left reported = sid_reported reported

-- if a role, a label or a variable is named by its number, a graph is given that has it
abbrev pub CanBeReported : Option Graph → Reported → Type 0
CanBeReported graph (Happened e) = IsSomeAnd graph (λ g. HasEvent g e)
CanBeReported graph (Sends e to frame) = IsSomeAnd graph (λ g. HasEvent g e)
CanBeReported graph (NotActed (Protocol.ActFault.Send (Protocol.SendFault.BadValues x))) = IsSomeAnd graph (λ g. x < length g.variables)
CanBeReported graph (NotDelivered (Protocol.Refusal.BadOpening x)) = IsSomeAnd graph (λ g. x < length g.variables)
CanBeReported graph other = ⊤
