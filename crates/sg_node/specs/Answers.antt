-- What the node answers, as an answer of the definitions.
use Rattle.std.specs.Prelude.{◌≡◌, ℕ, Bool, true, false, List, Option, None, Some, option_map, Result, Ok, Err, All, ⊤}
use Rattle.sg_protocol.specs.Calls.{Call, Answer, Sends, Abandoned, NotStarted, NotActed, NotAbandoned, NotDelivered}
use Rattle.sg_protocol.specs.Calls as Protocol
use Rattle.sg_protocol.specs.Frame.{Frame}
use Rattle.sg_protocol.specs.Past.{Past, node_of, past_after, new_node, AreAnswers}
use Rattle.sg_protocol.specs.Ranges.{IsCallInRange}
use Rattle.sg_protocol.specs.NodeStates.{NodeState, RepresentsPast, state_after}
use Rattle.sg_protocol.specs.Spelling.{spelling}
use Rattle.sg_protocol.specs.Acting.{answer}
use Rattle.sg_protocol.specs.Texts.{real}
use Rattle.sg_walk.specs.declared.event.Event.{Event}
use Rattle.sg_walk.specs.Model.{event_of}
use Rattle.sg_receipt.specs.declared.fault.StartFault.{StartFault}
use Rattle.sg_node.specs.declared.fault.ActFault.{ActFault}
use Rattle.sg_receipt.specs.declared.fault.Refusal.{Refusal}
use Rattle.sg_node.specs.declared.fault.UnknownSession.{UnknownSession}
use Rattle.sg_receipt.specs.Faults.{start_fault, refusal}
use Rattle.sg_node.specs.Faults.{act_fault}
pub use Rattle.sg_receipt.specs.Answers.{answer_of_start, IsAnswerOfAct, answer_of_delivery, graph_of_start, graph_of_act, graph_of_delivery, graph_named}

-- it is this answer, or memory ran out
abbrev pub IsAnswer : Answer → Option Answer → Type 0
IsAnswer a None = ⊤
IsAnswer a (Some given) = a ≡ given

-- the answer to a start
abbrev pub start_answer : Result Event StartFault → Option Answer
start_answer (Ok e) = Some (Protocol.Answer.Happened (event_of e))
start_answer (Err fault) = option_map NotStarted (start_fault fault)

-- the answer to an act: the frame is the one whose spelling is sealed, for the principal that it goes to
abbrev pub IsActAnswer : Answer → Result (Event × (List ℕ × List ℕ)) ActFault → Type 0
IsActAnswer a (Ok r) = (f : Frame) × (a ≡ Sends (event_of r.0) (r.1).0 f) × ((r.1).1 ≡ spelling f)
IsActAnswer a (Err fault) = IsAnswer a (option_map NotActed (act_fault fault))

-- a step is sent
abbrev pub is_sending : Answer → Bool
is_sending (Sends e to f) = true
is_sending other = false

-- Memory may be asked for before this is answered: it isn't a refusal of a start or a delivery for which the graph, the cast, the keys and what is live suffice
abbrev pub may_take_memory : Answer → Bool
may_take_memory (NotStarted Protocol.StartFault.UnknownGraph) = false
may_take_memory (NotStarted Protocol.StartFault.BadCast) = false
may_take_memory (NotStarted (Protocol.StartFault.UnknownPeer name)) = false
may_take_memory (NotDelivered Protocol.Refusal.UnknownGraph) = false
may_take_memory (NotDelivered Protocol.Refusal.BadCast) = false
may_take_memory (NotDelivered (Protocol.Refusal.UnknownPeer name)) = false
may_take_memory (NotDelivered Protocol.Refusal.UnknownSession) = false
may_take_memory (NotDelivered Protocol.Refusal.NotWaiting) = false
may_take_memory other = true

-- the answer to an abandonment
abbrev pub abandon_answer : Result (Unit {0}) UnknownSession → Answer
abandon_answer (Ok u) = Abandoned
abandon_answer (Err fault) = NotAbandoned

-- the answer to a delivery
abbrev pub delivery_answer : Result Event Refusal → Option Answer
delivery_answer (Ok e) = Some (Protocol.Answer.Happened (event_of e))
delivery_answer (Err fault) = option_map NotDelivered (refusal fault)

-- ---- pasts

-- the calls of the past were in range, and were answered as the node answers
pub record IsAnsweredPast (past : Past) : Type 0 where
  pub calls : All (λ c. IsCallInRange c.call) past.calls
  pub answers : AreAnswers real (new_node past.keys past.programs past.first) past.calls

-- a state that represented the past represents it with the call, whatever the past is
pub record GoesOn (old new : NodeState) (call : Call) (past : Past) : Type 0 where
  -- it is the state after the answer
  pub state : new ≡ state_after old call (answer real (node_of past) call)
  pub represents : RepresentsPast new (past_after real past call)
