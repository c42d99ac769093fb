-- What a node answers, as an answer of the definitions. Want of memory is apart from it.
use Rattle.std.specs.Prelude.{◌≡◌, ℕ, List, Option, None, Some, if◌then◌else◌, Result, Ok, Err}
use Rattle.sg_protocol.specs.Calls.{Answer, Sends, NotStarted, NotActed, NotDelivered}
use Rattle.sg_protocol.specs.Calls as Protocol
use Rattle.sg_protocol.specs.Frame.{Frame}
use Rattle.sg_protocol.specs.Graph.{Graph}
use Rattle.sg_protocol.specs.Named.{names_numbers}
use Rattle.sg_protocol.specs.Spelling.{spelling}
use Rattle.sg_walk.specs.Model.{event_of}
use Rattle.sg_receipt.specs.declared.answer.Happened.{Happened}
use Rattle.sg_receipt.specs.declared.refusal.StartRefusal.{StartRefusal}
use Rattle.sg_receipt.specs.declared.refusal.ActRefusal.{ActRefusal}
use Rattle.sg_receipt.specs.declared.refusal.DeliveryRefusal.{DeliveryRefusal}
use Rattle.sg_receipt.specs.Receipts.{Receipt}
use Rattle.sg_receipt.specs.Refusals.{start_refusal, act_refusal, delivery_refusal, graph_of_act_refusal, graph_of_delivery_refusal}

-- the answer to a start
abbrev pub answer_of_start : Result Happened StartRefusal → Answer
answer_of_start (Ok h) = Protocol.Answer.Happened (event_of h.event)
answer_of_start (Err why) = NotStarted (start_refusal why)

-- it answers an act: the frame is the one whose spelling is sealed, for the principal that it goes to
abbrev pub IsAnswerOfAct : Answer → Result (Happened × (List ℕ × List ℕ)) ActRefusal → Type 0
IsAnswerOfAct a (Ok r) = (f : Frame) × (a ≡ Sends (event_of (r.0).event) (r.1).0 f) × ((r.1).1 ≡ spelling f)
IsAnswerOfAct a (Err why) = a ≡ NotActed (act_refusal why)

-- the answer to a delivery
abbrev pub answer_of_delivery : Result Receipt DeliveryRefusal → Answer
answer_of_delivery (Ok r) = Protocol.Answer.Happened r.event
answer_of_delivery (Err why) = NotDelivered (delivery_refusal why)

-- the graph that an answer has beside its numbers
abbrev pub graph_of_start : Result Happened StartRefusal → Option Graph
graph_of_start (Ok h) = Some h.graph.now
graph_of_start (Err why) = None

abbrev pub graph_of_act : Result (Happened × (List ℕ × List ℕ)) ActRefusal → Option Graph
graph_of_act (Ok r) = Some (r.0).graph.now
graph_of_act (Err why) = graph_of_act_refusal why

abbrev pub graph_of_delivery : Result Receipt DeliveryRefusal → Option Graph
graph_of_delivery (Ok r) = Some r.program.graph
graph_of_delivery (Err why) = graph_of_delivery_refusal why

-- the graph of a call, if its answer names a role, a label or a variable by its number
abbrev pub graph_named : Answer → Option Graph → Option Graph
graph_named a g = if names_numbers a then g else None
