-- The outcome of a step, as the program holds it, as what is reported of it, and the graph that it has beside its numbers.
use Rattle.std.specs.Prelude.{Option, Some, None}
use Rattle.sg_protocol.specs.Graph.{Graph}
use Rattle.sg_receipt.specs.Refusals.{start_refusal, act_refusal, delivery_refusal, graph_of_act_refusal, graph_of_delivery_refusal}
use Rattle.sg_report.specs.Reported.{Reported, Happened, Sends, Abandoned, Crafted, NotStarted, NotActed, NotAbandoned, NotDelivered, NoFrame}
use Rattle.sg_report.specs.declared.outcome.Outcome.{Outcome}
use Rattle.sg_report.specs.declared.outcome.Outcome.TheVariants as held
use Rattle.sg_walk.specs.Model.{event_of}

-- what is reported of an outcome
abbrev pub outcome_of : Outcome → Reported
outcome_of (held.Started h) = Happened (event_of h.event)
outcome_of (held.Sent h to frame) = Sends (event_of h.event) to frame
outcome_of (held.Received r) = Happened r.event
outcome_of held.Abandoned = Abandoned
outcome_of (held.Crafted frame) = Crafted frame
outcome_of (held.NotStarted why) = NotStarted (start_refusal why)
outcome_of (held.NotActed why) = NotActed (act_refusal why)
outcome_of held.NotAbandoned = NotAbandoned
outcome_of (held.NotDelivered why) = NotDelivered (delivery_refusal why)
outcome_of held.NoFrame = NoFrame

-- the graph of the session of its event, if it has one
abbrev pub graph_of_event : Outcome → Option Graph
graph_of_event (held.Started h) = Some h.graph.now
graph_of_event (held.Sent h to frame) = Some h.graph.now
graph_of_event (held.Received r) = Some r.program.graph
graph_of_event other = None

-- the graph by which it names a role, a label or a variable, if it names one
abbrev pub graph_in : Outcome → Option Graph
graph_in (held.NotActed why) = graph_of_act_refusal why
graph_in (held.NotDelivered why) = graph_of_delivery_refusal why
graph_in other = graph_of_event other
