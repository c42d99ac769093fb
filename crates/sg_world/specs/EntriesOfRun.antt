-- The entries of a record, as those of a run's log.
use Rattle.std.specs.Prelude.{◌≡◌, ℕ, List, [], Some, slice_get}
use Rattle.sg_protocol.specs.Graph.{Graph}
use Rattle.sg_walk.specs.Model.{event_of}
use Rattle.sg_certify.specs.Adding.{IsAdded}
use Rattle.sg_certify.specs.Traces.{Trace, Traces}
use Rattle.sg_node.specs.Receipts.{IsWalkOf}
use Rattle.sg_protocol.specs.Calls.{Event, sid_of}
use Rattle.sg_report.specs.Outcome.{graph_of_event, outcome_of}
use Rattle.sg_report.specs.Reported.{event_reported}
use Rattle.sg_report.specs.declared.outcome.Outcome.{Outcome}
use Rattle.sg_report.specs.declared.outcome.Outcome.TheVariants as held
use Rattle.sg_world.specs.RecordModel.{TakenStep}

-- the trace of the session of the entry's event, if there is one, is of the event's graph
abbrev pub FitsEntry : TakenStep → Traces → Type 0
FitsEntry e traces = (event : Event) (g : Graph) (i : ℕ) (c : Trace) → event_reported (outcome_of e.outcome) ≡ Some event → graph_of_event e.outcome ≡ Some g → slice_get traces i ≡ Some (sid_of event, c) → c.graph ≡ g

-- the event of the outcome was added, if it has one, and of a receipt beside a walk that shows its view
abbrev pub IsOutcomeAdded : Outcome → List ℕ → Traces → Traces → Type 0
IsOutcomeAdded (held.Started h) honest old new = IsAdded h.graph.now honest (event_of h.event) [] old new
IsOutcomeAdded (held.Sent h to frame) honest old new = IsAdded h.graph.now honest (event_of h.event) [] old new
IsOutcomeAdded (held.Received r) honest old new = (walk : List ℕ) × IsWalkOf r walk × IsAdded r.program.graph honest r.event walk old new
IsOutcomeAdded other honest old new = new ≡ old

-- so was that of the entry
abbrev pub IsEntryAdded : TakenStep → Traces → Traces → Type 0
IsEntryAdded e old new = IsOutcomeAdded e.outcome e.honest old new
