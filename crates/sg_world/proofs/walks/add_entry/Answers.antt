use Rattle.std.proofs.Common.{All, OnOk, length, ◌<◌, Some, [], sym, ◌∙◌, ap, subst}
use Rattle.sg_protocol.specs.Calls.{Event}
use Rattle.sg_protocol.specs.Graph.{Graph}
use Rattle.sg_walk.specs.Model.{event_of}
use Rattle.sg_certify.specs.Adding.{IsAdded}
use Rattle.sg_certify.proofs.Taking.{on_ok}
use Rattle.sg_report.specs.Outcome.{graph_of_event, outcome_of}
use Rattle.sg_report.specs.Reported.{event_reported}
use Rattle.sg_report.specs.declared.outcome.Outcome.{Outcome}
use Rattle.sg_world.specs.EntriesOfRun.{FitsEntry, IsEntryAdded, IsOutcomeAdded}
use Rattle.sg_world.specs.RecordModel.{TakenStep}
use Rattle.sg_world.proofs.walks.add_entry.Goals as goal

pub add-requires-clause-graph : goal.add-requires-clause-graph
add-requires-clause-graph c = λ i t at.
    let fits = subst (λ (e : TakenStep). FitsEntry e c.args.traces.now) (sym c.entry.view_is) c.requires in
    fits (event_of c.in-Started.begun.event) c.in-Started.begun.graph.now i t (ap (λ (o : Outcome). event_reported (outcome_of o)) c.in-Started.is) (ap graph_of_event c.in-Started.is) at

pub add-requires-in-Sent-clause-graph : goal.add-requires-in-Sent-clause-graph
add-requires-in-Sent-clause-graph c = λ i t at.
    let fits = subst (λ (e : TakenStep). FitsEntry e c.args.traces.now) (sym c.entry.view_is) c.requires in
    fits (event_of c.in-Sent.sent.event) c.in-Sent.sent.graph.now i t (ap (λ (o : Outcome). event_reported (outcome_of o)) c.in-Sent.is) (ap graph_of_event c.in-Sent.is) at

pub add-requires-in-Received-clause-graph : goal.add-requires-in-Received-clause-graph
add-requires-in-Received-clause-graph c = λ i t at.
    let fits = subst (λ (e : TakenStep). FitsEntry e c.args.traces.now) (sym c.entry.view_is) c.requires in
    fits (event_of c.event.result.now) c.graph.result.now i t (ap (λ (o : Outcome). event_reported (outcome_of o)) c.in-Received.is ∙ ap (λ (e : Event). Some e) (sym c.event.ensures))
    (ap graph_of_event c.in-Received.is ∙ ap (λ (g : Graph). Some g) (sym c.graph.ensures)) at

pub add-requires-in-Received-clause-edges : goal.add-requires-in-Received-clause-edges
add-requires-in-Received-clause-edges c = subst (λ (g : Graph). All (λ e. e < length g.edges) c.walk.result.now) (sym c.graph.ensures) c.walk.ensures.edges

pub returns-in-Started : goal.returns-in-Started
returns-in-Started c =
    subst (λ (e : TakenStep). OnOk c.add.result (IsEntryAdded e c.args.traces.now c.add.new.self)) c.entry.view_is
    (on_ok (IsAdded c.in-Started.begun.graph.now c.entry.inside.honest (event_of c.in-Started.begun.event) [] c.args.traces.now c.add.new.self)
    (IsOutcomeAdded c.entry.inside.outcome c.entry.inside.honest c.args.traces.now c.add.new.self) c.add.result
    (subst (λ (o : Outcome). IsOutcomeAdded o c.entry.inside.honest c.args.traces.now c.add.new.self) (sym c.in-Started.is)) c.add.ensures.added)

pub returns-in-Sent : goal.returns-in-Sent
returns-in-Sent c =
    subst (λ (e : TakenStep). OnOk c.add-in-Sent.result (IsEntryAdded e c.args.traces.now c.add-in-Sent.new.self)) c.entry.view_is
    (on_ok (IsAdded c.in-Sent.sent.graph.now c.entry.inside.honest (event_of c.in-Sent.sent.event) [] c.args.traces.now c.add-in-Sent.new.self)
    (IsOutcomeAdded c.entry.inside.outcome c.entry.inside.honest c.args.traces.now c.add-in-Sent.new.self) c.add-in-Sent.result
    (subst (λ (o : Outcome). IsOutcomeAdded o c.entry.inside.honest c.args.traces.now c.add-in-Sent.new.self) (sym c.in-Sent.is)) c.add-in-Sent.ensures.added)

-- a receipt beside its own walk
pub returns-in-Received : goal.returns-in-Received
returns-in-Received c =
    let walk = c.walk.result.now in
    let old = c.args.traces.now in
    let now = c.add-in-Received.new.self in
    let honest = c.entry.inside.honest in
    subst (λ (e : TakenStep). OnOk c.add-in-Received.result (IsEntryAdded e old now)) c.entry.view_is
    (on_ok (IsAdded c.graph.result.now honest (event_of c.event.result.now) walk old now) (IsOutcomeAdded c.entry.inside.outcome honest old now) c.add-in-Received.result
    (λ added. subst (λ (o : Outcome). IsOutcomeAdded o honest old now) (sym c.in-Received.is) (
      walk,
      c.walk.ensures,
      subst (λ (e : Event). IsAdded c.in-Received.receipt.program.graph honest e walk old now) c.event.ensures
          (subst (λ (g : Graph). IsAdded g honest (event_of c.event.result.now) walk old now) c.graph.ensures added),
    ))
    c.add-in-Received.ensures.added)
