use Rattle.std.proofs.Common.{◌≡◌, ◌+◌, ◌↔◌, ◌==◌, ◌&&◌, ◌||◌, [], not, length, map, ap, sym, ◌∙◌, subst, arith, rules}
use Rattle.std.specs.Prelude.{Some, None, flat_map}
use Rattle.sg_model.specs.Lists.{is_in}
use Rattle.sg_model.specs.Shape.{sender}
use Rattle.sg_protocol.specs.Graph.{shape}
use Rattle.sg_protocol.specs.Walk.{Sends, Receives, act_if, acts_of_event, honest_acts}
use Rattle.sg_explain.specs.Matching.{Takes, kept, acts_from}
use Rattle.sg_walk.specs.Model.{event_of, step_of, steps_of, writes_of}
use Rattle.sg_explain.proofs.Explained.{Explaining-init, refuse_receipt, explain_step, explain_end, explains_whole}
use Rattle.sg_explain.proofs.Indices.{small_keys}
use Rattle.sg_explain.proofs.Steps.{named_at, numbers_below}
use Rattle.sg_explain.proofs.part.explained.explains.Goals as goal

pub loop-number-init : goal.loop-number-init
loop-number-init c =
    Explaining-init (flat_map acts_of_event (map event_of c.args.events.now) ≡ honest_acts c.args.graph.now (λ r. is_in r c.args.honest) c.args.taken [] (steps_of c.args.walk.now)) c.args.graph.now (λ r. is_in r c.args.honest) c.args.taken c.args.events.now c.as_slice-steps.result.now
    (subst (λ xs. (flat_map acts_of_event (map event_of c.args.events.now) ≡ honest_acts c.args.graph.now (λ r. is_in r c.args.honest) c.args.taken [] (steps_of c.args.walk.now)) ↔ (acts_from c.args.events.now 0 ≡ honest_acts c.args.graph.now (λ r. is_in r c.args.honest) c.args.taken [] (map step_of xs))) (sym c.as_slice-steps.ensures) (λ w. w, λ w. w))

pub edge_of-edge-requires : goal.edge_of-edge-requires
edge_of-edge-requires c = (named_at c.args.graph.now c.as_slice-steps.result.now c.args.walk.now.steps c.loop-number.number c.index-steps-number.result c.as_slice-steps.ensures c.requires c.loop-number-test.true c.index-steps-number.is).0

pub sender-requires : goal.sender-requires
sender-requires c = (named_at c.args.graph.now c.as_slice-steps.result.now c.args.walk.now.steps c.loop-number.number c.index-steps-number.result c.as_slice-steps.ensures c.requires c.loop-number-test.true c.index-steps-number.is).0

pub sender-requires-in-loop-number : goal.sender-requires-in-loop-number
sender-requires-in-loop-number c = (named_at c.args.graph.now c.as_slice-steps.result.now c.args.walk.now.steps c.loop-number.number c.index-steps-number.result c.as_slice-steps.ensures c.requires c.loop-number-test.true c.index-steps-number.is).0

pub receiver-requires : goal.receiver-requires
receiver-requires c = (named_at c.args.graph.now c.as_slice-steps.result.now c.args.walk.now.steps c.loop-number.number c.index-steps-number.result c.as_slice-steps.ensures c.requires c.loop-number-test.true c.index-steps-number.is).0

pub receiver-requires-in-loop-number : goal.receiver-requires-in-loop-number
receiver-requires-in-loop-number c = (named_at c.args.graph.now c.as_slice-steps.result.now c.args.walk.now.steps c.loop-number.number c.index-steps-number.result c.as_slice-steps.ensures c.requires c.loop-number-test.true c.index-steps-number.is).0

pub note_writes-requires : goal.note_writes-requires
note_writes-requires c = (small_keys c.args.graph.now c.index-steps-number.result c.edge_of-edge.result.writes (named_at c.args.graph.now c.as_slice-steps.result.now c.args.walk.now.steps c.loop-number.number c.index-steps-number.result c.as_slice-steps.ensures c.requires c.loop-number-test.true c.index-steps-number.is) (ap (λ e. e.writes) c.edge_of-edge.ensures.edge) c.edge_of-edge.ensures.writes)

pub returns-in_default-after_receiving : goal.returns-in_default-after_receiving
returns-in_default-after_receiving c = (
  λ t. absurd (cc),
  λ w. absurd (refuse_receipt (flat_map acts_of_event (map event_of c.args.events.now) ≡ honest_acts c.args.graph.now (λ r. is_in r c.args.honest) c.args.taken [] (steps_of c.args.walk.now)) c.args.graph.now (λ r. is_in r c.args.honest) c.args.taken c.args.events.now c.as_slice-steps.result.now c.loop-number.number c.loop-number.at c.in-Some.sent c.loop-number.indices c.note_writes.new.indices c.index-steps-number.result c.counts-hears.result c.edge_of-edge.result.reads
      c.loop-number-test.true c.index-steps-number.is (subst (λ b. Takes c.args.events.now c.loop-number.at (act_if b (Sends (sender (shape c.args.graph.now) c.index-steps-number.result.label) c.index-steps-number.result.label (writes_of c.index-steps-number.result.writes))) (Some c.in-Some.sent)) (c.has-sends.ensures ∙ ap (λ r. is_in r c.args.honest) c.sender.ensures.role)
      (subst (λ r. Takes c.args.events.now c.loop-number.at (act_if c.has-sends.result (Sends r c.index-steps-number.result.label (writes_of c.index-steps-number.result.writes))) (Some c.in-Some.sent)) c.sender-in-loop-number.ensures.role c.in-Some.ensures)) c.note_writes.ensures (c.counts-hears.ensures ∙ ap (λ r. is_in r c.args.honest && (c.args.taken || not (c.loop-number.number + 1 == length c.as_slice-steps.result.now))) c.receiver.ensures.role) (ap (λ e. e.reads) c.edge_of-edge.ensures.edge) (numbers_below 32 c.edge_of-edge.result.reads c.edge_of-edge.ensures.reads)
      (subst (λ r. Takes c.args.events.now c.in-Some.sent (act_if c.counts-hears.result (Receives r c.index-steps-number.result.label (kept (map step_of c.as_slice-steps.result.now) c.note_writes.new.indices c.edge_of-edge.result.reads))) None) c.receiver-in-loop-number.ensures.role c.in_default-after_receiving.ensures) c.loop-number.invariant w),
)

pub loop-number-preserved : goal.loop-number-preserved
loop-number-preserved c =
    explain_step (flat_map acts_of_event (map event_of c.args.events.now) ≡ honest_acts c.args.graph.now (λ r. is_in r c.args.honest) c.args.taken [] (steps_of c.args.walk.now)) c.args.graph.now (λ r. is_in r c.args.honest) c.args.taken c.args.events.now c.as_slice-steps.result.now c.loop-number.number c.loop-number.at c.in-Some.sent c.in-Some-after_receiving.received c.loop-number.indices c.note_writes.new.indices c.index-steps-number.result c.counts-hears.result c.edge_of-edge.result.reads
    c.loop-number-test.true c.index-steps-number.is (subst (λ b. Takes c.args.events.now c.loop-number.at (act_if b (Sends (sender (shape c.args.graph.now) c.index-steps-number.result.label) c.index-steps-number.result.label (writes_of c.index-steps-number.result.writes))) (Some c.in-Some.sent)) (c.has-sends.ensures ∙ ap (λ r. is_in r c.args.honest) c.sender.ensures.role)
    (subst (λ r. Takes c.args.events.now c.loop-number.at (act_if c.has-sends.result (Sends r c.index-steps-number.result.label (writes_of c.index-steps-number.result.writes))) (Some c.in-Some.sent)) c.sender-in-loop-number.ensures.role c.in-Some.ensures)) c.note_writes.ensures (c.counts-hears.ensures ∙ ap (λ r. is_in r c.args.honest && (c.args.taken || not (c.loop-number.number + 1 == length c.as_slice-steps.result.now))) c.receiver.ensures.role) (ap (λ e. e.reads) c.edge_of-edge.ensures.edge) (numbers_below 32 c.edge_of-edge.result.reads c.edge_of-edge.ensures.reads)
    (subst (λ r. Takes c.args.events.now c.in-Some.sent (act_if c.counts-hears.result (Receives r c.index-steps-number.result.label (kept (map step_of c.as_slice-steps.result.now) c.note_writes.new.indices c.edge_of-edge.result.reads))) (Some c.in-Some-after_receiving.received)) c.receiver-in-loop-number.ensures.role c.in-Some-after_receiving.ensures) c.loop-number.invariant

pub returns : goal.returns
returns c =
    explains_whole _ c.args.events.now c.loop-number.at c.next_act.result c.is_none.result (search rules) c.next_act.ensures
    (explain_end _ c.args.graph.now (λ r. is_in r c.args.honest) c.args.taken c.args.events.now c.as_slice-steps.result.now c.loop-number.number c.loop-number.at c.loop-number.indices (omega arith) c.loop-number.invariant)
