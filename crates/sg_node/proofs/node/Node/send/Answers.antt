use Rattle.std.proofs.Common.{◌≡◌, ◌<◌, length, None, Some, refl, sym, ◌∙◌, ap, subst}
use Rattle.std.specs.List.{AllByRecursion}
use Rattle.indexmap.specs.IndexMap.{set_value_at}
use Rattle.sg_protocol.specs.Acting.{answer}
use Rattle.sg_protocol.specs.Calls.{Act}
use Rattle.sg_protocol.specs.Calls as Protocol
use Rattle.sg_protocol.specs.Graph.{Graph}
use Rattle.sg_protocol.specs.Keyring.{Program}
use Rattle.sg_protocol.specs.NodeStates.{NodeState, RepresentsPast}
use Rattle.sg_protocol.specs.Past.{node_of}
use Rattle.sg_protocol.specs.Texts.{real}
use Rattle.sg_protocol.specs.Named.{graph_of_call}
use Rattle.sg_walk.specs.Model.{values_of}
use Rattle.sg_role.specs.Sending.{with_notes}
use Rattle.sg_role.specs.Model.{RoleState}
use Rattle.sg_receipt.specs.Answers.{graph_named}
use Rattle.sg_node.specs.Answers.{GoesOn}
use Rattle.sg_node.specs.Slots.{held_in, left_by}
use Rattle.sg_node.specs.Invariant.{IsSlot}
use Rattle.sg_node.specs.declared.sessions.Live.TheVariants.{AtTurn, Waiting}
use Rattle.sg_node.proofs.Indices.{live_at, some_none}
use Rattle.sg_node.proofs.InSlots.{set_twice, set_same, at_set, length_set}
use Rattle.sg_node.proofs.Acts.{with_none, quiet, first_at, not_there, not_its_turn, not_sent_by, its_session, would_send, act_answer, act_notes, act_slots, stays_by, goes_by}
use Rattle.sg_node.proofs.Receipts.{all_refused, in_err}
use Rattle.sg_node.proofs.Refusing.{by_refusal, graph_beside, if_memory, refused_act}
use Rattle.sg_node.proofs.GraphsOfSessions.{graph_with_sid}
use Rattle.sg_node.proofs.node.Node.send.Goals as goal

pub returns-in_default-clause-answer : goal.returns-in_default-clause-answer
returns-in_default-clause-answer c =
    λ past st. (not_there c.self.inside c.self.invariant (node_of past) (subst (λ (z : NodeState). RepresentsPast z past) (sym c.self.view_is) st) c.args.sid c.args.label (values_of c.args.values.now) c.args.confounders.now (sym c.first.ensures ∙ c.in_default.is))

pub returns-in_default-clause-graph : goal.returns-in_default-clause-graph
returns-in_default-clause-graph c =
    λ past st. ap (λ a. graph_named a (graph_of_call real (node_of past) (Act c.args.sid c.args.label (values_of c.args.values.now) c.args.confounders.now))) (sym (not_there c.self.inside c.self.invariant (node_of past) (subst (λ (z : NodeState). RepresentsPast z past) (sym c.self.view_is) st) c.args.sid c.args.label (values_of c.args.values.now) c.args.confounders.now (sym c.first.ensures ∙ c.in_default.is)))

pub returns-in_default-clause-state : goal.returns-in_default-clause-state
returns-in_default-clause-state c =
    λ past st. subst (λ (z : NodeState). GoesOn z z (Act c.args.sid c.args.label (values_of c.args.values.now) c.args.confounders.now) past) c.self.view_is (stays_by c.self.inside c.self.invariant past (subst (λ (z : NodeState). RepresentsPast z past) (sym c.self.view_is) st) c.args.sid c.args.label (values_of c.args.values.now) c.args.confounders.now c.facts_of_values.ensures c.self.inside.sessions.slots refl Protocol.ActFault.UnknownSession (not_there c.self.inside c.self.invariant (node_of past) (subst (λ (z : NodeState). RepresentsPast z past) (sym c.self.view_is) st) c.args.sid c.args.label (values_of c.args.values.now) c.args.confounders.now (sym c.first.ensures ∙ c.in_default.is)))

pub returns-in_default-clause-notes : goal.returns-in_default-clause-notes
returns-in_default-clause-notes c =
    λ past st. with_none c.args.notes.now ∙ ap (with_notes c.args.notes.now) (sym (quiet (node_of past) c.args.sid c.args.label (values_of c.args.values.now) c.args.confounders.now Protocol.ActFault.UnknownSession (not_there c.self.inside c.self.invariant (node_of past) (subst (λ (z : NodeState). RepresentsPast z past) (sym c.self.view_is) st) c.args.sid c.args.label (values_of c.args.values.now) c.args.confounders.now (sym c.first.ensures ∙ c.in_default.is))))

pub take-requires : goal.take-requires
take-requires c =
    let at = sym c.in-Some.ensures in
    (first_at c.self.inside c.self.invariant c.args.sid c.in-Some.index at).within

pub keep-event-requires-clause-empty : goal.keep-event-requires-clause-empty
keep-event-requires-clause-empty c =
    let at = sym c.in-Some.ensures in
    ap (λ z. live_at z c.in-Some.index) c.take.ensures.slots ∙ at_set c.self.inside.sessions.slots c.in-Some.index None (first_at c.self.inside c.self.invariant c.args.sid c.in-Some.index at).within

pub keep-event-requires-clause-within : goal.keep-event-requires-clause-within
keep-event-requires-clause-within c =
    let at = sym c.in-Some.ensures in
    subst (λ k. c.in-Some.index < k) (sym (ap length c.take.ensures.slots ∙ length_set c.self.inside.sessions.slots c.in-Some.index None)) (first_at c.self.inside c.self.invariant c.args.sid c.in-Some.index at).within

pub put-requires-clause-empty : goal.put-requires-clause-empty
put-requires-clause-empty c =
    let at = sym c.in-Some.ensures in
    ap (λ z. live_at z c.in-Some.index) c.take.ensures.slots ∙ at_set c.self.inside.sessions.slots c.in-Some.index None (first_at c.self.inside c.self.invariant c.args.sid c.in-Some.index at).within

pub put-requires-clause-within : goal.put-requires-clause-within
put-requires-clause-within c =
    let at = sym c.in-Some.ensures in
    subst (λ k. c.in-Some.index < k) (sym (ap length c.take.ensures.slots ∙ length_set c.self.inside.sessions.slots c.in-Some.index None)) (first_at c.self.inside c.self.invariant c.args.sid c.in-Some.index at).within

pub put-requires-in-Some-Waiting-clause-empty : goal.put-requires-in-Some-Waiting-clause-empty
put-requires-in-Some-Waiting-clause-empty c =
    let at = sym c.in-Some.ensures in
    ap (λ z. live_at z c.in-Some.index) c.take.ensures.slots ∙ at_set c.self.inside.sessions.slots c.in-Some.index None (first_at c.self.inside c.self.invariant c.args.sid c.in-Some.index at).within

pub put-requires-in-Some-Waiting-clause-within : goal.put-requires-in-Some-Waiting-clause-within
put-requires-in-Some-Waiting-clause-within c =
    let at = sym c.in-Some.ensures in
    subst (λ k. c.in-Some.index < k) (sym (ap length c.take.ensures.slots ∙ length_set c.self.inside.sessions.slots c.in-Some.index None)) (first_at c.self.inside c.self.invariant c.args.sid c.in-Some.index at).within

pub invariant_of-self : goal.invariant_of-self
invariant_of-self c =
    let at = sym c.in-Some.ensures in
    let there = sym c.take.ensures.taken ∙ c.in-Some-AtTurn.is ∙ ap (λ z. Some z) c.in-Some-AtTurn.field-0-is in
    record { programs = c.self.invariant.programs; slots = subst (AllByRecursion (IsSlot c.self.inside.programs.now c.self.inside.joins.pairs)) (sym (c.keep-event.ensures.slots ∙ ap (λ z. set_value_at z c.in-Some.index (left_by c.in-Ok.sent)) c.take.ensures.slots ∙ set_twice c.self.inside.sessions.slots c.in-Some.index None (left_by c.in-Ok.sent))) (act_slots c.self.inside c.self.invariant c.args.sid c.args.label (values_of c.args.values.now) c.args.confounders.now c.in-Some.index at c.in-Some-AtTurn.turn there c.facts_of_values.ensures c.in-Ok.sent (record { accepted = c.in-Ok.ensures.accepted; state = c.in-Ok.ensures.state })) }

pub invariant_of-self-in-Err : goal.invariant_of-self-in-Err
invariant_of-self-in-Err c =
    let at = sym c.in-Some.ensures in
    let there = sym c.take.ensures.taken ∙ c.in-Some-AtTurn.is ∙ ap (λ z. Some z) c.in-Some-AtTurn.field-0-is in
    record { programs = c.self.invariant.programs; slots = subst (AllByRecursion (IsSlot c.self.inside.programs.now c.self.inside.joins.pairs)) (sym (c.put.ensures.slots ∙ ap (λ z. set_value_at z c.in-Some.index (Some (AtTurn c.in-Err.turn))) c.take.ensures.slots ∙ set_twice c.self.inside.sessions.slots c.in-Some.index None (Some (AtTurn c.in-Err.turn)) ∙ ap (λ (t : RoleState). set_value_at c.self.inside.sessions.slots c.in-Some.index (Some (AtTurn t))) c.in-Err.ensures.back.0 ∙ set_same c.self.inside.sessions.slots c.in-Some.index (Some (AtTurn c.in-Some-AtTurn.turn)) there (first_at c.self.inside c.self.invariant c.args.sid c.in-Some.index at).within)) c.self.invariant.slots }

pub invariant_of-self-in-Some-Waiting : goal.invariant_of-self-in-Some-Waiting
invariant_of-self-in-Some-Waiting c =
    let at = sym c.in-Some.ensures in
    let there = sym c.take.ensures.taken ∙ c.in-Some-Waiting.is ∙ ap (λ z. Some z) c.in-Some-Waiting.field-0-is in
    record { programs = c.self.invariant.programs; slots = subst (AllByRecursion (IsSlot c.self.inside.programs.now c.self.inside.joins.pairs)) (sym (c.put-in-Some-Waiting.ensures.slots ∙ ap (λ z. set_value_at z c.in-Some.index (Some (Waiting c.in-Some-Waiting.wait))) c.take.ensures.slots ∙ set_twice c.self.inside.sessions.slots c.in-Some.index None (Some (Waiting c.in-Some-Waiting.wait)) ∙ set_same c.self.inside.sessions.slots c.in-Some.index (Some (Waiting c.in-Some-Waiting.wait)) there (first_at c.self.inside c.self.invariant c.args.sid c.in-Some.index at).within)) c.self.invariant.slots }

pub unreachable-requires : goal.unreachable-requires
unreachable-requires c =
    let at = sym c.in-Some.ensures in
    some_none (first_at c.self.inside c.self.invariant c.args.sid c.in-Some.index at).live (sym (first_at c.self.inside c.self.invariant c.args.sid c.in-Some.index at).there ∙ sym c.take.ensures.taken ∙ c.in-None.is)

pub returns-in-Ok-clause-answer : goal.returns-in-Ok-clause-answer
returns-in-Ok-clause-answer c =
    let at = sym c.in-Some.ensures in
    let there = sym c.take.ensures.taken ∙ c.in-Some-AtTurn.is ∙ ap (λ z. Some z) c.in-Some-AtTurn.field-0-is in
    λ past st. act_answer c.self.inside c.self.invariant (node_of past) (subst (λ (z : NodeState). RepresentsPast z past) (sym c.self.view_is) st) c.args.sid c.args.label (values_of c.args.values.now) c.args.confounders.now c.in-Some.index at c.in-Some-AtTurn.turn there c.facts_of_values.ensures c.in-Ok.sent (record { accepted = c.in-Ok.ensures.accepted; state = c.in-Ok.ensures.state })
    (record { event = (c.keep-event.result).0; graph = c.graph-graph.result }, (c.keep-event.result).1) (c.keep-event.ensures.event ∙ c.in-Ok.ensures.event) (λ s q. c.keep-event.ensures.frame ∙ c.in-Ok.ensures.frame s q)

pub returns-in-Ok-clause-graph : goal.returns-in-Ok-clause-graph
returns-in-Ok-clause-graph c =
    let at = sym c.in-Some.ensures in
    let there = sym c.take.ensures.taken ∙ c.in-Some-AtTurn.is ∙ ap (λ z. Some z) c.in-Some-AtTurn.field-0-is in
    λ past st.
    let same = ap (λ (g : Graph). Some g) (c.graph-graph.ensures.graph ∙ ap (λ (p : Program). p.graph) c.program.ensures) ∙ sym (graph_with_sid c.self.inside c.self.invariant (node_of past) (subst (λ (z : NodeState). RepresentsPast z past) (sym c.self.view_is) st) c.args.sid c.in-Some.index (AtTurn c.in-Some-AtTurn.turn) at there) in
    same ∙ ap (λ a. graph_named a (graph_of_call real (node_of past) (Act c.args.sid c.args.label (values_of c.args.values.now) c.args.confounders.now)))
    (sym (act_answer c.self.inside c.self.invariant (node_of past) (subst (λ (z : NodeState). RepresentsPast z past) (sym c.self.view_is) st) c.args.sid c.args.label (values_of c.args.values.now) c.args.confounders.now c.in-Some.index at c.in-Some-AtTurn.turn there c.facts_of_values.ensures c.in-Ok.sent (record { accepted = c.in-Ok.ensures.accepted; state = c.in-Ok.ensures.state })
    (record { event = (c.keep-event.result).0; graph = c.graph-graph.result }, (c.keep-event.result).1) (c.keep-event.ensures.event ∙ c.in-Ok.ensures.event) (λ s q. c.keep-event.ensures.frame ∙ c.in-Ok.ensures.frame s q)).1)

pub returns-in-Ok-clause-state : goal.returns-in-Ok-clause-state
returns-in-Ok-clause-state c =
    let at = sym c.in-Some.ensures in
    let there = sym c.take.ensures.taken ∙ c.in-Some-AtTurn.is ∙ ap (λ z. Some z) c.in-Some-AtTurn.field-0-is in
    λ past st. subst (λ (z : NodeState). GoesOn z (record { keys = c.self.inside.keys; programs = c.self.inside.programs.now; joins = c.self.inside.joins.pairs; live = held_in c.keep-event.new.sessions.slots }) (Act c.args.sid c.args.label (values_of c.args.values.now) c.args.confounders.now) past) c.self.view_is (goes_by c.self.inside c.self.invariant past (subst (λ (z : NodeState). RepresentsPast z past) (sym c.self.view_is) st) c.args.sid c.args.label (values_of c.args.values.now) c.args.confounders.now c.facts_of_values.ensures c.keep-event.new.sessions.slots c.in-Some.index at c.in-Some-AtTurn.turn there c.in-Ok.sent (record { accepted = c.in-Ok.ensures.accepted; state = c.in-Ok.ensures.state }) (c.keep-event.ensures.slots ∙ ap (λ z. set_value_at z c.in-Some.index (left_by c.in-Ok.sent)) c.take.ensures.slots ∙ set_twice c.self.inside.sessions.slots c.in-Some.index None (left_by c.in-Ok.sent)))

pub returns-in-Ok-clause-notes : goal.returns-in-Ok-clause-notes
returns-in-Ok-clause-notes c =
    let at = sym c.in-Some.ensures in
    let there = sym c.take.ensures.taken ∙ c.in-Some-AtTurn.is ∙ ap (λ z. Some z) c.in-Some-AtTurn.field-0-is in
    λ past st. let it = its_session c.self.inside c.self.invariant (node_of past) (subst (λ (z : NodeState). RepresentsPast z past) (sym c.self.view_is) st) c.args.sid c.args.label (values_of c.args.values.now) c.args.confounders.now c.in-Some.index at c.in-Some-AtTurn.turn there in c.in-Ok.ensures.notes it.session it.represents ∙ ap (with_notes c.args.notes.now) (sym (act_notes c.self.inside c.self.invariant (node_of past) (subst (λ (z : NodeState). RepresentsPast z past) (sym c.self.view_is) st) c.args.sid c.args.label (values_of c.args.values.now) c.args.confounders.now c.in-Some.index at c.in-Some-AtTurn.turn there c.facts_of_values.ensures c.in-Ok.sent (record { accepted = c.in-Ok.ensures.accepted; state = c.in-Ok.ensures.state })))

pub returns-in-Err : goal.returns-in-Err
returns-in-Err c =
    let at = sym c.in-Some.ensures in
    let there = sym c.take.ensures.taken ∙ c.in-Some-AtTurn.is ∙ ap (λ z. Some z) c.in-Some-AtTurn.field-0-is in
    let back : c.put.new.self.slots ≡ c.self.inside.sessions.slots = c.put.ensures.slots ∙ ap (λ z. set_value_at z c.in-Some.index (Some (AtTurn c.in-Err.turn))) c.take.ensures.slots ∙ set_twice c.self.inside.sessions.slots c.in-Some.index None (Some (AtTurn c.in-Err.turn)) ∙ ap (λ (t : RoleState). set_value_at c.self.inside.sessions.slots c.in-Some.index (Some (AtTurn t))) c.in-Err.ensures.back.0 ∙ set_same c.self.inside.sessions.slots c.in-Some.index (Some (AtTurn c.in-Some-AtTurn.turn)) there (first_at c.self.inside c.self.invariant c.args.sid c.in-Some.index at).within in
    record {
      answer = λ past st. refused_act c.not_sent.result c.not_sent.ensures.refused c.in-Err.fault c.not_sent.ensures.refusal (answer real (node_of past) (Act c.args.sid c.args.label (values_of c.args.values.now) c.args.confounders.now))
          (not_sent_by c.self.inside c.self.invariant (node_of past) (subst (λ (z : NodeState). RepresentsPast z past) (sym c.self.view_is) st) c.args.sid c.args.label (values_of c.args.values.now) c.args.confounders.now c.in-Some.index at c.in-Some-AtTurn.turn there c.in-Err.fault c.in-Err.ensures.refused);
      graph = λ past st. graph_beside c.not_sent.result c.not_sent.ensures.refused (answer real (node_of past) (Act c.args.sid c.args.label (values_of c.args.values.now) c.args.confounders.now)) _ (graph_of_call real (node_of past) (Act c.args.sid c.args.label (values_of c.args.values.now) c.args.confounders.now))
          (refused_act c.not_sent.result c.not_sent.ensures.refused c.in-Err.fault c.not_sent.ensures.refusal (answer real (node_of past) (Act c.args.sid c.args.label (values_of c.args.values.now) c.args.confounders.now)) (not_sent_by c.self.inside c.self.invariant (node_of past) (subst (λ (z : NodeState). RepresentsPast z past) (sym c.self.view_is) st) c.args.sid c.args.label (values_of c.args.values.now) c.args.confounders.now c.in-Some.index at c.in-Some-AtTurn.turn there c.in-Err.fault c.in-Err.ensures.refused)) c.not_sent.ensures.graph
          (ap (λ (g : Graph). Some g) (c.graph-graph.ensures.graph ∙ ap (λ (p : Program). p.graph) c.program.ensures) ∙ sym (graph_with_sid c.self.inside c.self.invariant (node_of past) (subst (λ (z : NodeState). RepresentsPast z past) (sym c.self.view_is) st) c.args.sid c.in-Some.index (AtTurn c.in-Some-AtTurn.turn) at there));
      state = λ past st. by_refusal c.not_sent.result c.not_sent.ensures.refused _ (answer real (node_of past) (Act c.args.sid c.args.label (values_of c.args.values.now) c.args.confounders.now))
          (refused_act c.not_sent.result c.not_sent.ensures.refused c.in-Err.fault c.not_sent.ensures.refusal (answer real (node_of past) (Act c.args.sid c.args.label (values_of c.args.values.now) c.args.confounders.now)) (not_sent_by c.self.inside c.self.invariant (node_of past) (subst (λ (z : NodeState). RepresentsPast z past) (sym c.self.view_is) st) c.args.sid c.args.label (values_of c.args.values.now) c.args.confounders.now c.in-Some.index at c.in-Some-AtTurn.turn there c.in-Err.fault c.in-Err.ensures.refused)) (λ fault is.
          subst (λ (z : NodeState). GoesOn z (record { keys = c.self.inside.keys; programs = c.self.inside.programs.now; joins = c.self.inside.joins.pairs; live = held_in c.put.new.self.slots }) (Act c.args.sid c.args.label (values_of c.args.values.now) c.args.confounders.now) past) c.self.view_is (stays_by c.self.inside c.self.invariant past (subst (λ (z : NodeState). RepresentsPast z past) (sym c.self.view_is) st) c.args.sid c.args.label (values_of c.args.values.now) c.args.confounders.now c.facts_of_values.ensures c.put.new.self.slots back fault is));
      notes = λ past st. by_refusal c.not_sent.result c.not_sent.ensures.refused _ (answer real (node_of past) (Act c.args.sid c.args.label (values_of c.args.values.now) c.args.confounders.now))
          (refused_act c.not_sent.result c.not_sent.ensures.refused c.in-Err.fault c.not_sent.ensures.refusal (answer real (node_of past) (Act c.args.sid c.args.label (values_of c.args.values.now) c.args.confounders.now)) (not_sent_by c.self.inside c.self.invariant (node_of past) (subst (λ (z : NodeState). RepresentsPast z past) (sym c.self.view_is) st) c.args.sid c.args.label (values_of c.args.values.now) c.args.confounders.now c.in-Some.index at c.in-Some-AtTurn.turn there c.in-Err.fault c.in-Err.ensures.refused)) (λ fault is.
          c.in-Err.ensures.back.1 ∙ with_none c.args.notes.now ∙ ap (with_notes c.args.notes.now) (sym (quiet (node_of past) c.args.sid c.args.label (values_of c.args.values.now) c.args.confounders.now fault is)));
      refused = all_refused _ c.not_sent.result
          (ap (λ z. record { keys = c.self.inside.keys; programs = c.self.inside.programs.now; joins = c.self.inside.joins.pairs; live = held_in z }) back ∙ c.self.view_is, c.in-Err.ensures.back.1);
      memory = in_err _ c.not_sent.result
          (ap (λ z. record { keys = c.self.inside.keys; programs = c.self.inside.programs.now; joins = c.self.inside.joins.pairs; live = held_in z }) back ∙ c.self.view_is, c.in-Err.ensures.back.1);
      early = λ past st. if_memory c.not_sent.result c.not_sent.ensures.refused c.in-Err.fault c.not_sent.ensures.refusal _ (λ q.
          would_send c.self.inside c.self.invariant (node_of past) (subst (λ (z : NodeState). RepresentsPast z past) (sym c.self.view_is) st) c.args.sid c.args.label (values_of c.args.values.now) c.args.confounders.now c.in-Some.index at c.in-Some-AtTurn.turn there (λ s represents. c.in-Err.ensures.memory s represents q));
    }

pub returns-in-Some-Waiting-clause-answer : goal.returns-in-Some-Waiting-clause-answer
returns-in-Some-Waiting-clause-answer c =
    let at = sym c.in-Some.ensures in
    let there = sym c.take.ensures.taken ∙ c.in-Some-Waiting.is ∙ ap (λ z. Some z) c.in-Some-Waiting.field-0-is in
    λ past st. (not_its_turn c.self.inside c.self.invariant (node_of past) (subst (λ (z : NodeState). RepresentsPast z past) (sym c.self.view_is) st) c.args.sid c.args.label (values_of c.args.values.now) c.args.confounders.now c.in-Some.index at c.in-Some-Waiting.wait there)

pub returns-in-Some-Waiting-clause-graph : goal.returns-in-Some-Waiting-clause-graph
returns-in-Some-Waiting-clause-graph c =
    let at = sym c.in-Some.ensures in
    let there = sym c.take.ensures.taken ∙ c.in-Some-Waiting.is ∙ ap (λ z. Some z) c.in-Some-Waiting.field-0-is in
    λ past st. ap (λ a. graph_named a (graph_of_call real (node_of past) (Act c.args.sid c.args.label (values_of c.args.values.now) c.args.confounders.now))) (sym (not_its_turn c.self.inside c.self.invariant (node_of past) (subst (λ (z : NodeState). RepresentsPast z past) (sym c.self.view_is) st) c.args.sid c.args.label (values_of c.args.values.now) c.args.confounders.now c.in-Some.index at c.in-Some-Waiting.wait there))

pub returns-in-Some-Waiting-clause-state : goal.returns-in-Some-Waiting-clause-state
returns-in-Some-Waiting-clause-state c =
    let at = sym c.in-Some.ensures in
    let there = sym c.take.ensures.taken ∙ c.in-Some-Waiting.is ∙ ap (λ z. Some z) c.in-Some-Waiting.field-0-is in
    λ past st. subst (λ (z : NodeState). GoesOn z (record { keys = c.self.inside.keys; programs = c.self.inside.programs.now; joins = c.self.inside.joins.pairs; live = held_in c.put-in-Some-Waiting.new.self.slots }) (Act c.args.sid c.args.label (values_of c.args.values.now) c.args.confounders.now) past) c.self.view_is (stays_by c.self.inside c.self.invariant past (subst (λ (z : NodeState). RepresentsPast z past) (sym c.self.view_is) st) c.args.sid c.args.label (values_of c.args.values.now) c.args.confounders.now c.facts_of_values.ensures c.put-in-Some-Waiting.new.self.slots (c.put-in-Some-Waiting.ensures.slots ∙ ap (λ z. set_value_at z c.in-Some.index (Some (Waiting c.in-Some-Waiting.wait))) c.take.ensures.slots ∙ set_twice c.self.inside.sessions.slots c.in-Some.index None (Some (Waiting c.in-Some-Waiting.wait)) ∙ set_same c.self.inside.sessions.slots c.in-Some.index (Some (Waiting c.in-Some-Waiting.wait)) there (first_at c.self.inside c.self.invariant c.args.sid c.in-Some.index at).within) Protocol.ActFault.NotYourTurn (not_its_turn c.self.inside c.self.invariant (node_of past) (subst (λ (z : NodeState). RepresentsPast z past) (sym c.self.view_is) st) c.args.sid c.args.label (values_of c.args.values.now) c.args.confounders.now c.in-Some.index at c.in-Some-Waiting.wait there))

pub returns-in-Some-Waiting-clause-notes : goal.returns-in-Some-Waiting-clause-notes
returns-in-Some-Waiting-clause-notes c =
    let at = sym c.in-Some.ensures in
    let there = sym c.take.ensures.taken ∙ c.in-Some-Waiting.is ∙ ap (λ z. Some z) c.in-Some-Waiting.field-0-is in
    λ past st. with_none c.args.notes.now ∙ ap (with_notes c.args.notes.now) (sym (quiet (node_of past) c.args.sid c.args.label (values_of c.args.values.now) c.args.confounders.now Protocol.ActFault.NotYourTurn (not_its_turn c.self.inside c.self.invariant (node_of past) (subst (λ (z : NodeState). RepresentsPast z past) (sym c.self.view_is) st) c.args.sid c.args.label (values_of c.args.values.now) c.args.confounders.now c.in-Some.index at c.in-Some-Waiting.wait there)))

pub returns-in-Some-Waiting-clause-refused : goal.returns-in-Some-Waiting-clause-refused
returns-in-Some-Waiting-clause-refused c =
    let at = sym c.in-Some.ensures in
    let there = sym c.take.ensures.taken ∙ c.in-Some-Waiting.is ∙ ap (λ z. Some z) c.in-Some-Waiting.field-0-is in
    (ap (λ z. record { keys = c.self.inside.keys; programs = c.self.inside.programs.now; joins = c.self.inside.joins.pairs; live = held_in z }) (c.put-in-Some-Waiting.ensures.slots ∙ ap (λ z. set_value_at z c.in-Some.index (Some (Waiting c.in-Some-Waiting.wait))) c.take.ensures.slots ∙ set_twice c.self.inside.sessions.slots c.in-Some.index None (Some (Waiting c.in-Some-Waiting.wait)) ∙ set_same c.self.inside.sessions.slots c.in-Some.index (Some (Waiting c.in-Some-Waiting.wait)) there (first_at c.self.inside c.self.invariant c.args.sid c.in-Some.index at).within) ∙ c.self.view_is, refl)
