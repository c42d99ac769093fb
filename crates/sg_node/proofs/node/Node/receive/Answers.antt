use Rattle.std.proofs.Common.{◌≡◌, Ok, refl, sym, ◌∙◌, ap, subst}
use Rattle.std.specs.Prelude.{IfOk, OnOk}
use Rattle.std.specs.List.{AllByRecursion}
use Rattle.sg_frame.specs.Reads.{Refuses}
use Rattle.sg_protocol.specs.Acting.{answer}
use Rattle.sg_protocol.specs.Calls.{Deliver, Malformed}
use Rattle.sg_protocol.specs.Frame.{Frame}
use Rattle.sg_protocol.specs.IsSchedule.{IsProgram}
use Rattle.sg_protocol.specs.Named.{graph_of_call}
use Rattle.sg_protocol.specs.NodeStates.{IsReachableLive, NodeState}
use Rattle.sg_protocol.specs.Notes.{notes as noted_of, notes_of_read}
use Rattle.sg_protocol.specs.Past.{node_of}
use Rattle.sg_protocol.specs.Reading.{read}
use Rattle.sg_protocol.specs.Texts.{real}
use Rattle.sg_protocol.specs.Verdict.{verdict_on}
use Rattle.sg_role.specs.Sending.{with_notes}
use Rattle.sg_receipt.specs.Answers.{answer_of_delivery, graph_named, graph_of_delivery}
use Rattle.sg_node.specs.Answers.{GoesOn}
use Rattle.sg_receipt.specs.Receipts.{IsReceiptAt}
use Rattle.sg_node.proofs.Acts.{with_none}
use Rattle.sg_node.proofs.Going.{all_reachable}
use Rattle.sg_node.proofs.Memory.{not_read}
use Rattle.sg_node.proofs.Taking.{stays_by}
use Rattle.sg_node.proofs.node.Node.receive.Goals as goal

pub returns-in-Err-Malformed-clause-answer : goal.returns-in-Err-Malformed-clause-answer
returns-in-Err-Malformed-clause-answer c = λ past st. ap (verdict_on real (node_of past)) (subst (Refuses (read c.args.bytes.now)) c.in-Err-Malformed.field-0-is c.in-Err-Malformed.ensures.exact)

pub returns-in-Err-Malformed-clause-state : goal.returns-in-Err-Malformed-clause-state
returns-in-Err-Malformed-clause-state c = λ past st. stays_by c.args.self.now c.args.self.now past c.args.bytes.now (subst (λ (z : NodeState). AllByRecursion (IsProgram real) z.programs) c.self.view_is c.self.invariant.programs) (subst (λ (z : NodeState). AllByRecursion (IsReachableLive real z.programs) z.live) c.self.view_is (all_reachable c.self.inside c.self.invariant)) c.facts_of_bytes.ensures st (Malformed c.in-Err-Malformed.at) (ap (verdict_on real (node_of past)) (subst (Refuses (read c.args.bytes.now)) c.in-Err-Malformed.field-0-is c.in-Err-Malformed.ensures.exact)) refl

pub returns-in-Err-Malformed-clause-notes : goal.returns-in-Err-Malformed-clause-notes
returns-in-Err-Malformed-clause-notes c = λ past st. with_none c.args.notes.now ∙ ap (with_notes c.args.notes.now) (sym (ap (notes_of_read real (node_of past)) (subst (Refuses (read c.args.bytes.now)) c.in-Err-Malformed.field-0-is c.in-Err-Malformed.ensures.exact)))

pub returns-in-Ok-clause-answer : goal.returns-in-Ok-clause-answer
returns-in-Ok-clause-answer c = λ past st. subst (λ z. IfOk c.receive_frame.result (λ r. answer real (node_of past) (Deliver z) ≡ answer_of_delivery r)) c.in-Ok.ensures.bytes (c.receive_frame.ensures.answer past st)

pub returns-in-Ok-clause-graph : goal.returns-in-Ok-clause-graph
returns-in-Ok-clause-graph c = λ past st.
    subst (λ z. IfOk c.receive_frame.result (λ r. graph_of_delivery r ≡ graph_named (answer_of_delivery r) (graph_of_call real (node_of past) (Deliver z)))) c.in-Ok.ensures.bytes (c.receive_frame.ensures.graph past st)

pub returns-in-Ok-clause-shown : goal.returns-in-Ok-clause-shown
returns-in-Ok-clause-shown c = λ past f st reads.
    let two : Ok c.in-Ok.read.frame ≡ Ok f = sym c.in-Ok.ensures.exact ∙ reads in
    let same : c.in-Ok.read.frame ≡ f = cc in
    subst (λ (z : Frame). IfOk c.receive_frame.result (λ r. IfOk r (λ x. IsReceiptAt (node_of past) z x × (x.cast ≡ z.join)))) same (c.receive_frame.ensures.shown past st)

pub returns-in-Ok-clause-state : goal.returns-in-Ok-clause-state
returns-in-Ok-clause-state c = λ past st. subst (λ z. OnOk c.receive_frame.result (GoesOn c.args.self.now c.receive_frame.new.self (Deliver z) past)) c.in-Ok.ensures.bytes (c.receive_frame.ensures.state past st)

pub returns-in-Ok-clause-notes : goal.returns-in-Ok-clause-notes
returns-in-Ok-clause-notes c = λ past st. subst (λ z. OnOk c.receive_frame.result (c.receive_frame.new.notes ≡ with_notes c.args.notes.now (noted_of real (node_of past) (Deliver z)))) c.in-Ok.ensures.bytes (c.receive_frame.ensures.notes past st)

pub returns-in-Ok-clause-early : goal.returns-in-Ok-clause-early
returns-in-Ok-clause-early c = λ h. absurd (not_read c.args.bytes.now c.in-Ok.read.frame c.in-Ok.ensures.exact h)
