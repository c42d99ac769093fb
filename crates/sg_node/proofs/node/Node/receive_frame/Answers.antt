use Rattle.std.proofs.Common.{◌≡◌, true, sym, ap, subst}
use Rattle.std.specs.Prelude.{option_map, option_and_then, IfOk, OnOk, OnErr}
use Rattle.std.specs.List.{AllByRecursion}
use Rattle.std.specs.Result.{result_ok}
use Rattle.sg_model.specs.Bytes.{IsBytes}
use Rattle.sg_protocol.specs.Calls.{Deliver}
use Rattle.sg_protocol.specs.IsSchedule.{IsProgram}
use Rattle.sg_protocol.specs.Keyring.{Program}
use Rattle.sg_protocol.specs.Named.{graph_of_call}
use Rattle.sg_protocol.specs.NodeStates.{IsReachableLive, NodeState}
use Rattle.sg_protocol.specs.Notes.{notes_of_read, session_of_frame}
use Rattle.sg_protocol.specs.Past.{node_of}
use Rattle.sg_protocol.specs.Session.{Session}
use Rattle.sg_protocol.specs.Texts.{real}
use Rattle.sg_protocol.specs.Verdict.{verdict_on}
use Rattle.sg_role.specs.Sending.{with_notes}
use Rattle.sg_receipt.specs.Answers.{answer_of_delivery}
use Rattle.sg_node.specs.Answers.{may_take_memory}
use Rattle.sg_node.proofs.Going.{all_reachable}
use Rattle.sg_node.proofs.Receipts.{same_graph}
use Rattle.sg_node.proofs.Taking.{goes_by}
use Rattle.sg_node.proofs.node.Node.receive_frame.Goals as goal

pub returns-clause-answer : goal.returns-clause-answer
returns-clause-answer c = λ past st. subst (λ z. IfOk c.take_frame.result (λ r. verdict_on real (node_of past) z ≡ answer_of_delivery r)) (sym c.bytes.ensures.reading.read) (c.take_frame.ensures.takes.answer (node_of past) st)

pub returns-clause-graph : goal.returns-clause-graph
returns-clause-graph c = λ past st.
    same_graph c.take_frame.result (option_map (λ (x : Program × Session). x.0.graph) (session_of_frame (node_of past) c.args.read.now.frame)) (graph_of_call real (node_of past) (Deliver c.args.read.now.bytes)) (c.take_frame.ensures.takes.graph (node_of past) st)
    (ap (λ r. option_map (λ (x : Program × Session). x.0.graph) (option_and_then (session_of_frame (node_of past)) (result_ok r))) (sym c.bytes.ensures.reading.read))

pub returns-clause-shown : goal.returns-clause-shown
returns-clause-shown c = λ past st. c.take_frame.ensures.takes.shown (node_of past) st

pub returns-clause-state : goal.returns-clause-state
returns-clause-state c = λ past st.
    goes_by c.args.self.now c.take_frame.new.self past c.args.read.now.bytes (subst (λ (z : NodeState). AllByRecursion (IsProgram real) z.programs) c.self.view_is c.self.invariant.programs)
    (subst (λ (z : NodeState). AllByRecursion (IsReachableLive real z.programs) z.live) c.self.view_is (all_reachable c.self.inside c.self.invariant)) (subst IsBytes c.bytes.ensures.bytes c.facts_of_bytes.ensures) st c.args.read.now.frame c.bytes.ensures.reading.read
    c.take_frame.result (c.take_frame.ensures.takes.answer (node_of past) st) c.take_frame.ensures.takes.taken c.take_frame.ensures.takes.refused

pub returns-clause-notes : goal.returns-clause-notes
returns-clause-notes c = λ past st. subst (λ z. OnOk c.take_frame.result (c.take_frame.new.notes ≡ with_notes c.args.notes.now (notes_of_read real (node_of past) z))) (sym c.bytes.ensures.reading.read) (c.take_frame.ensures.takes.notes (node_of past) st)

pub returns-clause-refused : goal.returns-clause-refused
returns-clause-refused c = c.take_frame.ensures.takes.refused

pub returns-clause-memory : goal.returns-clause-memory
returns-clause-memory c = c.take_frame.ensures.takes.memory

pub returns-clause-early : goal.returns-clause-early
returns-clause-early c = λ past st. subst (λ z. OnErr c.take_frame.result (may_take_memory (verdict_on real (node_of past) z) ≡ true)) (sym c.bytes.ensures.reading.read) (c.take_frame.ensures.early (node_of past) st)
