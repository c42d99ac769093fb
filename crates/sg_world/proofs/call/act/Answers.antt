use Rattle.std.proofs.Common.{◌≡◌, ℕ, Some, sym, ◌∙◌, ap, subst}
use Rattle.std.proofs.lemmas.List.{length-map}
use Rattle.sg_base.specs.declared.value.Value.{Value as Held}
use Rattle.sg_base.specs.Model.{value_of}
use Rattle.sg_protocol.specs.Acting.{answer}
use Rattle.sg_protocol.specs.Calls as Protocol
use Rattle.sg_protocol.specs.Calls.{Act}
use Rattle.sg_protocol.specs.Past.{node_of}
use Rattle.sg_protocol.specs.Run.{frame_in}
use Rattle.sg_protocol.specs.Texts.{real}
use Rattle.sg_protocol.specs.Named.{graph_of_call}
use Rattle.sg_node.specs.Answers.{IsAnswerOfAct, graph_named, graph_of_act}
use Rattle.sg_report.specs.Reported.{reported_answer}
use Rattle.sg_report.specs.declared.outcome.Outcome.TheVariants.{NotActed}
use Rattle.sg_walk.specs.Model.{event_of, values_of}
use Rattle.sg_world.specs.RecordModel.{StepResult}
use Rattle.sg_world.proofs.Called.{results_quiet, results_sent}
use Rattle.sg_world.proofs.call.act.Goals as goal

pub returns-in-Ok-clause-is_result : goal.returns-in-Ok-clause-is_result
returns-in-Ok-clause-is_result c = λ past represents.
    let call = Act c.args.sid c.args.label (values_of c.args.values.now) c.args.confounders.now in
    let h = subst (IsAnswerOfAct (answer real (node_of past) call)) c.in-Ok.is (c.in_ok-sent.ensures.answer past represents) in
    let graph = subst (λ r. graph_of_act r ≡ graph_named (answer real (node_of past) call) (graph_of_call real (node_of past) call)) c.in-Ok.is (c.in_ok-sent.ensures.graph past represents) in
    results_sent c.args.frame c.args.node.now c.send.new.self past c.args.sid c.args.label (values_of c.args.values.now) c.args.confounders.now c.in-Ok.sent c.release-to.result.0 c.from_vec.result c.step_result.inside.cast c.send.new.notes _ _ (c.step_result.view_is ∙ c.requires.blank)
    (c.set_frame.ensures ∙ ap (λ (z : StepResult). record z { frame = Some c.from_vec.result }) c.set_outcome.ensures)
    h.0 (h.1 ∙ ap (λ t. Protocol.Sends (event_of c.in-Ok.sent.event) t h.0) (sym c.release-to.ensures.to)) (c.from_vec.ensures ∙ c.tight.ensures ∙ c.release-to.ensures.bytes ∙ h.2)
    (record { each = c.requires.values; count = c.requires.count ∙ sym (length-map c.args.values.now (λ (w : ℕ × Held). (w.0, value_of w.1))); bytes = c.requires.bytes })
    graph (c.in_ok-sent.ensures.notes past represents) (c.in_ok-sent.ensures.state past represents)

pub returns-in-Err-clause-is_result : goal.returns-in-Err-clause-is_result
returns-in-Err-clause-is_result c = λ past represents.
    let call = Act c.args.sid c.args.label (values_of c.args.values.now) c.args.confounders.now in
    let is = subst (IsAnswerOfAct (answer real (node_of past) call)) c.in-Err.is (c.in_ok-sent.ensures.answer past represents) in
    let graph = subst (λ r. graph_of_act r ≡ graph_named (answer real (node_of past) call) (graph_of_call real (node_of past) call)) c.in-Err.is (c.in_ok-sent.ensures.graph past represents) in
    results_quiet c.args.frame c.args.node.now c.send.new.self past call (NotActed c.in-Err.refusal) c.step_result.inside.cast c.send.new.notes _ _ (c.step_result.view_is ∙ c.requires.blank) c.set_outcome-in-Err.ensures
    (record { each = c.requires.values; count = c.requires.count ∙ sym (length-map c.args.values.now (λ (w : ℕ × Held). (w.0, value_of w.1))); bytes = c.requires.bytes })
    (ap (reported_answer c.args.frame) (sym is)) (ap frame_in (sym is)) graph (λ bs f calls reads. absurd (cc))
    (c.in_ok-sent.ensures.notes past represents) (c.in_ok-sent.ensures.state past represents)
