use Rattle.std.proofs.Common.{◌≡◌, IfOk, sym, ap, ◌∙◌, subst}
use Rattle.sg_protocol.specs.Acting.{answer}
use Rattle.sg_protocol.specs.Calls.{Deliver}
use Rattle.sg_protocol.specs.Past.{node_of}
use Rattle.sg_protocol.specs.Reading.{read}
use Rattle.sg_protocol.specs.Run.{frame_in}
use Rattle.sg_protocol.specs.Texts.{real}
use Rattle.sg_protocol.specs.Named.{graph_of_call}
use Rattle.sg_node.specs.Answers.{answer_of_delivery, graph_named, graph_of_delivery}
use Rattle.sg_node.specs.Receipts.{Receipt, IsReceiptAt}
use Rattle.sg_report.specs.Outcome.{graph_in, outcome_of}
use Rattle.sg_report.specs.Reported.{reported_answer}
use Rattle.sg_report.specs.declared.outcome.Outcome.TheVariants.{Received, NotDelivered}
use Rattle.sg_world.specs.RecordModel.{StepResult}
use Rattle.sg_world.proofs.Called.{results_quiet}
use Rattle.sg_world.proofs.call.deliver.Goals as goal

pub returns-in-Ok-clause-is_result : goal.returns-in-Ok-clause-is_result
returns-in-Ok-clause-is_result c = λ number past represents.
    let call = Deliver c.args.bytes.now in
    let is = subst (λ r. answer real (node_of past) call ≡ answer_of_delivery r) c.in-Ok.is (c.in_ok-receipt.ensures.answer past represents) in
    let graph = subst (λ r. graph_of_delivery r ≡ graph_named (answer_of_delivery r) (graph_of_call real (node_of past) call)) c.in-Ok.is (c.in_ok-receipt.ensures.graph past represents) in
    results_quiet number c.args.node.now c.receive.new.self past call (Received c.take_cast.new.self) c.take_cast.result c.receive.new.notes _ _ (c.step_result.view_is ∙ c.requires.blank)
    (c.set_outcome.ensures ∙ ap (λ (z : StepResult). record z { outcome = Received c.take_cast.new.self }) c.set_cast.ensures) c.facts_of_bytes.ensures
    (ap (λ (r : Receipt). outcome_of (Received r)) c.take_cast.ensures.rest ∙ ap (reported_answer number) (sym is)) (ap frame_in (sym is))
    (ap (λ (r : Receipt). graph_in (Received r)) c.take_cast.ensures.rest ∙ graph ∙ ap (λ a. graph_named a (graph_of_call real (node_of past) call)) (sym is))
    (λ bs f calls reads.
    let same : c.args.bytes.now ≡ bs = cc in
    let shows = subst (λ r. IfOk r (λ x. IsReceiptAt (node_of past) f x × (x.cast ≡ f.join))) c.in-Ok.is (c.in_ok-receipt.ensures.shown past f represents (ap read same ∙ reads)) in
    (subst (IsReceiptAt (node_of past) f) (sym c.take_cast.ensures.rest) (record { session = shows.0.session; is_session = shows.0.is_session; view = shows.0.view }), c.take_cast.ensures.cast ∙ shows.1))
    (c.in_ok-receipt.ensures.notes past represents) (c.in_ok-receipt.ensures.state past represents)

pub returns-in-Err-clause-is_result : goal.returns-in-Err-clause-is_result
returns-in-Err-clause-is_result c = λ number past represents.
    let call = Deliver c.args.bytes.now in
    let is = subst (λ r. answer real (node_of past) call ≡ answer_of_delivery r) c.in-Err.is (c.in_ok-receipt.ensures.answer past represents) in
    let graph = subst (λ r. graph_of_delivery r ≡ graph_named (answer_of_delivery r) (graph_of_call real (node_of past) call)) c.in-Err.is (c.in_ok-receipt.ensures.graph past represents) in
    results_quiet number c.args.node.now c.receive.new.self past call (NotDelivered c.in-Err.refusal) c.step_result.inside.cast c.receive.new.notes _ _ (c.step_result.view_is ∙ c.requires.blank) c.set_outcome-in-Err.ensures c.facts_of_bytes.ensures
    (ap (reported_answer number) (sym is)) (ap frame_in (sym is)) (graph ∙ ap (λ a. graph_named a (graph_of_call real (node_of past) call)) (sym is)) (λ bs f calls reads. tt)
    (c.in_ok-receipt.ensures.notes past represents) (c.in_ok-receipt.ensures.state past represents)
