use Rattle.std.proofs.Common.{sym, ap, ◌∙◌}
use Rattle.sg_protocol.specs.Calls.{Deliver}
use Rattle.sg_protocol.specs.Named.{graph_of_call}
use Rattle.sg_protocol.specs.Past.{node_of}
use Rattle.sg_protocol.specs.Run.{frame_in}
use Rattle.sg_protocol.specs.Texts.{real}
use Rattle.sg_node.specs.Answers.{graph_named}
use Rattle.sg_report.specs.Reported.{reported_answer}
use Rattle.sg_report.proofs.Answered.{delivery_is_quiet}
use Rattle.sg_play.proofs.Called.{results_quiet}
use Rattle.sg_play.proofs.ask.ask_deliver.Goals as goal

pub returns-in-Ok-clause-is_asked : goal.returns-in-Ok-clause-is_asked
returns-in-Ok-clause-is_asked c = λ number past represents.
    let call = Deliver c.args.bytes.now in
    let is = c.in-Ok.ensures.answer past represents in
    results_quiet number c.args.node.now c.receive.new.self past call c.of_delivery.result c.facts_of_bytes.ensures (c.of_delivery.ensures.reported number ∙ ap (reported_answer number) (sym is)) (delivery_is_quiet c.in-Ok.answer ∙ ap frame_in (sym is))
    (c.of_delivery.ensures.graph ∙ c.in-Ok.ensures.graph past represents ∙ ap (λ a. graph_named a (graph_of_call real (node_of past) call)) (sym is)) (c.in-Ok.ensures.state past represents)
