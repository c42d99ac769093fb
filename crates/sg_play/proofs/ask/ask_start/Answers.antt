use Rattle.std.proofs.Common.{sym, ap, ◌∙◌}
use Rattle.sg_protocol.specs.Calls.{Start}
use Rattle.sg_protocol.specs.Named.{graph_of_call}
use Rattle.sg_protocol.specs.Past.{node_of}
use Rattle.sg_protocol.specs.Run.{frame_in}
use Rattle.sg_protocol.specs.Texts.{real}
use Rattle.sg_node.specs.Answers.{graph_named}
use Rattle.sg_report.specs.Reported.{reported_answer}
use Rattle.sg_report.proofs.Answered.{start_is_quiet}
use Rattle.sg_play.proofs.Called.{results_quiet}
use Rattle.sg_play.proofs.ask.ask_start.Goals as goal

pub returns-in-Ok-clause-is_asked : goal.returns-in-Ok-clause-is_asked
returns-in-Ok-clause-is_asked c = λ number past represents.
    let call = Start c.args.cast in
    let is = c.in-Ok.ensures.answer past represents in
    results_quiet number c.args.node.now c.begin.new.self past call c.of_start.result c.facts_of_cast.ensures (c.of_start.ensures.reported number ∙ ap (reported_answer number) (sym is)) (start_is_quiet c.in-Ok.answer ∙ ap frame_in (sym is))
    (c.of_start.ensures.graph ∙ c.in-Ok.ensures.graph past represents ∙ ap (λ a. graph_named a (graph_of_call real (node_of past) call)) (sym is)) (c.in-Ok.ensures.state past represents)
