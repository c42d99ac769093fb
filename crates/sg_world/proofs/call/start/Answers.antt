use Rattle.std.proofs.Common.{◌≡◌, sym, ap, ◌∙◌}
use Rattle.sg_protocol.specs.Acting.{answer}
use Rattle.sg_protocol.specs.Calls.{Start}
use Rattle.sg_protocol.specs.Past.{node_of}
use Rattle.sg_protocol.specs.Run.{frame_in}
use Rattle.sg_protocol.specs.Texts.{real}
use Rattle.sg_protocol.specs.Named.{graph_of_call}
use Rattle.sg_node.specs.Answers.{answer_of_start, graph_named}
use Rattle.sg_report.specs.Reported.{reported_answer}
use Rattle.sg_report.proofs.Answered.{start_is_quiet}
use Rattle.sg_world.proofs.Called.{results_quiet}
use Rattle.sg_world.proofs.call.start.Goals as goal

pub returns-clause-is_result : goal.returns-clause-is_result
returns-clause-is_result c = λ number past represents.
    let is : answer real (node_of past) (Start c.args.cast) ≡ answer_of_start c.in_ok-answer.answer = c.in_ok-answer.ensures.answer past represents in
    results_quiet number c.args.node.now c.begin.new.self past (Start c.args.cast) c.of_start.result c.step_result.inside.cast c.begin.new.notes _ _ (c.step_result.view_is ∙ c.requires.blank) c.set_outcome.ensures c.facts_of_cast.ensures
    (c.of_start.ensures.reported number ∙ ap (reported_answer number) (sym is))
    (start_is_quiet c.in_ok-answer.answer ∙ ap frame_in (sym is))
    (c.of_start.ensures.graph ∙ c.in_ok-answer.ensures.graph past represents ∙ ap (λ a. graph_named a (graph_of_call real (node_of past) (Start c.args.cast))) (sym is))
    (λ bs f call reads. absurd (cc))
    (c.in_ok-answer.ensures.notes past represents)
    (c.in_ok-answer.ensures.state past represents)
