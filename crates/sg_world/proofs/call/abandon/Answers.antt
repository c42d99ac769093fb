use Rattle.std.proofs.Common.{sym, ap}
use Rattle.sg_protocol.specs.Calls.{Abandon}
use Rattle.sg_protocol.specs.Past.{node_of}
use Rattle.sg_protocol.specs.Run.{frame_in}
use Rattle.sg_protocol.specs.Texts.{real}
use Rattle.sg_protocol.specs.Named.{graph_of_call}
use Rattle.sg_node.specs.Answers.{graph_named}
use Rattle.sg_node.proofs.Acts.{with_none}
use Rattle.sg_report.specs.Reported.{reported_answer}
use Rattle.sg_report.specs.declared.outcome.Outcome.TheVariants.{Abandoned, NotAbandoned}
use Rattle.sg_world.proofs.Called.{results_quiet}
use Rattle.sg_world.proofs.call.abandon.Goals as goal

pub returns-in-Ok : goal.returns-in-Ok
returns-in-Ok c = λ number past represents.
    let is = c.in-Ok.ensures.answer past represents in
    results_quiet number c.args.node.now c.abandon.new.self past (Abandon c.args.sid) Abandoned c.args.step_result.now.cast c.args.step_result.now.notes _ _ c.requires c.set_outcome.ensures tt
    (ap (reported_answer number) (sym is)) (ap frame_in (sym is)) (ap (λ a. graph_named a (graph_of_call real (node_of past) (Abandon c.args.sid))) (sym is)) (λ bs f call reads. absurd (cc)) (with_none c.args.step_result.now.notes) (c.in-Ok.ensures.state past represents)

pub returns-in-Err : goal.returns-in-Err
returns-in-Err c = λ number past represents.
    let is = c.in-Err.ensures.answer past represents in
    results_quiet number c.args.node.now c.abandon.new.self past (Abandon c.args.sid) NotAbandoned c.args.step_result.now.cast c.args.step_result.now.notes _ _ c.requires c.set_outcome-in-Err.ensures tt
    (ap (reported_answer number) (sym is)) (ap frame_in (sym is)) (ap (λ a. graph_named a (graph_of_call real (node_of past) (Abandon c.args.sid))) (sym is)) (λ bs f call reads. absurd (cc)) (with_none c.args.step_result.now.notes) (c.in-Err.ensures.state past represents)
