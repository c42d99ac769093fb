use Rattle.std.proofs.Common.{sym, ap}
use Rattle.sg_protocol.specs.Calls.{Abandon}
use Rattle.sg_protocol.specs.Named.{graph_of_call}
use Rattle.sg_protocol.specs.Past.{node_of}
use Rattle.sg_protocol.specs.Run.{frame_in}
use Rattle.sg_protocol.specs.Texts.{real}
use Rattle.sg_node.specs.Answers.{graph_named}
use Rattle.sg_report.specs.Reported.{reported_answer}
use Rattle.sg_report.specs.declared.outcome.Outcome.TheVariants.{Abandoned, NotAbandoned}
use Rattle.sg_play.proofs.Called.{results_quiet}
use Rattle.sg_play.proofs.ask.ask_abandon.Goals as goal

pub returns-in-Ok : goal.returns-in-Ok
returns-in-Ok c = λ number past represents.
    let is = c.in-Ok.ensures.answer past represents in
    results_quiet number c.args.node.now c.abandon.new.self past (Abandon c.args.sid) Abandoned tt (ap (reported_answer number) (sym is)) (ap frame_in (sym is)) (ap (λ a. graph_named a (graph_of_call real (node_of past) (Abandon c.args.sid))) (sym is))
    (c.in-Ok.ensures.state past represents)

pub returns-in-Err : goal.returns-in-Err
returns-in-Err c = λ number past represents.
    let is = c.in-Err.ensures.answer past represents in
    results_quiet number c.args.node.now c.abandon.new.self past (Abandon c.args.sid) NotAbandoned tt (ap (reported_answer number) (sym is)) (ap frame_in (sym is)) (ap (λ a. graph_named a (graph_of_call real (node_of past) (Abandon c.args.sid))) (sym is))
    (c.in-Err.ensures.state past represents)
