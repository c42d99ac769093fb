use Rattle.std.proofs.Common.{sym, ap}
use Rattle.sg_protocol.specs.Calls.{Act}
use Rattle.sg_protocol.specs.Run.{frame_in}
use Rattle.sg_report.specs.Reported.{reported_answer}
use Rattle.sg_report.specs.declared.outcome.Outcome.TheVariants.{NotActed}
use Rattle.sg_walk.specs.Model.{values_of}
use Rattle.sg_play.proofs.Called.{results_quiet, results_sent}
use Rattle.sg_play.proofs.ask.ask_numbered.Goals as goal

pub returns-in-Ok-Ok-clause-is_asked : goal.returns-in-Ok-Ok-clause-is_asked
returns-in-Ok-Ok-clause-is_asked c = λ past represents.
    let h = rw c.in-Ok-Ok.field-0-is at (c.in-Ok-Ok.ensures.answer past represents) in
    let graphed = rw c.in-Ok-Ok.field-0-is at (c.in-Ok-Ok.ensures.graph past represents) in
    results_sent c.args.number c.args.node.now c.send.new.self past c.args.sid c.args.label (values_of c.args.values.now) c.args.confounders.now c.in-Ok-Ok.sent c.to-to.result c.in-Ok-Ok.sealed h.0 c.to-to.ensures h.1 h.2
    c.facts_of_values.ensures graphed (c.in-Ok-Ok.ensures.state past represents)

pub returns-in-Ok-Err-clause-is_asked : goal.returns-in-Ok-Err-clause-is_asked
returns-in-Ok-Err-clause-is_asked c = λ past represents.
    let is = rw c.in-Ok-Err.field-0-is at (c.in-Ok-Err.ensures.answer past represents) in
    let graphed = rw c.in-Ok-Err.field-0-is at (c.in-Ok-Err.ensures.graph past represents) in
    results_quiet c.args.number c.args.node.now c.send.new.self past (Act c.args.sid c.args.label (values_of c.args.values.now) c.args.confounders.now) (NotActed c.in-Ok-Err.refusal) c.facts_of_values.ensures
    (ap (reported_answer c.args.number) (sym is)) (ap frame_in (sym is)) graphed (c.in-Ok-Err.ensures.state past represents)
