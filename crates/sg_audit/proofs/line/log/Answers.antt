use Rattle.std.proofs.Common.{◌∙◌, ap}
use Rattle.std.specs.Prelude.{Some, option_map}
use Rattle.sg_base.specs.Words.{name}
use Rattle.sg_sched.specs.Format.Reading.{word}
use Rattle.sg_model.specs.Names.{Name}
use Rattle.sg_audit.specs.LineContents.{LogHeadLine, numbered}
use Rattle.sg_audit.specs.Reading.{log_form}
use Rattle.sg_audit.proofs.LastName.{said}
use Rattle.sg_audit.proofs.line.log.Goals as goal

pub returns-in-Some-clause-statement : goal.returns-in-Some-clause-statement
unfolding log_form
returns-in-Some-clause-statement c =
    let line = λ (n : Name). LogHeadLine (numbered c.args.graph.now.roles n) in
    ap (λ r. Some (LogHeadLine r)) c.role_named.ensures.number ∙ ap (option_map line) c.in-Some.ensures ∙ said line (word name c.args.words.now)

pub returns-in-None-clause-statement : goal.returns-in-None-clause-statement
unfolding log_form
returns-in-None-clause-statement c =
    let line = λ (n : Name). LogHeadLine (numbered c.args.graph.now.roles n) in
    ap (option_map line) c.in-None.ensures ∙ said line (word name c.args.words.now)
