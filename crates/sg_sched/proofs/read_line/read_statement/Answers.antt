use Rattle.std.proofs.Common.{◌∙◌, ap}
use Rattle.std.proofs.lemmas.Result.{IfOk-weaker}
use Rattle.sg_sched.specs.Format.Form.{form}
use Rattle.sg_sched.specs.Text.{words}
use Rattle.sg_sched.proofs.LineLaws.{says}
use Rattle.sg_sched.proofs.read_line.read_statement.Goals as goal

pub returns-clause-says : goal.returns-clause-says
returns-clause-says c =
    IfOk-weaker c.read_line.result _ _ (λ o h. says c.args.line.now o (h ∙ ap form (c.new.ensures ∙ ap words c.line_content.ensures))) c.read_line.ensures.form
