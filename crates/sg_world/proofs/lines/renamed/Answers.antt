use Rattle.std.proofs.Common.{sym, subst}
use Rattle.sg_report.specs.declared.outcome.Outcome.{Outcome}
use Rattle.sg_world.specs.KeptLines.{IsRenamed}
use Rattle.sg_world.proofs.WrittenLines.{not_an_act, not_refused}
use Rattle.sg_world.proofs.lines.renamed.Goals as goal

pub returns-in-NotActed : goal.returns-in-NotActed
returns-in-NotActed c = subst (λ (o : Outcome). IsRenamed c.args.graphs.now o c.renamed_act.result) (sym c.in-NotActed.is) c.renamed_act.ensures

pub returns-in_default : goal.returns-in_default
returns-in_default c = not_refused c.args.graphs.now c.args.outcome.now (not_an_act c.args.outcome.now c.in_default.not-NotActed)
