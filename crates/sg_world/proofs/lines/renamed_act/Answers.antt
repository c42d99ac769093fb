use Rattle.std.proofs.Common.{sym, ◌∙◌, ap}
use Rattle.sg_report.specs.declared.outcome.Outcome.TheVariants.{NotActed}
use Rattle.sg_world.proofs.WrittenLines.{named_nowhere, no_bad_values, not_refused, not_renamed, renamed_to}
use Rattle.sg_world.proofs.lines.renamed_act.Goals as goal

pub returns-then-has : goal.returns-then-has
returns-then-has c = not_renamed c.args.graphs.now (NotActed c.args.refusal.now) c.in-BadValues.var c.in-BadValues.graph (ap NotActed c.in-BadValues.is) (sym c.has.ensures ∙ c.if-has.true)

pub returns-in-Some : goal.returns-in-Some
returns-in-Some c = renamed_to c.args.graphs.now (NotActed c.args.refusal.now) c.in-BadValues.var c.in-BadValues.graph (ap NotActed c.in-BadValues.is) c.in-Some.graph (sym c.has.ensures ∙ c.if-has.false) (sym c.in-Some.ensures)

pub returns-in-None : goal.returns-in-None
returns-in-None c = named_nowhere c.args.graphs.now (NotActed c.args.refusal.now) c.in-BadValues.var c.in-BadValues.graph (ap NotActed c.in-BadValues.is) (sym c.has.ensures ∙ c.if-has.false) (sym c.in-None.ensures)

pub returns-in_default : goal.returns-in_default
returns-in_default c = not_refused c.args.graphs.now (NotActed c.args.refusal.now) (no_bad_values c.args.refusal.now c.in_default.not-BadValues)
