use Rattle.sg_role.proofs.ValueLaws.{all_mapped}
use Rattle.sg_role.proofs.values.facts_of_each.Goals as goal

pub loop-at-preserved : goal.loop-at-preserved
loop-at-preserved c = all_mapped _ _ c.args.values.now c.loop-at.at c.index-values-at.result c.loop-at-test.true c.index-values-at.is c.loop-at.invariant (c.facts_of_var.ensures, c.facts_of_value.ensures)
