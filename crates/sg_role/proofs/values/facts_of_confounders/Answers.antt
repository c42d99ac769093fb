use Rattle.std.proofs.Common.{[]}
use Rattle.sg_model.specs.Bytes.{AreBytes}
use Rattle.sg_role.proofs.ValueLaws.{all_more}
use Rattle.sg_role.proofs.values.facts_of_confounders.Goals as goal

pub loop-at-preserved : goal.loop-at-preserved
loop-at-preserved c = all_more (AreBytes 16) c.args.confounders.now c.loop-at.at [] c.loop-at-test.true c.loop-at.invariant (c.told-confounders c.loop-at.at c.loop-at-test.true, c.facts_of_bytes.ensures)
