use Rattle.sg_world.proofs.Called.{confounders_more}
use Rattle.sg_world.proofs.call.confounders_of.Goals as goal

pub loop-value-preserved : goal.loop-value-preserved
loop-value-preserved c = confounders_more c.args.step c.args.values.now c.loop-value.value-index c.value-item.result c.loop-value.all.items c.push.new.self.items c.confounder.result c.loop-value.invariant c.loop-value-test.true c.value-item.is c.confounder.ensures c.in_ok-push.ensures.items
