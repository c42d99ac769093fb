use Rattle.std.proofs.Common.{below_more}
use Rattle.sg_check.specs.Shaped.{HasNode}
use Rattle.sg_check.proofs.shape.idle_role.Goals as goal

pub loop-number-preserved : goal.loop-number-preserved
loop-number-preserved c = below_more (HasNode c.args.graph.now) c.loop-number.number c.loop-number.invariant (c.has_node.ensures.0 c.if-not-has_node.false)
