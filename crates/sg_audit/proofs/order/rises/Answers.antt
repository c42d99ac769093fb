use Rattle.std.proofs.Common.{◌∙◌, sym}
use Rattle.sg_audit.proofs.Orders.{rise_on, rise_off}
use Rattle.sg_audit.proofs.order.rises.Goals as goal

pub loop-pair-preserved : goal.loop-pair-preserved
loop-pair-preserved g c = c.loop-pair.invariant ∙ rise_on c.args.pairs.now c.loop-pair.pair-index _ c.pair-item.result c.loop-pair-test.true c.pair-item.is (sym c.is_behind.ensures ∙ c.if-is_behind.false)

pub returns-then-is_behind : goal.returns-then-is_behind
returns-then-is_behind g c = sym (c.loop-pair.invariant ∙ rise_off c.args.pairs.now c.loop-pair.pair-index _ c.pair-item.result c.loop-pair-test.true c.pair-item.is (sym c.is_behind.ensures ∙ c.if-is_behind.true))
