use Rattle.sg_setting.proofs.FreshPeers.{fresh_at, ring_more}
use Rattle.sg_setting.proofs.pairs.keyring.Goals as goal

pub add_shared-requires : goal.add_shared-requires
add_shared-requires c = fresh_at c.args.me c.args.keys.now c.loop-pair.pair-index c.pair-item.result c.loop-pair.ring c.loop-pair.invariant c.requires c.loop-pair-test.true c.pair-item.is

pub loop-pair-preserved : goal.loop-pair-preserved
loop-pair-preserved c = ring_more c.args.me c.args.keys.now c.loop-pair.pair-index c.pair-item.result c.loop-pair.ring c.add_shared.new.ring c.loop-pair.invariant c.loop-pair-test.true c.pair-item.is c.in_ok-add_shared.ensures
