use Rattle.sg_cache.proofs.SameJoin.{any_same}
use Rattle.sg_ledger.proofs.slots.has.Goals as goal

pub returns : goal.returns
returns c = rw c.contains.ensures (any_same c.args.joins.now.keys c.args.join.now)
