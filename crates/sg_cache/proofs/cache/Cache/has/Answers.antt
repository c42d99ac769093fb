use Rattle.sg_cache.proofs.SameJoin.{any_same}
use Rattle.sg_cache.proofs.cache.Cache.has.Goals as goal

pub returns : goal.returns
returns c = rw (c.contains.ensures, ← c.self.view_is) (any_same c.self.inside.joins.keys (c.args.sid.now, c.args.role))
