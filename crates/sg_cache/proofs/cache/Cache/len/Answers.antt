use Rattle.std.proofs.lemmas.Map.Made.{AllPairs-from_IsDistinct}
use Rattle.sg_cache.proofs.SameJoin.{same-Decides}
use Rattle.sg_cache.proofs.cache.Cache.len.Goals as goal

pub returns-clause-different : goal.returns-clause-different
returns-clause-different c = rw (← c.self.view_is) (AllPairs-from_IsDistinct same-Decides c.self.inside.joins.keys c.len.ensures.unique)
