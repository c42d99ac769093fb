use Rattle.std.proofs.lemmas.Map.Made.{AllPairs-from_IsDistinct}
use Rattle.sg_cache.proofs.SameJoin.{same-Decides}
use Rattle.sg_ledger.proofs.ledger.Ledger.joins.Goals as goal

pub returns-clause-differ : goal.returns-clause-differ
returns-clause-differ c = rw c.as_slice.ensures.keys (AllPairs-from_IsDistinct same-Decides c.self.inside.joins.keys c.as_slice.ensures.unique)
