use Rattle.std.proofs.Common.{refl}
use Rattle.sg_reach.proofs.Searching.{begins}
use Rattle.sg_reach.proofs.search.Search.new.Goals as goal

pub returns-clause-begins : goal.returns-clause-begins
returns-clause-begins c = λ g there. begins g _ _ c.nowhere-found.result (record { edges = 0; last = 0 }) c.from.view_is c.nowhere-found.ensures.size c.nowhere-found.ensures.none refl refl refl refl refl c.requires there
