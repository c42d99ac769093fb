-- How a closure is kept.
use Rattle.sg_reach.specs.Reaches.{Closure}
use Rattle.sg_reach.specs.declared.reach.Reach.TheInside.{Inside as Reach}

-- the closure that is kept
abbrev pub closure_of : Reach → Closure
closure_of r = record { graph = r.graph.now; from = r.search.from; past = r.search.past }
