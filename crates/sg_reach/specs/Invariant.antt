-- What a closure keeps true.
use Rattle.std.specs.Prelude.{◌<◌, ◌≤◌, length}
use Rattle.sg_protocol.specs.Graph.{IsGraph, shape}
use Rattle.sg_reach.specs.WalkEnd.{IsSearch}
use Rattle.sg_reach.specs.declared.reach.Reach.TheInside.{Inside as Reach}

-- a search that has no node left to follow
pub record HoldsReach (r : Reach) : Type 0 where
  pub graph : IsGraph r.graph.now
  pub search : IsSearch (shape r.graph.now) (λ _. ⊥) r.search
  pub followed : r.search.count ≤ r.search.at
  pub there : r.search.from < length r.graph.now.nodes
