use Rattle.std.proofs.Common.{◌<◌, length, ℕ, reverse}
use Rattle.std.specs.Prelude.{Option, Some, None}
use Rattle.sg_protocol.specs.Graph.{shape}
use Rattle.sg_reach.specs.WalkEnd.{IsFound, found_at}
use Rattle.sg_reach.specs.Reaches.{LeadsPast}
use Rattle.sg_reach.specs.declared.search.WalkEnd.{WalkEnd}
use Rattle.sg_reach.proofs.reach.Reach.walk_to.Given as goal

-- the edges of the walk to a node that was found
abbrev pub edges_of : Option WalkEnd → ℕ
edges_of None = 0
edges_of (Some f) = f.edges

abbrev pub invariant-loop-at : goal.invariant-loop-at
invariant-loop-at l = record {
  there : l.at < length (shape l.self.graph).roles;
  found : IsFound l.found l.at;
  walk : LeadsPast (shape l.self.graph) l.at l.self.past l.fn.node (reverse l.walk.items);
}

abbrev pub decreases-loop-at : goal.decreases-loop-at
decreases-loop-at l = edges_of (found_at l.found l.at)
