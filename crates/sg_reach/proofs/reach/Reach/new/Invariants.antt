use Rattle.std.proofs.Common.{◌≡◌, ◌-◌}
use Rattle.sg_protocol.specs.Graph.{shape}
use Rattle.sg_reach.specs.WalkEnd.{IsSearch}
use Rattle.sg_reach.proofs.reach.Reach.new.Given as goal

abbrev pub invariant-loop-search : goal.invariant-loop-search
invariant-loop-search l = record {
  search : IsSearch (shape l.graph) (λ _. ⊥) l.search;
  from : l.search.from ≡ l.fn.from;
  past : l.search.past ≡ l.fn.past;
}

abbrev pub decreases-loop-search : goal.decreases-loop-search
decreases-loop-search l = 256 - l.search.at
