use Rattle.std.proofs.Common.{◌≡◌, ℕ, suc}
use Rattle.std.specs.Prelude.{Some}
use Rattle.sg_protocol.specs.Graph.{shape}
use Rattle.sg_reach.specs.WalkEnd.{IsSearch, edges_to}
use Rattle.sg_graph.proofs.Left.{IsLeft}
use Rattle.sg_reach.proofs.reach.follow.Given as goal

abbrev pub invariant-loop-label : goal.invariant-loop-label
invariant-loop-label l = record {
  search : IsSearch (shape l.graph) (IsLeft l.label-items l.label-index) l.search;
  walk : (k : ℕ) × (l.edges ≡ suc k) × (edges_to l.search.found l.fn.node ≡ Some k);
  from : l.search.from ≡ l.fn.search.from;
  past : l.search.past ≡ l.fn.search.past;
  at : l.search.at ≡ l.fn.search.at;
}
