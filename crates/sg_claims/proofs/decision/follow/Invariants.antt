use Rattle.std.proofs.Common.{◌≡◌, ◌<◌, length}
use Rattle.sg_protocol.specs.Graph.{shape}
use Rattle.sg_claims.specs.Search.{IsSearch, entry_at}
use Rattle.sg_graph.proofs.Left.{IsLeft}
use Rattle.sg_claims.proofs.decision.follow.Given as goal

abbrev pub invariant-loop-label : goal.invariant-loop-label
invariant-loop-label l = record {
  search : IsSearch (shape l.graph) l.claim l.at (IsLeft l.label-items l.label-index) l.search.entries.items l.search.seen;
  there : l.at < length l.search.entries.items;
  here : entry_at l.search.entries.items l.at ≡ l.entry;
}
