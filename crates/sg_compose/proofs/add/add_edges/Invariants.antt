use Rattle.std.proofs.Common.{◌≡◌, ◌++◌, map, take}
use Rattle.sg_compose.specs.Expansion.{new_edge}
use Rattle.sg_compose.proofs.add.add_edges.Given as goal

abbrev pub invariant-loop-number : goal.invariant-loop-number
invariant-loop-number l = l.graph ≡ record l.fn.graph { edges = l.fn.graph.edges ++ map (new_edge l.vars l.nodes l.used l.end) (take l.number l.inner.edges) }
