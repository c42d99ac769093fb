-- How the graph `pair` is kept: with its edges, and the nodes that they need.
use Rattle.std.specs.Prelude.{◌≡◌, ◌<◌, List, [], length, Option, IfSome}
use Rattle.std.specs.Option.{option_map_or}
use Rattle.sg_protocol.specs.Graph.{Graph, Edge}
use Rattle.sg_sched.specs.Pair.{pair_graph}

-- the edges of the graph that is kept
abbrev pub edges_of : Option Graph → List Edge
edges_of graph = option_map_or (λ g. g.edges) graph []

-- it is the graph of its edges, and has some
abbrev pub HoldsPair : Option Graph → Type 0
HoldsPair graph = IfSome graph (λ g. (g ≡ pair_graph g.edges) × (0 < length g.edges))
