-- The graph `pair` of the edge lines.
use Rattle.std.specs.Prelude.{ℕ, suc, ◌%◌, max, List, [], ◌∷◌, map, fold, codes}
use Rattle.std.specs.Fmt.{decimal}
use Rattle.sg_model.specs.Names.{Name}
use Rattle.sg_model.specs.Lists.{below}
use Rattle.sg_protocol.specs.Graph.{Graph, Node, Edge}

-- the edge that a line declares
abbrev pub edge : Name → ℕ → ℕ → Edge
edge label from to = record { name = label; source = from; target = to; writes = []; reads = [] }

-- the names of edges
abbrev pub labels : List Edge → List Name
labels edges = map (λ e. e.name) edges

-- node n: its name is n and the number in decimal digits; an even one has role 0, an odd one role 1
abbrev pub node : ℕ → Node
node n = record { name = 110 ∷ decimal n; role = n % 2 }

-- as many nodes as the greatest number of an edge needs
abbrev pub node_count : List Edge → ℕ
node_count edges = fold (λ n e. max n (suc (max e.source e.target))) 0 edges

-- the graph of these edges, with the roles a and b
abbrev pub pair_graph : List Edge → Graph
pair_graph edges = record {
  name = codes "pair";
  roles = codes "a" ∷ codes "b" ∷ [];
  variables = [];
  nodes = map node (below (node_count edges));
  edges = edges;
}

-- the graph of the edge lines, if there are any
abbrev pub graphs_of : List Edge → List Graph
graphs_of [] = []
graphs_of (e ∷ es) = pair_graph (e ∷ es) ∷ []
