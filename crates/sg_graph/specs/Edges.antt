-- The edges of the program as those of the definitions, and the labels that leave a node.
use Rattle.std.specs.Prelude.{ℕ, ◌==◌, List, map, filter, length}
use Rattle.sg_model.specs.Lists.{below}
use Rattle.sg_protocol.specs.Graph.{Graph, shape, writes, reads}
use Rattle.sg_model.specs.Shape.{source, target}
use Rattle.sg_graph.specs.declared.edge.Edge.{Edge}

-- the edge of a label, with its label
abbrev pub edge_of_label : Graph → ℕ → Edge
edge_of_label g e = record {
  label = e;
  source = source (shape g) e;
  target = target (shape g) e;
  writes = writes g e;
  reads = reads g e;
}

-- the labels of the edges that leave a node, in rising order
abbrev pub leaving_from : Graph → ℕ → List ℕ
leaving_from g n = filter (λ e. source (shape g) e == n) (below (length g.edges))

-- the labels that leave each node
abbrev pub leaving_of : Graph → List (List ℕ)
leaving_of g = map (leaving_from g) (below (length g.nodes))
