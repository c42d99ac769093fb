-- What a graph keeps true.
use Rattle.std.specs.Prelude.{◌≡◌, map, length}
use Rattle.sg_model.specs.Lists.{below}
use Rattle.sg_protocol.specs.Graph.{IsGraph}
use Rattle.sg_graph.specs.Edges.{leaving_of}
use Rattle.sg_graph.specs.declared.graph.Graph.TheInside.{Inside}
use Rattle.sg_graph.specs.Model.{graph_of}

-- a graph is kept, each edge has its index as its label, and each node the labels that leave it
pub record HoldsGraph (g : Inside) : Type 0 where
  pub graph : IsGraph (graph_of g)
  pub labels : map (λ e. e.edge.label) g.edges.items ≡ below (length g.edges.items)
  pub leaving : g.leaving.items ≡ leaving_of (graph_of g)
