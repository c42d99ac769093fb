-- How a graph is kept: a list for each kind of part.
use Rattle.std.specs.Prelude.{map}
use Rattle.sg_protocol.specs.Graph as Protocol
use Rattle.sg_protocol.specs.Graph.{Graph}
use Rattle.sg_graph.specs.Parts.{kind_of_type}
use Rattle.sg_graph.specs.declared.graph.Variable.{Variable}
use Rattle.sg_graph.specs.declared.graph.Node.{Node}
use Rattle.sg_graph.specs.declared.graph.NamedEdge.{NamedEdge}
use Rattle.sg_graph.specs.declared.graph.Graph.TheInside.{Inside}

-- the variable that is kept
abbrev pub variable_of : Variable → Protocol.Variable
variable_of v = record { name = v.name; kind = kind_of_type v.kind; writers = v.writers }

-- the node that is kept
abbrev pub node_of : Node → Protocol.Node
node_of n = record { name = n.name; role = n.role }

-- the edge that is kept
abbrev pub edge_of : NamedEdge → Protocol.Edge
edge_of e = record { name = e.name; source = e.edge.source; target = e.edge.target; writes = e.edge.writes; reads = e.edge.reads }

-- the graph that is kept
abbrev pub graph_of : Inside → Graph
graph_of g = record {
  name = g.name;
  roles = g.roles.items;
  variables = map variable_of g.vars.items;
  nodes = map node_of g.nodes.items;
  edges = map edge_of g.edges.items;
}
