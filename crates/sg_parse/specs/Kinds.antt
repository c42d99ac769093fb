-- The kinds of statements after a graph's name, each with what is its own.
use Rattle.std.specs.Prelude.{ℕ, List, length, codes}
use Rattle.sg_model.specs.Limits.{most_roles, most_variables, most_nodes, most_edges}
use Rattle.sg_protocol.specs.Graph.{Graph, Name}
use Rattle.sg_graph.specs.Parts.{variable_names, node_names, edge_names}
use Rattle.sg_parse.specs.Reading.{Parser, read_role, read_variable, read_node, read_edge}
use Rattle.sg_parse.specs.declared.kind.Kind.{Kind}
use Rattle.sg_parse.specs.declared.kind.Kind.TheVariants.{Role, Var, Node, Edge}

-- the word that begins a statement
abbrev pub first_word : Kind → List ℕ
first_word Role = codes "role"
first_word Var = codes "var"
first_word Node = codes "node"
first_word Edge = codes "edge"

-- how a statement is read after that word
abbrev pub reader_of : Kind → Graph → Parser Graph
reader_of Role = read_role
reader_of Var = read_variable
reader_of Node = read_node
reader_of Edge = read_edge

-- the names that a graph has of this kind
abbrev pub names_of : Kind → Graph → List Name
names_of Role g = g.roles
names_of Var g = variable_names g
names_of Node g = node_names g
names_of Edge g = edge_names g

-- how many parts of this kind a graph has
abbrev pub count_of : Kind → Graph → ℕ
count_of Role g = length g.roles
count_of Var g = length g.variables
count_of Node g = length g.nodes
count_of Edge g = length g.edges

-- how many of them it may have
abbrev pub most_of : Kind → ℕ
most_of Role = most_roles
most_of Var = most_variables
most_of Node = most_nodes
most_of Edge = most_edges
