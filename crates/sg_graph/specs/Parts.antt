-- The parts of a graph by their kinds: their names, and the types of variables.
use Rattle.std.specs.Prelude.{ℕ, List, [], map, get_or}
use Rattle.sg_base.specs.declared.value.VarType.{VarType}
use Rattle.sg_base.specs.declared.value.VarType.TheVariants.{Int as IntType, Text as TextType}
use Rattle.sg_protocol.specs.Graph.{Graph, Name, Variable, Node, Edge, VariableKind, Int, Text}

-- the type of a variable, as the definitions have it
abbrev pub kind_of_type : VarType → VariableKind
kind_of_type IntType = Int
kind_of_type TextType = Text

-- the names of the variables
abbrev pub variable_names : Graph → List Name
variable_names g = map (λ v. v.name) g.variables

-- the names of the nodes
abbrev pub node_names : Graph → List Name
node_names g = map (λ n. n.name) g.nodes

-- the names of the edges
abbrev pub edge_names : Graph → List Name
edge_names g = map (λ e. e.name) g.edges

-- the variable of a number
abbrev pub variable_at : Graph → ℕ → Variable
variable_at g x = get_or g.variables x (record { name = []; kind = Int; writers = [] })

-- the node of a number
abbrev pub node_at : Graph → ℕ → Node
node_at g n = get_or g.nodes n (record { name = []; role = 0 })

-- the edge of a label
abbrev pub edge_at : Graph → ℕ → Edge
edge_at g e = get_or g.edges e (record { name = []; source = 0; target = 0; writes = []; reads = [] })

-- the name of an edge
abbrev pub edge_name : Graph → ℕ → Name
edge_name g e = (edge_at g e).name
