-- Graphs with variables and names, and their one canonical text.
use Rattle.std.specs.Prelude.{ℕ, ◌<◌, ◌≤◌, not, ◌&&◌, nat_lt, List, [], ◌∷◌, ◌++◌, map, length, get_or, codes, All, IsTrue, flat_map}
use Rattle.std.specs.List.{list_all}
use Rattle.sg_model.specs.Lists.{all_differ, has_text, rises_from}
pub use Rattle.sg_model.specs.Names.{Name, is_letter, is_name_byte, is_name, reserved}
use Rattle.sg_model.specs.Shape.{Shape}
use Rattle.sg_model.specs.Shape as Arrows
use Rattle.sg_model.specs.Limits.{most_roles, most_variables, most_nodes, most_edges}

-- the type of a variable
pub data VariableKind : Type 0 where
  Int : VariableKind
  Text : VariableKind

-- a variable, and the roles that may write it, in rising order
pub record Variable : Type 0 where
  pub name : Name
  pub kind : VariableKind
  pub writers : List ℕ

-- a node and its role
pub record Node : Type 0 where
  pub name : Name
  pub role : ℕ

-- an edge, with the variables that its sender writes and its receiver reads, in rising order
pub record Edge : Type 0 where
  pub name : Name
  pub source : ℕ
  pub target : ℕ
  pub writes : List ℕ
  pub reads : List ℕ

-- a graph. Roles, variables, nodes and edges have their indices as numbers, and an edge's number is its label
pub record Graph : Type 0 where
  pub name : Name
  pub roles : List Name
  pub variables : List Variable
  pub nodes : List Node
  pub edges : List Edge

-- the graph without names and types
abbrev pub shape : Graph → Shape
shape g = record {
  roles = map (λ n. n.role) g.nodes;
  edges = map (λ e. record { source = e.source; target = e.target; writes = e.writes; reads = e.reads }) g.edges;
}

-- what an edge writes
abbrev pub writes : Graph → ℕ → List ℕ
writes g e = Arrows.writes (shape g) e

-- what an edge reads
abbrev pub reads : Graph → ℕ → List ℕ
reads g e = Arrows.reads (shape g) e

-- the type of a variable
abbrev pub kind_of : Graph → ℕ → VariableKind
kind_of g x = (get_or g.variables x (record { name = []; kind = Int; writers = [] })).kind

-- the roles that may write a variable
abbrev pub writers : Graph → ℕ → List ℕ
writers g x = (get_or g.variables x (record { name = []; kind = Int; writers = [] })).writers

-- the name of a variable
abbrev pub variable_name : Graph → ℕ → Name
variable_name g x = (get_or g.variables x (record { name = []; kind = Int; writers = [] })).name

-- the name of a role
abbrev pub role_name : Graph → ℕ → Name
role_name g r = get_or g.roles r []

-- the name of a node
abbrev pub node_name : Graph → ℕ → Name
node_name g n = (get_or g.nodes n (record { name = []; role = 0 })).name

-- ---- the canonical text

-- the word for a type
abbrev pub kind_text : VariableKind → List ℕ
kind_text Int = codes "int"
kind_text Text = codes "text"

-- a space and a name, for each
abbrev pub spaced : List Name → List ℕ
spaced names = flat_map (λ n. 32 ∷ n) names

-- the word and the names after it, if there are some
abbrev pub clause : List ℕ → List Name → List ℕ
clause word [] = []
clause word (n ∷ ns) = word ++ spaced (n ∷ ns)

-- the end of a statement
abbrev pub ended : List ℕ → List ℕ
ended line = line ++ 59 ∷ 10 ∷ []

-- the statement of a variable
abbrev pub variable_line : Graph → Variable → List ℕ
variable_line g v = ended (codes "var " ++ v.name ++ codes ": " ++ kind_text v.kind ++ codes " by" ++ spaced (map (role_name g) v.writers))

-- the statement of a node
abbrev pub node_line : Graph → Node → List ℕ
node_line g n = ended (codes "node " ++ n.name ++ codes ": " ++ role_name g n.role)

-- the statement of an edge
abbrev pub edge_line : Graph → Edge → List ℕ
edge_line g e = ended (codes "edge " ++ e.name ++ codes ": " ++ node_name g e.source ++ codes " -> " ++ node_name g e.target
    ++ clause (codes " writes") (map (variable_name g) e.writes) ++ clause (codes " reads") (map (variable_name g) e.reads))

-- the canonical text
abbrev pub canonical : Graph → List ℕ
canonical g = ended (codes "graph " ++ g.name)
    ++ flat_map (λ r. ended (codes "role " ++ r)) g.roles
    ++ flat_map (variable_line g) g.variables
    ++ flat_map (node_line g) g.nodes
    ++ flat_map (edge_line g) g.edges

-- ---- which graphs there are

-- the names are names, not reserved and all different
abbrev pub AreNames : List Name → Type 0
AreNames names = IsTrue (list_all (λ n. is_name n && not (has_text n reserved)) names && all_differ names)

-- the numbers rise, and all are below n
abbrev pub AreNumbers : ℕ → List ℕ → Type 0
AreNumbers n ns = IsTrue (rises_from 0 ns && list_all (λ k. nat_lt k n) ns)

-- each number that the graph uses is there, its names are names, and it has no more roles, variables, nodes and edges than there may be
pub record IsGraph (g : Graph) : Type 0 where
  pub named : AreNames (g.name ∷ [])
  pub role_names : AreNames g.roles
  pub variable_names : AreNames (map (λ v. v.name) g.variables)
  pub node_names : AreNames (map (λ n. n.name) g.nodes)
  pub edge_names : AreNames (map (λ e. e.name) g.edges)
  pub writers : All (λ v. AreNumbers (length g.roles) v.writers × (0 < length v.writers)) g.variables
  pub roles : All (λ n. n.role < length g.roles) g.nodes
  pub ends : All (λ e. (e.source < length g.nodes) × (e.target < length g.nodes)) g.edges
  pub variables : All (λ e. AreNumbers (length g.variables) e.writes × AreNumbers (length g.variables) e.reads) g.edges
  pub sizes : (length g.roles ≤ most_roles) × (length g.variables ≤ most_variables) × (length g.nodes ≤ most_nodes) × (length g.edges ≤ most_edges)
