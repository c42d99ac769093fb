-- The grammar of the graph text, as a relation between the bytes and the graph.
use Rattle.std.specs.Prelude.{◌≡◌, ℕ, ◌≤◌, not, Bool, true, ◌&&◌, List, [], ◌∷◌, ◌++◌, map, length, get_or, codes, IsTrue, flat_map}
use Rattle.sg_model.specs.Lists.{is_in}
use Rattle.sg_protocol.specs.Graph.{Graph, IsGraph, Name, Variable, Node, Edge, kind_text, role_name, node_name}
use Rattle.sg_graph.specs.Parts.{variable_names}
use Rattle.sg_parse.specs.Tokens.{tokens}
use Rattle.sg_parse.specs.declared.token.Token.{Token}
use Rattle.sg_parse.specs.declared.token.Token.TheVariants.{Word, Colon, Semicolon, Arrow, End}

-- the numbers are all different
abbrev pub differ : List ℕ → Bool
differ [] = true
differ (n ∷ ns) = not (is_in n ns) && differ ns

-- the numbers of the set, each once, in any order
pub record IsOrderOf (set ns : List ℕ) : Type 0 where
  pub same : (n : ℕ) → is_in n ns ≡ is_in n set
  pub once : IsTrue (differ ns)

-- the names at these indices
abbrev pub named : List Name → List ℕ → List Token
named names indices = map (λ n. Word (get_or names n [])) indices

-- the statement of a graph's name
abbrev pub head_tokens : Name → List Token
head_tokens name = Word (codes "graph") ∷ Word name ∷ Semicolon ∷ []

-- the statement of a role
abbrev pub role_tokens : Name → List Token
role_tokens name = Word (codes "role") ∷ Word name ∷ Semicolon ∷ []

-- the statement of a variable: its writing roles stand in any order
pub record SpellsVariable (g : Graph) (v : Variable) (ts : List Token) : Type 0 where
  pub order : List ℕ
  pub writers : IsOrderOf v.writers order
  pub spelled : ts ≡ Word (codes "var") ∷ Word v.name ∷ Colon ∷ Word (kind_text v.kind) ∷ Word (codes "by") ∷ named g.roles order ++ Semicolon ∷ []

-- the statement of a node
abbrev pub node_tokens : Graph → Node → List Token
node_tokens g n = Word (codes "node") ∷ Word n.name ∷ Colon ∷ Word (role_name g n.role) ∷ Semicolon ∷ []

-- what the statement of an edge says of a set of variables: nothing if it is empty, otherwise the word and the variables in any order
pub data SpellsClause (word : List ℕ) (names : List Name) : List ℕ → List Token → Type 0 where
  Without : SpellsClause word names [] []
  With : {set order : List ℕ} → 1 ≤ length set → IsOrderOf set order → SpellsClause word names set (Word word ∷ named names order)

-- the statement of an edge
pub record SpellsEdge (g : Graph) (e : Edge) (ts : List Token) : Type 0 where
  pub written : List Token
  pub read : List Token
  pub writes : SpellsClause (codes "writes") (variable_names g) e.writes written
  pub reads : SpellsClause (codes "reads") (variable_names g) e.reads read
  pub spelled : ts ≡ Word (codes "edge") ∷ Word e.name ∷ Colon ∷ Word (node_name g e.source) ∷ Arrow ∷ Word (node_name g e.target)
      ∷ written ++ (read ++ Semicolon ∷ [])

-- the statements of some parts, one after the other
pub data InTurn {A : Type 0} (Spells : A → List Token → Type 0) : List A → List Token → Type 0 where
  Done : InTurn Spells [] []
  Then : {x : A} {xs : List A} {ts us : List Token} → Spells x ts → InTurn Spells xs us → InTurn Spells (x ∷ xs) (ts ++ us)

-- the tokens are the statements of the graph
pub record SpellsStatements (g : Graph) (ts : List Token) : Type 0 where
  pub of_variables : List Token
  pub of_edges : List Token
  pub variables : InTurn (SpellsVariable g) g.variables of_variables
  pub edges : InTurn (SpellsEdge g) g.edges of_edges
  pub spelled : ts ≡ head_tokens g.name ++ (flat_map role_tokens g.roles ++ (of_variables ++ (flat_map (node_tokens g) g.nodes ++ of_edges)))

-- the bytes are a text of the graph: it has two roles and a node, and their tokens are its statements, and the end
pub record SpellsGraph (bs : List ℕ) (g : Graph) : Type 0 where
  pub is_graph : IsGraph g
  pub two_roles : 2 ≤ length g.roles
  pub has_node : 1 ≤ length g.nodes
  pub of_graph : List Token
  pub statements : SpellsStatements g of_graph
  pub spelled : map (λ p. p.token) (tokens bs) ≡ of_graph ++ End ∷ []
