-- Graphs with one more part.
use Rattle.std.specs.Prelude.{◌≡◌, ℕ, ◌↔◌, false, List, [], ◌∷◌, ◌++◌, length, IsTrue, Result, Err, IfOk, OnOk, OnErr}
use Rattle.sg_model.specs.Lists.{has_text}
use Rattle.sg_protocol.specs.Graph.{Graph, Name, Variable, Node, Edge}
use Rattle.sg_graph.specs.declared.graph.adding.AddFault.{AddFault}
use Rattle.sg_graph.specs.declared.graph.adding.AddFault.TheVariants.{Twice, TooMany}

-- the graph of this name with no parts
abbrev pub no_parts : Name → Graph
no_parts name = record { name = name; roles = []; variables = []; nodes = []; edges = [] }

-- the graph with one more role
abbrev pub with_role : Graph → Name → Graph
with_role g name = record g { roles = g.roles ++ name ∷ [] }

-- the graph with one more variable
abbrev pub with_variable : Graph → Variable → Graph
with_variable g v = record g { variables = g.variables ++ v ∷ [] }

-- the graph with one more node
abbrev pub with_node : Graph → Node → Graph
with_node g n = record g { nodes = g.nodes ++ n ∷ [] }

-- the graph with one more edge
abbrev pub with_edge : Graph → Edge → Graph
with_edge g e = record g { edges = g.edges ++ e ∷ [] }

-- a part is added after the others of its kind, and its number is the result; or one of them has its name, or there are as many as the limit, and
-- the graph stays as it was
pub record Adds (names : List Name) (limit : ℕ) (name : Name) (old new with_part : Graph) (result : Result ℕ AddFault) : Type 0 where
  pub number : IfOk result (λ n. n ≡ length names)
  pub added : OnOk result (new ≡ with_part)
  pub twice : (result ≡ Err Twice) ↔ IsTrue (has_text name names)
  pub too_many : (result ≡ Err TooMany) ↔ ((has_text name names ≡ false) × (length names ≡ limit))
  pub stays : OnErr result (new ≡ old)
