-- Which nodes can be reached by walks that pass no node of some roles.
use Rattle.std.specs.Prelude.{◌≡◌, ℕ, ◌<◌, false, List, length, Option, Some, None, IsTrue}
use Rattle.sg_model.specs.Last.{has}
use Rattle.sg_model.specs.Lists.{is_in}
use Rattle.sg_model.specs.Shape.{Shape, Walk, end_of, role_at, sender}
use Rattle.sg_protocol.specs.Graph.{Graph, shape}

-- the labels lead from node m to node n, and no node before the end has one of the roles
pub record LeadsPast (g : Shape) (m : ℕ) (past : List ℕ) (n : ℕ) (es : List ℕ) : Type 0 where
  pub walk : Walk g m es
  pub ends : end_of g m es ≡ n
  pub clear : (r : ℕ) → IsTrue (is_in r past) → has (sender g) r es ≡ false

-- some walk leads from node m to node n past no node of these roles
abbrev pub Reaches : Shape → ℕ → List ℕ → ℕ → Type 0
Reaches g m past n = (walk : List ℕ) × LeadsPast g m past n walk

-- the closure of a node of a graph and some roles: the nodes that are reached from it past no node of the roles
pub record Closure : Type 0 where
  pub graph : Graph
  pub from : ℕ
  pub past : List ℕ

-- the node is in the closure
abbrev pub IsWithin : Closure → ℕ → Type 0
IsWithin c n = Reaches (shape c.graph) c.from c.past n

-- the least node in the closure that has the role, or none if there is none
abbrev pub IsFirstOf : Closure → ℕ → Option ℕ → Type 0
IsFirstOf c r (Some n) = (n < length c.graph.nodes) × (role_at (shape c.graph) n ≡ r) × IsWithin c n × ((k : ℕ) → k < n → role_at (shape c.graph) k ≡ r → IsWithin c k → ⊥)
IsFirstOf c r None = (n : ℕ) → role_at (shape c.graph) n ≡ r → IsWithin c n → ⊥
