-- Graphs whose shape is right, and what may be wrong with it.
use Rattle.std.specs.Prelude.{◌≡◌, ◌≢◌, ℕ, ◌<◌, length}
use Rattle.sg_model.specs.Shape.{role_at, sender, receiver}
use Rattle.sg_protocol.specs.Accepted.{Reached}
use Rattle.sg_protocol.specs.Graph.{Graph, shape}
use Rattle.sg_check.specs.Least.{IsNowhere, IsLeast}
use Rattle.sg_check.specs.declared.shape.ShapeFault.{ShapeFault}
use Rattle.sg_check.specs.declared.shape.ShapeFault.TheVariants.{SelfEdge, Unreachable, IdleRole}

-- some node has the role
abbrev pub HasNode : Graph → ℕ → Type 0
HasNode g r = (n : ℕ) × (n < length g.nodes) × (role_at (shape g) n ≡ r)

-- no edge has its sender as receiver, walks from the start reach each node, and each role has a node
pub record HasShape (g : Graph) : Type 0 where
  pub no_self_edge : (e : ℕ) → e < length g.edges → sender (shape g) e ≢ receiver (shape g) e
  pub all_reached : (n : ℕ) → n < length g.nodes → Reached g n
  pub each_role_has_node : (r : ℕ) → r < length g.roles → HasNode g r

-- the edge's sender is its receiver
abbrev pub IsSelfEdge : Graph → ℕ → Type 0
IsSelfEdge g e = (e < length g.edges) × (sender (shape g) e ≡ receiver (shape g) e)

-- no walk from the start reaches the node
abbrev pub IsUnreachable : Graph → ℕ → Type 0
IsUnreachable g n = (n < length g.nodes) × (Reached g n → ⊥)

-- no node has the role
abbrev pub IsIdle : Graph → ℕ → Type 0
IsIdle g r = (r < length g.roles) × (HasNode g r → ⊥)

-- the least position of the first kind of fault that the graph has
abbrev pub IsShapeFault : Graph → ShapeFault → Type 0
IsShapeFault g (SelfEdge e) = IsLeast (IsSelfEdge g) e
IsShapeFault g (Unreachable n) = IsNowhere (IsSelfEdge g) × IsLeast (IsUnreachable g) n
IsShapeFault g (IdleRole r) = IsNowhere (IsSelfEdge g) × IsNowhere (IsUnreachable g) × IsLeast (IsIdle g) r
