-- When a role that waits has nothing more to wait for.
use Rattle.std.specs.Prelude.{◌≡◌, ℕ, ◌<◌, List, length, IsTrue, ◌↔◌}
use Rattle.sg_model.specs.Shape.{Walk, end_of, role_at, sender, target}
use Rattle.sg_protocol.specs.Graph.{Graph, shape}
use Rattle.sg_protocol.specs.Texts.{Hash}
use Rattle.sg_protocol.specs.Keyring.{Program, may_return}
use Rattle.sg_protocol.specs.IsSchedule.{IsProgram}

-- from the end of edge e some walk leads to a node of the role
abbrev pub Returns : Graph → ℕ → ℕ → Type 0
Returns g r e = (walk : List ℕ) × Walk (shape g) (target (shape g) e) walk × (role_at (shape g) (end_of (shape g) (target (shape g) e) walk) ≡ r)

-- A program's table has a view from a label that its role sends exactly if some walk leads from there to a node of the role
abbrev pub TablesShowReturns : Hash → Type 0
TablesShowReturns sha = (p : Program) (e : ℕ) → IsProgram sha p → e < length p.graph.edges → sender (shape p.graph) e ≡ p.role → IsTrue (may_return p e) ↔ Returns p.graph p.role e
