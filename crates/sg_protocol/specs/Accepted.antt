-- Which graphs are accepted.
use Rattle.std.specs.Prelude.{◌≡◌, ◌≢◌, ℕ, ◌<◌, ◌≤◌, List, [], ◌∷◌, length, IsTrue}
use Rattle.sg_model.specs.Lists.{is_in}
use Rattle.sg_model.specs.Shape.{Walk, end_of, role_at, sender, receiver, Sighted}
use Rattle.sg_protocol.specs.Graph.{Graph, shape, writes, reads, writers}
use Rattle.sg_protocol.specs.Knowledge.{ReadsAreKnown}

-- a walk leads from the start to node n
abbrev pub Reached : Graph → ℕ → Type 0
Reached g n = (walk : List ℕ) × Walk (shape g) 0 walk × (end_of (shape g) 0 walk ≡ n)

-- the shape is right, only writers write, only what the sender knows is read, and no node blinds two roles
pub record Accepted (g : Graph) : Type 0 where
  pub two_roles : 2 ≤ length g.roles
  pub each_role_has_node : (r : ℕ) → r < length g.roles → (n : ℕ) × (n < length g.nodes) × (role_at (shape g) n ≡ r)
  pub no_self_edge : (e : ℕ) → e < length g.edges → sender (shape g) e ≢ receiver (shape g) e
  pub all_reached : (n : ℕ) → n < length g.nodes → Reached g n
  pub writers_write : (e x : ℕ) → IsTrue (is_in x (writes g e)) → IsTrue (is_in (sender (shape g) e) (writers g x))
  -- the receiver is not a variable's only writing role
  pub others_read : (e x : ℕ) → IsTrue (is_in x (reads g e)) → writers g x ≢ receiver (shape g) e ∷ []
  pub reads_known : ReadsAreKnown g
  pub sighted : Sighted (shape g)
