-- Who must be able to check a step later.
use Rattle.std.specs.Prelude.{◌≡◌, ◌≢◌, ℕ, ◌<◌, List, [], get_or, length, IsTrue, ◌↔◌}
use Rattle.sg_model.specs.Lists.{is_in}
use Rattle.sg_model.specs.Shape.{Shape, Leads, sender, receiver, target}
use Rattle.sg_protocol.specs.Graph.{Graph, shape, AreNumbers}

-- t is neither the sender nor the receiver of e, and a walk leads from the end of e to t, past no node of the sender or of t
pub record IsTarget (g : Shape) (e t : ℕ) : Type 0 where
  pub not_sender : t ≢ sender g e
  pub not_receiver : t ≢ receiver g e
  pub walk : List ℕ
  pub leads : Leads g (target g e) t (sender g e) walk

-- for each edge the table has the roles that are its targets, in rising order
pub record IsTargetTable (g : Graph) (table : List (List ℕ)) : Type 0 where
  pub size : length table ≡ length g.edges
  pub rising : (e : ℕ) → AreNumbers (length g.roles) (get_or table e [])
  pub each : (e t : ℕ) → e < length g.edges → t < length g.roles → IsTrue (is_in t (get_or table e [])) ↔ IsTarget (shape g) e t
