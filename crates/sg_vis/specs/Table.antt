-- A table of views, each with a walk that shows it.
use Rattle.std.specs.Prelude.{◌≡◌, ◌≢◌, ℕ, List, [], map, Option}
use Rattle.sg_model.specs.Shape.{Walk, end_of, role_at}
use Rattle.sg_protocol.specs.Graph.{Graph, shape}
use Rattle.sg_protocol.specs.Evidence.{Seen, View, view_of}

-- the view with this origin and these items
abbrev pub view_from : Option ℕ → List Seen → View
view_from origin items = record { origin = origin; items = items }

-- a view, and a walk that shows it
pub record ShownView : Type 0 where
  pub view : View
  pub walk : List ℕ

-- the views of a table
abbrev pub views_of : List ShownView → List View
views_of table = map (λ s. s.view) table

-- the walks of a table
abbrev pub walks_of : List ShownView → List (List ℕ)
walks_of table = map (λ s. s.walk) table

-- the walk leads from the start to a node of r, by one edge or more, and shows the view to r
pub record Shows (g : Graph) (r : ℕ) (walk : List ℕ) (v : View) : Type 0 where
  pub follows : Walk (shape g) 0 walk
  pub moves : walk ≢ []
  pub ends : role_at (shape g) (end_of (shape g) 0 walk) ≡ r
  pub seen : view_of g r walk ≡ v
