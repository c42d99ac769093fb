-- What a role knows on a walk, and the condition on what edges read.
use Rattle.std.specs.Prelude.{ℕ, ◌==◌, Bool, ◌&&◌, ◌||◌, List, [], ◌∷◌, ◌++◌, IsTrue}
use Rattle.std.specs.List.{list_any}
use Rattle.sg_model.specs.Lists.{is_in, from_last}
use Rattle.sg_model.specs.Shape.{Walk, sender, receiver}
use Rattle.sg_protocol.specs.Graph.{Graph, shape, writes, reads}

-- along e the role writes x, or receives it as read
abbrev pub learns : Graph → ℕ → ℕ → ℕ → Bool
learns g r x e = ((sender (shape g) e == r) && is_in x (writes g e)) || ((receiver (shape g) e == r) && is_in x (reads g e))

-- x was written on the walk, and from its last write on there is a step along which r learns it
abbrev pub knows : Graph → ℕ → ℕ → List ℕ → Bool
knows g r x walk = list_any (learns g r x) (from_last (λ e. is_in x (writes g e)) walk)

-- on each walk from the start whose last edge reads x, the edge's sender knows x
abbrev pub ReadsAreKnown : Graph → Type 0
ReadsAreKnown g = (walk : List ℕ) (e x : ℕ) → Walk (shape g) 0 (walk ++ e ∷ []) → IsTrue (is_in x (reads g e)) → IsTrue (knows g (sender (shape g) e) x (walk ++ e ∷ []))
