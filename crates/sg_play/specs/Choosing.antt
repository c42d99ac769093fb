-- The choices of a script that can still be taken.
use Rattle.std.specs.Prelude.{ℕ, ◌-◌, ◌==◌, nat_lt, Bool, ◌&&◌, if◌then◌else◌, List, [], ◌∷◌, filter, bytes_eq}
use Rattle.sg_model.specs.Names.{Name}
use Rattle.sg_script.specs.Script.{Choice}

-- the choice is for the node of the graph, and has uses left
abbrev pub is_ready : (graph : Name) → (node : ℕ) → Choice → Bool
is_ready graph node c = bytes_eq c.graph graph && (c.node == node) && nat_lt 0 c.times

-- one use is taken off the first such choice
abbrev pub used : (graph : Name) → (node : ℕ) → List Choice → List Choice
used graph node [] = []
used graph node (c ∷ cs) = if is_ready graph node c then (record c { times = c.times - 1 } ∷ cs) else (c ∷ used graph node cs)

-- all such choices in order
abbrev pub ready : (graph : Name) → (node : ℕ) → List Choice → List Choice
ready graph node cs = filter (is_ready graph node) cs
