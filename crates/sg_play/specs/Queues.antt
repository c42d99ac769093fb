-- The table of choices: a queue for each node of a graph.
use Rattle.std.specs.Prelude.{◌≡◌, ℕ, ◌-◌, ◌==◌, nat_lt, Bool, ◌&&◌, if◌then◌else◌, List, [], ◌∷◌, bytes_eq, unwrap_or}
use Rattle.std.specs.Map.{lookup}
use Rattle.sg_model.specs.Names.{Name}
use Rattle.sg_script.specs.Script.{Choice}
use Rattle.sg_play.specs.Choosing.{ready}

-- a node of a graph, and its queue
abbrev pub Spot : Type 0
Spot = Name × ℕ

-- the spot is the node of the graph
abbrev pub is_spot : (graph : Name) → (node : ℕ) → Spot → Bool
is_spot graph node s = bytes_eq graph s.0 && (node == s.1)

-- the queue of a node
abbrev pub queue_at : List (Spot × List Choice) → (graph : Name) → (node : ℕ) → List Choice
queue_at table graph node = unwrap_or (lookup (is_spot graph node) table) []

-- a queue after a use of its first choice
abbrev pub used_first : List Choice → List Choice
used_first [] = []
used_first (c ∷ cs) = if nat_lt 1 c.times then (record c { times = c.times - 1 } ∷ cs) else cs

-- each node's queue has the choices for it that can still be taken, in order
abbrev pub HoldsChoices : List (Spot × List Choice) → List Choice → Type 0
HoldsChoices table cs = (graph : Name) (node : ℕ) → queue_at table graph node ≡ ready graph node cs
