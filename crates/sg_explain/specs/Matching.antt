-- What the parts of the check answer.
use Rattle.std.specs.Prelude.{◌≡◌, ℕ, ◌<◌, ◌==◌, Bool, true, false, List, [], ◌∷◌, ◌++◌, map, flat_map, drop, length, get_or, Option, Some, None, unwrap_or, MatchOption, IfSome, slice_get, not, ◌&&◌}
use Rattle.sg_model.specs.Last.{Map}
use Rattle.sg_model.specs.Lists.{value_at, keys_of}
use Rattle.sg_model.specs.Shape.{source}
use Rattle.sg_model.specs.Values.{Value}
use Rattle.sg_protocol.specs.Graph.{Graph, shape, writes}
use Rattle.sg_protocol.specs.Walk.{StoredStep, IsStoredStep, Act, acts_of_event, is_carried, is_written_first}
use Rattle.sg_walk.specs.Model.{event_of}
use Rattle.sg_walk.specs.declared.event.Event.{Event as CodeEvent}
use Rattle.sg_walk.specs.declared.event.Event.TheVariants.{Started, Sent, Received}

-- the step has an edge of the graph, and writes what its edge writes
abbrev pub IsNamed : Graph → StoredStep → Type 0
IsNamed g s = (s.label < length g.edges) × (keys_of s.writes ≡ writes g s.label)

-- the step leaves node m, with values for what its edge writes
abbrev pub Follows : Graph → ℕ → StoredStep → Type 0
Follows g m s = (s.label < length g.edges) × (source (shape g) s.label ≡ m) × IsStoredStep g s

-- the first of the numbers is x
abbrev pub is_next : List ℕ → ℕ → Bool
is_next [] x = false
is_next (y ∷ ys) x = y == x

-- the event is a start
abbrev pub is_start : CodeEvent → Bool
is_start (Started sid r) = true
is_start (Sent sid r label time values) = false
is_start (Received sid r label time values joins) = false

-- what the events from an index on did
abbrev pub acts_from : List CodeEvent → ℕ → List Act
acts_from events at = flat_map acts_of_event (map event_of (drop at events))

-- the event at this index isn't a start, and those before it, from the other index on, are starts
abbrev pub IsNextAct : List CodeEvent → ℕ → ℕ → Type 0
IsNextAct events from at = (at < length events) × (acts_from events from ≡ acts_from events at) × IfSome (slice_get events at) (λ e. is_start e ≡ false)

-- the acts come next, and the answer is the index after them; or they don't come next
abbrev pub Takes : List CodeEvent → ℕ → List Act → Option ℕ → Type 0
Takes events at acts result = MatchOption result ((rest : List Act) → acts_from events at ≡ acts ++ rest → ⊥) (λ next. acts_from events at ≡ acts ++ acts_from events next)

-- the value that the step of this number wrote, if it isn't hidden
abbrev pub value_from : List StoredStep → Option ℕ → ℕ → Option Value
value_from steps None x = None
value_from steps (Some i) x = unwrap_or (value_at (get_or steps i (record { label = 0; writes = [] })).writes x) None

-- the variables with the values that the steps of their indices wrote
abbrev pub kept : List StoredStep → List (Option ℕ) → List ℕ → Map (Option Value)
kept steps indices xs = map (λ x. (x, value_from steps (get_or indices x None) x)) xs

-- an honest role receives x on the steps before it is written again
abbrev pub is_still_carried : Graph → (ℕ → Bool) → Bool → ℕ → List StoredStep → Bool
is_still_carried g honest taken x steps = not (is_written_first g x steps) && is_carried g honest taken x steps
