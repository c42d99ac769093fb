-- Stored walks, and the events that one walk explains.
use Rattle.std.specs.Prelude.{◌≡◌, ℕ, Bool, true, false, not, ◌&&◌, ◌||◌, List, [], ◌∷◌, ◌++◌, map, flat_map, Option, Some, None, is_none, unwrap_or, IsTrue, IfSome}
use Rattle.std.specs.List.{list_all, AllByRecursion}
use Rattle.std.specs.Bool.{beq}
use Rattle.sg_model.specs.Last.{Map, merge, last}
use Rattle.sg_model.specs.Lists.{is_in, value_at, keys_of}
use Rattle.sg_model.specs.Shape.{Walk, sender, receiver}
use Rattle.sg_protocol.specs.Graph.{Graph, shape, writes, reads}
use Rattle.sg_model.specs.Values.{Value}
use Rattle.sg_protocol.specs.Calls.{Event, Started, Sent, Received}
use Rattle.sg_protocol.specs.Acting.{is_typed}

-- a step, with the values that it writes. None is a hidden value
pub record StoredStep : Type 0 where
  pub label : ℕ
  pub writes : Map (Option Value)

-- the labels of a stored walk
abbrev pub labels : List StoredStep → List ℕ
labels steps = map (λ s. s.label) steps

-- a value is hidden or of its variable's type
abbrev pub is_typed_or_hidden : Graph → ℕ × Option Value → Bool
is_typed_or_hidden g (x, None) = true
is_typed_or_hidden g (x, Some v) = is_typed g (x, v)

-- the step gives each variable that its edge writes a value of its type or hides it
abbrev pub IsStoredStep : Graph → StoredStep → Type 0
IsStoredStep g s = (keys_of s.writes ≡ writes g s.label) × IsTrue (list_all (is_typed_or_hidden g) s.writes)

-- the steps are a walk from the start, with values
pub record IsStoredWalk (g : Graph) (steps : List StoredStep) : Type 0 where
  pub walk : Walk (shape g) 0 (labels steps)
  pub values : AllByRecursion (IsStoredStep g) steps

-- what a role sends or receives, with its role, label and values
pub data Act : Type 0 where
  Sends : (role label : ℕ) (values : Map (Option Value)) → Act
  Receives : (role label : ℕ) (values : Map (Option Value)) → Act

-- the variables with their values in the store
abbrev pub stored : Map (Option Value) → List ℕ → Map (Option Value)
stored store xs = map (λ x. (x, unwrap_or (value_at store x) None)) xs

-- the act, if the role is honest
abbrev pub act_if : Bool → Act → List Act
act_if true a = a ∷ []
act_if false a = []

-- whether the step's receipt counts: the last one only if it was taken
abbrev pub counts : Bool → List StoredStep → Bool
counts taken [] = taken
counts taken (s ∷ ss) = true

-- what honest roles do along the steps, from a store on
abbrev pub honest_acts : Graph → (ℕ → Bool) → Bool → Map (Option Value) → List StoredStep → List Act
honest_acts g honest taken store [] = []
honest_acts g honest taken store (s ∷ ss) =
    let now = merge store s.writes in
    act_if (honest (sender (shape g) s.label)) (Sends (sender (shape g) s.label) s.label s.writes)
    ++ act_if (honest (receiver (shape g) s.label) && counts taken ss) (Receives (receiver (shape g) s.label) s.label (stored now (reads g s.label)))
    ++ honest_acts g honest taken now ss

-- the values of an event, none hidden
abbrev pub shown : Map Value → Map (Option Value)
shown values = map (λ (w : ℕ × Value). (w.0, Some w.1)) values

-- what an event did on the walk: a start, nothing
abbrev pub acts_of_event : Event → List Act
acts_of_event (Started sid r) = []
acts_of_event (Sent sid r label time values) = Sends r label (shown values) ∷ []
acts_of_event (Received sid r label time values joins) = Receives r label (shown values) ∷ []

-- the first of the steps writes x
abbrev pub is_written_first : Graph → ℕ → List StoredStep → Bool
is_written_first g x [] = false
is_written_first g x (s ∷ ss) = is_in x (writes g s.label)

-- from this step on, an honest role receives x before it is written again
abbrev pub is_carried : Graph → (ℕ → Bool) → Bool → ℕ → List StoredStep → Bool
is_carried g honest taken x [] = false
is_carried g honest taken x (s ∷ ss) =
    (honest (receiver (shape g) s.label) && counts taken ss && is_in x (reads g s.label)) || (not (is_written_first g x ss) && is_carried g honest taken x ss)

-- exactly the values that no honest role wrote or received are hidden
abbrev pub are_hidden : Graph → (ℕ → Bool) → Bool → List StoredStep → Bool
are_hidden g honest taken [] = true
are_hidden g honest taken (s ∷ ss) =
    list_all (λ (w : ℕ × Option Value). beq (is_none w.1) (not (honest (sender (shape g) s.label)) && not (is_carried g honest taken w.0 (s ∷ ss)))) s.writes
    && are_hidden g honest taken ss

-- the honest roles' events, in order and with their values, are their part of one walk, except perhaps for a last receipt
pub record OnePath (g : Graph) (honest : ℕ → Bool) (events : List Event) (steps : List StoredStep) : Type 0 where
  -- whether the last receipt was taken
  pub taken : Bool
  pub walk : IsStoredWalk g steps
  -- an honest role sent or received the last step
  pub ends_honest : IfSome (last steps) (λ s. IsTrue (honest (sender (shape g) s.label) || honest (receiver (shape g) s.label)))
  pub explained : flat_map acts_of_event events ≡ honest_acts g honest taken [] steps
  -- only a receipt by an honest role from an honest role may be still to come
  pub may_come : taken ≡ false → IfSome (last steps) (λ s. IsTrue (honest (sender (shape g) s.label) && honest (receiver (shape g) s.label)))
  pub hidden : IsTrue (are_hidden g honest taken steps)
