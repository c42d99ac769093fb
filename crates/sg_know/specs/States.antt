-- What the walks from the start say of one variable and one role, and the list of all that they say.
use Rattle.std.specs.Prelude.{◌≡◌, ◌⊎◌, ℕ, ◌+◌, ◌*◌, ◌<◌, ◌≤◌, Bool, true, false, if◌then◌else◌, List, [], ◌∷◌, ◌++◌, length, get_or, Option, Some, None, IfSome, MatchOption, IsTrue, is_some}
use Rattle.std.specs.List.{list_any, count_by}
use Rattle.sg_model.specs.Lists.{is_in}
use Rattle.sg_model.specs.Shape.{Walk, end_of, source, target, sender}
use Rattle.sg_model.specs.Limits.{most_nodes}
use Rattle.sg_protocol.specs.Graph.{Graph, shape, writes, reads}
use Rattle.sg_protocol.specs.Knowledge.{learns, knows}
use Rattle.sg_know.specs.declared.bad.UnknownRead.{UnknownRead}
use Rattle.sg_know.specs.declared.states.Mark.{Mark}
use Rattle.sg_know.specs.declared.states.Mark.TheVariants.{Unwritten, Unknown, Known}
use Rattle.sg_know.specs.declared.states.WalkState.{WalkState}
use Rattle.sg_know.specs.declared.states.Arrival.{Arrival}
use Rattle.sg_know.specs.declared.states.ReachedState.{ReachedState}

-- ---- states

-- the mark of a variable that was written
abbrev pub known_if : Bool → Mark
known_if true = Known
known_if false = Unknown

-- the mark of a variable that was written or not, by whether the role knows it
abbrev pub mark_of : Bool → Bool → Mark
mark_of written known = if written then known_if known else Unwritten

-- the mark after one more edge: a write makes earlier knowledge void
abbrev pub mark_after : Bool → Bool → Mark → Mark
mark_after true learns m = known_if learns
mark_after false learns Unwritten = Unwritten
mark_after false learns Unknown = known_if learns
mark_after false learns Known = Known

-- the node at which a walk from the start ends, and the mark of x for role r on it
abbrev pub state_after : Graph → ℕ → ℕ → List ℕ → WalkState
state_after g r x walk = record {
  node = end_of (shape g) 0 walk;
  mark = mark_of (list_any (λ e. is_in x (writes g e)) walk) (knows g r x walk);
}

-- the state after one more edge
abbrev pub state_along : Graph → ℕ → ℕ → ℕ → WalkState → WalkState
state_along g r x e s = record {
  node = target (shape g) e;
  mark = mark_after (is_in x (writes g e)) (learns g r x e) s.mark;
}

-- ---- the list of states

-- the state of the empty walk
abbrev pub begin : ReachedState
begin = record { state = record { node = 0; mark = Unwritten }; by = None }

-- the state at an index of the list
abbrev pub state_at : List ReachedState → ℕ → WalkState
state_at states i = (get_or states i begin).state

-- the edge by which the state at an index was reached, with the index that it came from
abbrev pub step_at : List ReachedState → ℕ → Option Arrival
step_at states i = (get_or states i begin).by

-- the list has the state
abbrev pub Has : List ReachedState → WalkState → Type 0
Has states s = (i : ℕ) × (i < length states) × (state_at states i ≡ s)

-- a state comes in at the end, unless the list has it
abbrev pub Enters : List ReachedState → ReachedState → List ReachedState → Type 0
Enters old reached new = (Has old reached.state × (new ≡ old)) ⊎ ((Has old reached.state → ⊥) × (new ≡ old ++ reached ∷ []))

-- the list goes on from an earlier one
abbrev pub Extends : List ReachedState → List ReachedState → Type 0
Extends old new = (more : List ReachedState) × (new ≡ old ++ more)

-- each state is at a node of the graph
abbrev pub AreThere : Graph → List ReachedState → Type 0
AreThere g states = (i : ℕ) → i < length states → (state_at states i).node < length g.nodes

-- the edge leads to the state at index i from an earlier one
pub record ComesBy (g : Graph) (r x : ℕ) (states : List ReachedState) (i : ℕ) (s : Arrival) : Type 0 where
  pub earlier : s.from < i
  pub there : s.label < length g.edges
  pub leaves : source (shape g) s.label ≡ (state_at states s.from).node
  pub state : state_at states i ≡ state_along g r x s.label (state_at states s.from)

-- each state of the list is that of the empty walk, or an edge leads to it from an earlier one
abbrev pub AreReached : Graph → ℕ → ℕ → List ReachedState → Type 0
AreReached g r x states = (i : ℕ) → i < length states → MatchOption (step_at states i) (state_at states i ≡ begin.state) (ComesBy g r x states i)

-- each state of the list is reached, and the state of each walk from the start is in the list
pub record IsClosure (g : Graph) (r x : ℕ) (states : List ReachedState) : Type 0 where
  pub reached : AreReached g r x states
  pub whole : (walk : List ℕ) → Walk (shape g) 0 walk → Has states (state_after g r x walk)

-- the labels by which the state at an index was reached
pub data IsPath (states : List ReachedState) : ℕ → List ℕ → Type 0 where
  Begins : {i : ℕ} → step_at states i ≡ None → IsPath states i []
  Goes : {i : ℕ} {s : Arrival} {labels : List ℕ} → step_at states i ≡ Some s → IsPath states s.from labels → IsPath states i (labels ++ s.label ∷ [])

-- the role knows the variable
abbrev pub is_known : Mark → Bool
is_known Unwritten = false
is_known Unknown = false
is_known Known = true

-- edge e leaves the state at index i, and after it role r doesn't know x
abbrev pub IsUnknownAfter : Graph → ℕ → ℕ → List ReachedState → ℕ → ℕ → Type 0
IsUnknownAfter g r x states e i = (i < length states) × ((state_at states i).node ≡ source (shape g) e) × (is_known (state_along g r x e (state_at states i)).mark ≡ false)

-- r sends along e, which reads x, and doesn't know x after the state at index i and this edge
abbrev pub IsUnknownRead : Graph → ℕ → ℕ → List ReachedState → ℕ → ℕ → Type 0
IsUnknownRead g r x states e i = (e < length g.edges) × (sender (shape g) e ≡ r) × IsTrue (is_in x (reads g e)) × IsUnknownAfter g r x states e i

-- such a read with the least label, or none if there is none
abbrev pub IsFirstUnknown : Graph → ℕ → ℕ → List ReachedState → Option UnknownRead → Type 0
IsFirstUnknown g r x states found =
    MatchOption found ((e i : ℕ) → IsUnknownRead g r x states e i → ⊥)
    (λ u. IsUnknownRead g r x states u.label u.index × ((e i : ℕ) → IsUnknownRead g r x states e i → u.label ≤ e))

-- ---- the table of indices

-- a number for each mark
abbrev pub rank_of : Mark → ℕ
rank_of Unwritten = 0
rank_of Unknown = 1
rank_of Known = 2

-- a number for each state
abbrev pub key_of : WalkState → ℕ
key_of s = 3 * s.node + rank_of s.mark

-- each state of the list has its index at its number in the table, and the table has no other indices
pub record IsTable (states : List ReachedState) (indices : List (Option ℕ)) : Type 0 where
  pub size : length indices ≡ 768
  pub within : (i : ℕ) → i < length states → (state_at states i).node < most_nodes
  pub noted : (i : ℕ) → i < length states → get_or indices (key_of (state_at states i)) None ≡ Some i
  pub right : (k : ℕ) → IfSome (get_or indices k None) (λ i. (i < length states) × (key_of (state_at states i) ≡ k))
  pub count : count_by is_some indices ≡ length states

-- each state but those of the start was reached from an earlier one
abbrev pub AreInOrder : List ReachedState → Type 0
AreInOrder states = (i : ℕ) → i < length states → IfSome (step_at states i) (λ s. s.from < i)
