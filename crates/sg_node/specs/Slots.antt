-- The table of a node's sessions: a slot for each join, empty if the session is over.
use Rattle.std.specs.Prelude.{ℕ, ◌<◌, ◌==◌, Bool, true, false, ◌&&◌, not, bytes_eq, nat_lt, if◌then◌else◌, List, [], ◌∷◌, ◌++◌, length, Option, None, Some, option_map, suc, ◌≡◌}
use Rattle.std.specs.List.{AllByRecursion}
use Rattle.sg_protocol.specs.Representation.{Held}
use Rattle.sg_protocol.specs.Frame.{Frame}
use Rattle.sg_role.specs.Accepting.{Acceptance, goes_on, state_after}
use Rattle.sg_role.specs.Model.{RoleState}
use Rattle.sg_role.specs.declared.sent.Sent.{Sent}
use Rattle.sg_role.specs.declared.sent.Sent.TheVariants as Sends
use Rattle.sg_node.specs.declared.sessions.Live.{Live}
use Rattle.sg_node.specs.declared.sessions.Live.TheVariants.{AtTurn, Waiting}

-- a pair of session and role, and its session if it is live
abbrev pub Slot : Type 0
Slot = (List ℕ × ℕ) × Option Live

-- the slots in the order of joining, and how many more need no memory
pub record Table : Type 0 where
  pub slots : List Slot
  pub spare : ℕ

-- the state of a live session
abbrev pub state_in : Live → RoleState
state_in (AtTurn s) = s
state_in (Waiting s) = s

-- what is held in a slot
abbrev pub held_at : Option Live → List Held
held_at None = []
held_at (Some l) = (state_in l).held ∷ []

-- what is held of the live sessions, in the order of joining
abbrev pub held_in : List Slot → List Held
held_in [] = []
held_in (s ∷ ss) = held_at s.1 ++ held_in ss

-- a session is live there; if only turns are looked for, it is at its turn
abbrev pub is_live : Bool → Option Live → Bool
is_live only_turns None = false
is_live only_turns (Some (AtTurn s)) = true
is_live only_turns (Some (Waiting s)) = not only_turns

-- so it is, and the slot is of the session with the sid
abbrev pub is_of : Bool → List ℕ → Slot → Bool
is_of only_turns sid s = is_live only_turns s.1 && bytes_eq (s.0).0 sid

-- so it is, and the slot is of the role
abbrev pub is_of_role : Bool → List ℕ → ℕ → Slot → Bool
is_of_role only_turns sid r s = is_of only_turns sid s && ((s.0).1 == r)

-- its frames have this version
abbrev pub has_version : ℕ → Option Live → Bool
has_version v None = false
has_version v (Some l) = (state_in l).held.cast.version == v

-- so they have, and the slot is of the session with the sid and of the role
abbrev pub is_of_version : ℕ → List ℕ → ℕ → Slot → Bool
is_of_version v sid r s = has_version v s.1 && bytes_eq (s.0).0 sid && ((s.0).1 == r)

-- a session is live there for which a frame is, by its sid, its receiver and its version
abbrev pub is_for : Frame → Slot → Bool
is_for f s = is_of_version f.version f.sid f.receiver s

-- the count is that of the live sessions, and each role is below the bound
pub record HoldsTable (slots : List Slot) (live bound : ℕ) : Type 0 where
  pub count : live ≡ length (held_in slots)
  pub roles : AllByRecursion (λ (s : Slot). (s.0).1 < bound) slots

-- the lesser of two slots
abbrev pub earlier_of : Option ℕ → Option ℕ → Option ℕ
earlier_of None b = b
earlier_of (Some a) None = Some a
earlier_of (Some a) (Some b) = if nat_lt a b then Some a else Some b

-- what a role leaves that sent a step: it waits, unless it has ended
abbrev pub left_by : Sent → Option Live
left_by (Sends.Waiting a e f) = Some (Waiting a)
left_by (Sends.Ended d e f) = None

-- what a role leaves that takes a frame: it is at its turn, unless no edge leaves the place
abbrev pub left_after : Acceptance → Option Live
left_after a = if goes_on a.program.graph a.after.kept.place then Some (AtTurn (state_after a)) else None

-- a slot for what is live
abbrev pub slot_of : List ℕ × ℕ → Option Live → List Slot
slot_of k None = []
slot_of k (Some l) = (k, Some l) ∷ []

-- the first slot at which an element passes
abbrev pub first_index : {A : Type 0} → (A → Bool) → List A → Option ℕ
first_index p [] = None
first_index p (x ∷ xs) = if p x then Some 0 else option_map suc (first_index p xs)
