-- The walk of a session, made move by move.
use Rattle.std.specs.Prelude.{◌≡◌, ℕ, ◌+◌, Bool, if◌then◌else◌, List, [], ◌∷◌, ◌++◌, map, Option, Some, None, ⊤}
use Rattle.std.specs.List.{list_any}
use Rattle.std.specs.Option.{option_or}
use Rattle.sg_model.specs.Lists.{value_at}
use Rattle.sg_law.specs.Last.{Entry}
use Rattle.sg_law.specs.Graph.{Shape, sender, writes}
use Rattle.sg_law.specs.Accept.{TimedLabel}
use Rattle.sg_law.specs.Run.{Machine, turn_time, happens, start}
use Rattle.sg_law.specs.Values.{Value, Opening, Code, Commit, Move, Stored, Sight, Followed, stored_in, values_of, transition_of}
use Rattle.sg_law.specs.Values.Move.{Writes, Takes}

-- ---- steps of roles that are not honest

-- the steps after the last one that an honest role sent
abbrev pub after_honest : Shape → (ℕ → Bool) → List ℕ → List ℕ
after_honest g honest [] = []
after_honest g honest (e ∷ es) = if list_any (λ f. honest (sender g f)) (e ∷ es) then after_honest g honest es else e ∷ es

-- steps of which nothing is known
abbrev pub unknown : Shape → List ℕ → List Stored
unknown g es = map (λ e. record { step = record { label = e; time = 0 }; values = map (λ x. (x, None)) (writes g e) }) es

-- ---- values that are learnt

-- the value that openings give a variable
abbrev pub found : List Opening → ℕ → Option Value
found os x = value_at (map (λ (o : Opening). (o.variable, o.value)) os) x

-- hidden values are filled in
abbrev pub fill : (ℕ → Option Value) → List (ℕ × Option Value) → List (ℕ × Option Value)
fill found ws = map (λ (w : ℕ × Option Value). (w.0, option_or w.1 (found w.0))) ws

-- if nothing is written later
abbrev pub unless_later : Option (Option Value) → Option Value → Option Value
unless_later None f = f
unless_later (Some r) f = None

-- what is hidden at the last write of a variable is filled in
abbrev pub reveal : (ℕ → Option Value) → List Stored → List Stored
reveal found [] = []
reveal found (s ∷ ss) = record { step = s.step; values = fill (λ x. unless_later (stored_in ss x) (found x)) s.values } ∷ reveal found ss

-- ---- the walk

-- The walk after a move in this state of the machine. Who sends adds its step. Who takes items and is shown these steps adds those after the last honest one, hidden, and fills in what it opens
abbrev pub walk_after_move : Shape → (ℕ → Bool) → Machine → List Stored → Move → List ℕ → List Stored
walk_after_move g honest w steps (Writes h e os) since = steps ++ record { step = record { label = e; time = turn_time (w.at h).turn + 1 }; values = values_of os } ∷ []
walk_after_move g honest w steps (Takes h n items os) since = reveal (found os) (steps ++ unknown g (after_honest g honest since))

-- the walk after these moves, each with the steps that its role is shown
abbrev pub walk_after_moves : Shape → (ℕ → Bool) → Machine → List Stored → List (Move × List ℕ) → List Stored
walk_after_moves g honest w steps [] = steps
walk_after_moves g honest w steps (m ∷ ms) = walk_after_moves g honest (happens w (transition_of m.0)) (walk_after_move g honest w steps m.0 m.1) ms

-- the moves alone
abbrev pub moves_of : List (Move × List ℕ) → List Move
moves_of ms = map (λ (m : Move × List ℕ). m.0) ms

-- the steps are those since the role's own last one, on some walk that shows it these items
abbrev pub Shows : (g : Shape) (h : ℕ) (own : Option TimedLabel) (n : ℕ) (items : List (Entry TimedLabel Code)) → List ℕ → Type 0
Shows g h own n items since = (v : Sight g h own n items) × (v.since ≡ since)

-- who takes items is shown them by the steps beside its move
abbrev pub ShownBy : Shape → Machine → Move → List ℕ → Type 0
ShownBy g w (Writes h e os) since = ⊤
ShownBy g w (Takes h n items os) since = Shows g h (w.at h).own n items since

-- each taking of items is by steps that show them
abbrev pub AllShownBy : Shape → Machine → List (Move × List ℕ) → Type 0
AllShownBy g w [] = ⊤
AllShownBy g w (m ∷ ms) = ShownBy g w m.0 m.1 × AllShownBy g (happens w (transition_of m.0)) ms

-- the walk that is made so, move by move, is one that the honest roles follow
abbrev pub IsFollowedAsMade : (g : Shape) (honest : ℕ → Bool) (commit : Commit) → List (Move × List ℕ) → Type 0
IsFollowedAsMade g honest commit ms = (f : Followed g honest commit (moves_of ms)) × (f.steps ≡ walk_after_moves g honest (start g) [] ms)
