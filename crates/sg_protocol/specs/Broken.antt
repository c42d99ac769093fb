-- The first break of each assumption of a run.
use Rattle.std.specs.Prelude.{◌≡◌, ◌≢◌, ℕ, Bool, true, not, ◌&&◌, nat_lt, List, [], ◌∷◌, ◌++◌, map, flat_map, find, bytes_eq, Option, Some, None, option_map, All, ◌↔◌}
use Rattle.std.specs.List.{list_any}
use Rattle.std.specs.Option.{option_or}
use Rattle.sg_protocol.specs.Texts.{Hash}
use Rattle.sg_protocol.specs.Notes.{Note}
use Rattle.sg_protocol.specs.Schedule.{Schedule, is_honest}
use Rattle.sg_protocol.specs.World.{Logged, World}
use Rattle.sg_protocol.specs.Premises.{MadeBefore, Unforged, CollisionFree}

-- ---- a tag that nobody made

-- both notes are of the same principals and text
abbrev pub same_note : Note → Note → Bool
same_note m n = bytes_eq m.one n.one && bytes_eq m.two n.two && bytes_eq m.text n.text

-- the note was made in a step before step k
abbrev pub was_made_before : ℕ → Note → List Logged → Bool
was_made_before k n log = list_any (λ l. nat_lt l.number k && list_any (same_note n) l.notes.made) log

-- the note, found in step k, is of two honest principals and had not been made
abbrev pub is_forged : Schedule → World → ℕ × Note → Bool
is_forged s w (k, n) = is_honest s n.one && is_honest s n.two && not (was_made_before k n w.log)

-- what was found right, with the numbers of the steps, in order
abbrev pub found_notes : List Logged → List (ℕ × Note)
found_notes log = flat_map (λ l. map (λ n. (l.number, n)) l.notes.found) log

-- the first found note of two honest principals that had not been made, with its step
abbrev pub first_forged : Schedule → World → Option (ℕ × Note)
first_forged s w = find (is_forged s w) (found_notes w.log)

-- the note, found in step k, breaks the first assumption
abbrev pub IsForged : Schedule → World → ℕ → Note → Type 0
IsForged s w k n = (is_honest s n.one ≡ true) × (is_honest s n.two ≡ true) × (MadeBefore k n w.log → ⊥)

-- the note was found in this step and breaks the first assumption, and none that was found before it does
pub record IsFirstForged (s : Schedule) (w : World) (step : ℕ) (note : Note) : Type 0 where
  pub before : List (ℕ × Note)
  pub after : List (ℕ × Note)
  pub is_found : found_notes w.log ≡ before ++ (step, note) ∷ after
  pub forged : IsForged s w step note
  pub first : All (λ (x : ℕ × Note). IsForged s w x.0 x.1 → ⊥) before

-- There is none exactly if no tag was forged, and otherwise it is the first in the order in which they were found
abbrev pub ForgedIsFirst : Type 0
ForgedIsFirst = (s : Schedule) (w : World) → ((first_forged s w ≡ None) ↔ Unforged s w) × ((step : ℕ) (note : Note) → first_forged s w ≡ Some (step, note) → IsFirstForged s w step note)

-- ---- two texts with one hash

-- the texts differ and have the same hash
abbrev pub collide : Hash → List ℕ → List ℕ → Bool
collide sha a b = bytes_eq (sha a) (sha b) && not (bytes_eq a b)

-- the first of the later texts that has a collision with one before it, with the first such one
abbrev pub collision_after : Hash → List (List ℕ) → List (List ℕ) → Option (List ℕ × List ℕ)
collision_after sha before [] = None
collision_after sha before (b ∷ bs) = option_or (option_map (λ a. (a, b)) (find (λ a. collide sha a b) before)) (collision_after sha (before ++ b ∷ []) bs)

-- of the pairs of different texts with the same hash, those whose later text stands first, and of these the one whose earlier text stands first
abbrev pub first_collision : Hash → List (List ℕ) → Option (List ℕ × List ℕ)
first_collision sha texts = collision_after sha [] texts

-- the texts differ and have the same hash, up to the later one no two do, and no text before the earlier one does with the later one
pub record IsFirstCollision (sha : Hash) (texts : List (List ℕ)) (one other : List ℕ) : Type 0 where
  pub before : List (List ℕ)
  pub between : List (List ℕ)
  pub after : List (List ℕ)
  pub parts : texts ≡ (before ++ one ∷ between) ++ other ∷ after
  pub same : sha one ≡ sha other
  pub differ : one ≢ other
  pub later_first : CollisionFree sha (before ++ one ∷ between)
  pub earlier_first : All (λ a. sha a ≡ sha other → a ≡ other) before

-- There is none exactly if no two texts have the same hash, and otherwise it is the first in the stated order
abbrev pub CollisionIsFirst : Hash → Type 0
CollisionIsFirst sha = (texts : List (List ℕ)) → ((first_collision sha texts ≡ None) ↔ CollisionFree sha texts) × ((one other : List ℕ) → first_collision sha texts ≡ Some (one, other) → IsFirstCollision sha texts one other)
