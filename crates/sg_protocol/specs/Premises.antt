-- The two assumptions of a run.
use Rattle.std.specs.Prelude.{◌≡◌, ℕ, ◌<◌, List, true, map, Contains, ◌++◌, flat_map}
use Rattle.sg_protocol.specs.Texts.{Hash, graph_text_of}
use Rattle.sg_protocol.specs.Notes.{Note}
use Rattle.sg_protocol.specs.Schedule.{Schedule, is_honest}
use Rattle.sg_protocol.specs.World.{Logged, World}

-- the note was made in a step before step k
abbrev pub MadeBefore : ℕ → Note → List Logged → Type 0
MadeBefore k n log = (l : Logged) × Contains log l × (l.number < k) × Contains l.notes.made n

-- what was found right under the key of two honest principals had been made: no tag of theirs was forged
abbrev pub Unforged : Schedule → World → Type 0
Unforged s w = (l : Logged) (n : Note) → Contains w.log l → Contains l.notes.found n → is_honest s n.one ≡ true → is_honest s n.two ≡ true → MadeBefore l.number n w.log

-- all texts that were hashed
abbrev pub hashed : Schedule → World → List (List ℕ)
hashed s w = map graph_text_of s.graphs ++ flat_map (λ l. l.notes.hashed) w.log

-- no two of the texts have the same hash
abbrev pub CollisionFree : Hash → List (List ℕ) → Type 0
CollisionFree sha texts = (a b : List ℕ) → Contains texts a → Contains texts b → sha a ≡ sha b → a ≡ b

-- no honest tag was forged and no two texts have the same hash
pub record Premises (sha : Hash) (s : Schedule) (w : World) : Type 0 where
  pub unforged : Unforged s w
  pub collision_free : CollisionFree sha (hashed s w)
