-- The first forged note, over what each step noted.
use Rattle.std.specs.Prelude.{◌≡◌, ℕ, suc, Bool, not, ◌&&◌, List, [], ◌∷◌, ◌++◌, length, map, find, Option, None, option_map}
use Rattle.std.specs.List.{list_any}
use Rattle.std.specs.Option.{option_or}
use Rattle.sg_model.specs.Lists.{has_text, range_from}
use Rattle.sg_protocol.specs.Notes.{Note, Notes}
use Rattle.sg_protocol.specs.Broken.{same_note}
use Rattle.sg_protocol.specs.World.{World}

-- the world's steps, numbered from 1 on, noted these
pub record IsRecord (w : World) (noted : List Notes) : Type 0 where
  pub notes : map (λ l. l.notes) w.log ≡ noted
  pub numbers : map (λ l. l.number) w.log ≡ range_from 1 (length noted)

-- the note is of two honest principals, and not among those that were made
abbrev pub is_unmade : List (List ℕ) → List Note → Note → Bool
is_unmade honest made n = has_text n.one honest && has_text n.two honest && not (list_any (same_note n) made)

-- the first note found of two honest principals that had not been made before, with its step. The first of these steps is step k
abbrev pub forged_from : List (List ℕ) → ℕ → List Note → List Notes → Option (ℕ × Note)
forged_from honest k made [] = None
forged_from honest k made (n ∷ ns) = option_or (option_map (λ x. (k, x)) (find (is_unmade honest made) n.found)) (forged_from honest (suc k) (made ++ n.made) ns)
