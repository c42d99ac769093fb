-- The last element of a list.
use Rattle.std.proofs.Common.{◌≡◌, suc, ◌-◌, List, [], ◌∷◌, length, slice_get, refl, ◌∙◌, ap, arith}
use Rattle.sg_model.specs.Last.{last}

-- it stands at the last index
pub last_got : {A : Type 0} (xs : List A) → slice_get xs (length xs - 1) ≡ last xs
last_got [] = refl
last_got (x ∷ []) = refl
last_got (x ∷ y ∷ xs) = (let e : length (x ∷ y ∷ xs) - 1 ≡ suc (length (y ∷ xs) - 1) = omega arith in ap (slice_get (x ∷ y ∷ xs)) e) ∙ last_got (y ∷ xs)
