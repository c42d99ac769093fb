-- Lists by indices.
use Rattle.std.proofs.Common.{◌≡◌, ℕ, ◌+◌, ◌<◌, List, [], ◌∷◌, ◌++◌, length, get_or, take, ◌∙◌, append-nil, append_assoc}
use Rattle.std.specs.List.{flat_map}
use Rattle.std.proofs.lemmas.List.{take_more}
use Rattle.std.proofs.lemmas.Grind.{flat_map-append}

-- the piece of one element more
pub flat_map-more : {A : Type 0} (f : A → List ℕ) (xs : List A) (i : ℕ) (d : A) (prefix now next : List ℕ) → i < length xs
    → now ≡ prefix ++ flat_map f (take i xs) → next ≡ now ++ f (get_or xs i d) → next ≡ prefix ++ flat_map f (take (i + 1) xs)
flat_map-more f xs i d prefix now next l before more =
    let one : flat_map f (get_or xs i d ∷ []) ≡ f (get_or xs i d) = append-nil (f (get_or xs i d)) in
    more ∙ rw (before, append_assoc, take_more xs i d l, flat_map-append, one)
