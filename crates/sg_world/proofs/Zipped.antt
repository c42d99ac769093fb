-- Two lists in step, element beside element.
use Rattle.std.proofs.Common.{◌≡◌, ℕ, zero, suc, List, [], ◌∷◌, ◌++◌, length, Some, slice_get, refl, ap, subst}
use Rattle.std.specs.List.{AllZip}

-- they are as long
pub zip_length : {A B : Type 0} (R : A → B → Type 0) (xs : List A) (ys : List B) → AllZip R xs ys → length xs ≡ length ys
zip_length R [] [] h = refl
zip_length R [] (y ∷ ys) h = absurd h
zip_length R (x ∷ xs) [] h = absurd h
zip_length R (x ∷ xs) (y ∷ ys) h = ap suc (zip_length R xs ys h.1)

-- the elements at an index stand beside each other
pub zip_at : {A B : Type 0} (R : A → B → Type 0) (xs : List A) (ys : List B) (i : ℕ) (x : A) (y : B) → AllZip R xs ys → slice_get xs i ≡ Some x → slice_get ys i ≡ Some y → R x y
zip_at R [] [] i x y h at at' = absurd (cc)
zip_at R [] (v ∷ ys) i x y h at at' = absurd h
zip_at R (u ∷ xs) [] i x y h at at' = absurd h
zip_at R (u ∷ xs) (v ∷ ys) zero x y h at at' = (let one : u ≡ x = cc in let two : v ≡ y = cc in subst (λ z. R z y) one (subst (R u) two h.0))
zip_at R (u ∷ xs) (v ∷ ys) (suc i) x y h at at' = zip_at R xs ys i x y h.1 at at'

-- one more of each
pub zip_more : {A B : Type 0} (R : A → B → Type 0) (xs : List A) (ys : List B) (x : A) (y : B) → AllZip R xs ys → R x y → AllZip R (xs ++ x ∷ []) (ys ++ y ∷ [])
zip_more R [] [] x y h one = (one, tt)
zip_more R [] (v ∷ ys) x y h one = absurd h
zip_more R (u ∷ xs) [] x y h one = absurd h
zip_more R (u ∷ xs) (v ∷ ys) x y h one = (h.0, zip_more R xs ys x y h.1 one)
