-- Sessions with their casts, one after the other.
use Rattle.std.proofs.Common.{◌≡◌, ℕ, zero, suc, ◌+◌, List, [], ◌∷◌, ◌++◌, map, take, sym, ap, ◌∙◌, subst, arith}
use Rattle.std.specs.Prelude.{Some, slice_get}
use Rattle.std.specs.List.{AllByRecursion}

-- what is held of each one
pub held_at : {A : Type 0} (P : A → Type 0) (xs : List A) (i : ℕ) (x : A) → AllByRecursion P xs → slice_get xs i ≡ Some x → P x
held_at P [] i x a h = absurd (cc)
held_at P (y ∷ xs) zero x a h = let same : y ≡ x = cc in subst P same a.0
held_at P (y ∷ xs) (suc i) x a h = held_at P xs i x a.1 h

take_more : {A B : Type 0} (f : A → B) (xs : List A) (i : ℕ) (x : A) → slice_get xs i ≡ Some x → map f (take (suc i) xs) ≡ map f (take i xs) ++ f x ∷ []
take_more f [] i x h = absurd (cc)
take_more f (y ∷ xs) zero x h = let same : y ≡ x = cc in ap (λ z. f z ∷ []) same
take_more f (y ∷ xs) (suc i) x h = ap (λ zs. f y ∷ zs) (take_more f xs i x h)

-- with the next one
pub made_more : {A B : Type 0} (f : A → B) (xs : List A) (i : ℕ) (x : A) (found : List B) → slice_get xs i ≡ Some x → found ≡ map f (take i xs) → found ++ f x ∷ [] ≡ map f (take (i + 1) xs)
made_more f xs i x found h e = let k : suc i ≡ i + 1 = omega arith in ap (λ ys. ys ++ f x ∷ []) e ∙ sym (take_more f xs i x h) ∙ ap (λ n. map f (take n xs)) k
