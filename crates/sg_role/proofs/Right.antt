-- What it says that a tag is right.
use Rattle.std.proofs.Common.{◌≡◌, ℕ, Bool, true, false, bytes_eq, List, refl, sym, IsTrue, ◌↔◌}
use Rattle.std.proofs.lemmas.Slice.Eq.{bytes_eq-Decides}

same_bool : (a b : Bool) → (a ≡ true → b ≡ true) → (b ≡ true → a ≡ true) → a ≡ b
same_bool true true f g = refl
same_bool true false f g = sym (f refl)
same_bool false true f g = g refl
same_bool false false f g = refl

pub by_bytes : (r : Bool) (xs ys : List ℕ) → (IsTrue r ↔ (xs ≡ ys)) → r ≡ bytes_eq xs ys
by_bytes r xs ys e = same_bool r (bytes_eq xs ys) (λ h. (bytes_eq-Decides xs ys).1 (e.0 h)) (λ h. e.1 ((bytes_eq-Decides xs ys).0 h))

pub by_turned : (r : Bool) (xs ys : List ℕ) → (IsTrue r ↔ (xs ≡ ys)) → r ≡ bytes_eq ys xs
by_turned r xs ys e = same_bool r (bytes_eq ys xs) (λ h. (bytes_eq-Decides ys xs).1 (sym (e.0 h))) (λ h. e.1 (sym ((bytes_eq-Decides ys xs).0 h)))
