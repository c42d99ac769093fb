-- Texts taken and written piece after piece.
use Rattle.std.specs.Prelude.{Result, Ok, Err, OnOk}
use Rattle.std.proofs.Common.{◌≡◌, ap, ◌∙◌, ◌+◌, ◌-◌, ℕ, List, take, drop, length, ◌++◌, append_assoc}
use Rattle.std.proofs.Math.Seq.{take-add}
use Rattle.std.proofs.lemmas.List.{take_rest}

-- what is taken of the rest goes on from what was taken before
pub append-take-rest : {A : Type 0} (before xs : List A) (at n : ℕ)
    → (before ++ take at xs) ++ take n (take (length xs - at) (drop at xs)) ≡ before ++ take (at + n) xs
append-take-rest before xs at n =
    rw (take_rest xs at, take-add at n xs) (append_assoc before (take at xs) (take n (drop at xs)))

-- two pieces, and then a third
pub third : {A E X : Type 0} (r : Result A E) (new two one old a b c : List X) → one ≡ old ++ a → two ≡ one ++ b → OnOk r (new ≡ two ++ c) → OnOk r (new ≡ old ++ ((a ++ b) ++ c))
third (Ok x) new two one old a b c e f h =
    h ∙ ap (λ l. l ++ c) (f ∙ ap (λ l. l ++ b) e ∙ append_assoc old a b) ∙ append_assoc old (a ++ b) c
third (Err x) new two one old a b c e f h = tt
