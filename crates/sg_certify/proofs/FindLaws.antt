-- The first element that passes a test, found one after another.
use Rattle.std.proofs.Common.{◌≡◌, ℕ, suc, ◌+◌, ◌<◌, Bool, true, false, List, [], ◌∷◌, ◌++◌, length, take, drop, get_or, find, if◌then◌else◌, Some, None, sym, ap, ◌∙◌, take-append-drop, drop-cons}
use Rattle.std.specs.Option.{option_or}
use Rattle.std.proofs.lemmas.List.{take_more}
use Rattle.std.proofs.lemmas.List.Folds.{find-append}

-- none before it passes, and it does
pub find_at : {A : Type 0} (p : A → Bool) (xs : List A) (i : ℕ) (d : A) → i < length xs → find p (take i xs) ≡ None → p (get_or xs i d) ≡ true → find p xs ≡ Some (get_or xs i d)
find_at p xs i d lt none passes =
    ap (find p) (sym (take-append-drop i xs) ∙ ap (λ l. take i xs ++ l) (drop-cons xs i d lt))
    ∙ find-append p (take i xs) (get_or xs i d ∷ drop (suc i) xs)
    ∙ ap (λ o. option_or o (find p (get_or xs i d ∷ drop (suc i) xs))) none
    ∙ ap (λ b. if b then Some (get_or xs i d) else find p (drop (suc i) xs)) passes

-- none before it passes, and it does not
pub find_past : {A : Type 0} (p : A → Bool) (xs : List A) (i : ℕ) (d : A) → i < length xs → find p (take i xs) ≡ None → p (get_or xs i d) ≡ false → find p (take (i + 1) xs) ≡ None
find_past p xs i d lt none fails =
    ap (find p) (take_more xs i d lt)
    ∙ find-append p (take i xs) (get_or xs i d ∷ [])
    ∙ ap (λ o. option_or o (find p (get_or xs i d ∷ []))) none
    ∙ ap (λ b. if b then Some (get_or xs i d) else None) fails
