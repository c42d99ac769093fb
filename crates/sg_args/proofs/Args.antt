-- Whether one of some arguments passes a test, taken one after another.
use Rattle.std.proofs.Common.{◌≡◌, ℕ, ◌+◌, ◌<◌, Bool, true, false, List, [], ◌∷◌, map, take, length, get_or, refl, sym, ap, ◌∙◌}
use Rattle.std.specs.List.{list_any}
use Rattle.std.proofs.lemmas.List.{take_more, map-append}
use Rattle.std.proofs.lemmas.List.Folds.{list_any_at, list_any-append}
use Rattle.clap.proofs.WalkLemmas.{list_any-map}

-- one that passes
pub passes_at : {X Y : Type 0} (p : Y → Bool) (f : X → Y) (xs : List X) (i : ℕ) (d : X) → i < length xs → p (f (get_or xs i d)) ≡ true → list_any p (map f xs) ≡ true
passes_at p f xs i d l h = sym (list_any-map p f xs) ∙ list_any_at (λ y. p (f y)) xs i d l h

-- one more that doesn't
pub none_more : {X Y : Type 0} (p : Y → Bool) (f : X → Y) (xs : List X) (i : ℕ) (d : X) → i < length xs → list_any p (map f (take i xs)) ≡ false → p (f (get_or xs i d)) ≡ false
    → list_any p (map f (take (i + 1) xs)) ≡ false
none_more p f xs i d l before h =
    ap (λ ys. list_any p (map f ys)) (take_more xs i d l) ∙ ap (list_any p) (map-append f (take i xs) (get_or xs i d ∷ [])) ∙ list_any-append p (map f (take i xs)) (f (get_or xs i d) ∷ []) ∙ rw (before, h) refl
