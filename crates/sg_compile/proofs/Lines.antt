-- Numbers taken in order, those that pass a test, and what is written for each.
use Rattle.std.proofs.Common.{◌≡◌, ℕ, ◌+◌, Bool, true, false, List, [], ◌∷◌, ◌++◌, map, filter, take, if◌then◌else◌, refl, ap, ◌∙◌, append_assoc, append-nil}
use Rattle.std.specs.List.{flat_map}
use Rattle.std.specs.Prelude.{Some, slice_get}
use Rattle.std.proofs.lemmas.List.{map-append, take_more}
use Rattle.std.proofs.lemmas.Option.{slice_get_within, get_or_from_slice_get}
use Rattle.std.proofs.lemmas.Grind.{flat_map-append}
use Rattle.sg_model.specs.Lists.{below}
use Rattle.sg_model.proofs.Numbers.{below-suc}

-- a number, if it passes
abbrev pub one_if : Bool → ℕ → List ℕ
one_if true i = i ∷ []
one_if false i = []

with_first : (b : Bool) (x : ℕ) (ys zs ws : List ℕ) → zs ≡ ys ++ ws → (if b then x ∷ zs else zs) ≡ (if b then x ∷ ys else ys) ++ ws
with_first true x ys zs ws h = ap (λ zs. x ∷ zs) h
with_first false x ys zs ws h = h

filter_more : (p : ℕ → Bool) (xs : List ℕ) (i : ℕ) → filter p (xs ++ i ∷ []) ≡ filter p xs ++ one_if (p i) i
filter_more p [] i = by (p i)
  where
    by : (b : Bool) → (if b then i ∷ [] else []) ≡ one_if b i
    by true = refl
    by false = refl
filter_more p (x ∷ xs) i = with_first (p x) x (filter p xs) (filter p (xs ++ i ∷ [])) (one_if (p i) i) (filter_more p xs i)

-- of one number more, that number comes in if it passes
pub passing_more : (p : ℕ → Bool) (i : ℕ) → filter p (below (i + 1)) ≡ filter p (below i) ++ one_if (p i) i
passing_more p i = ap (filter p) (below-suc i) ∙ filter_more p (below i) i

-- what is written for the names of the numbers that pass, with one that passes
pub written_more : (put : List ℕ → List ℕ) (name : ℕ → List ℕ) (p : ℕ → Bool) (i : ℕ) (start now next : List ℕ) → p i ≡ true
    → now ≡ start ++ flat_map put (map name (filter p (below i))) → next ≡ now ++ put (name i)
    → next ≡ start ++ flat_map put (map name (filter p (below (i + 1))))
written_more put name p i start now next pass before more =
    let taken : filter p (below (i + 1)) ≡ filter p (below i) ++ i ∷ [] = passing_more p i ∙ rw pass refl in
    let one : flat_map put (name i ∷ []) ≡ put (name i) = append-nil (put (name i)) in
    more ∙ rw (before, append_assoc, taken, map-append, flat_map-append, one)

-- and with one that does not
pub written_same : (put : List ℕ → List ℕ) (name : ℕ → List ℕ) (p : ℕ → Bool) (i : ℕ) (start now : List ℕ) → p i ≡ false
    → now ≡ start ++ flat_map put (map name (filter p (below i))) → now ≡ start ++ flat_map put (map name (filter p (below (i + 1))))
written_same put name p i start now miss before =
    let taken : filter p (below (i + 1)) ≡ filter p (below i) = passing_more p i ∙ rw (miss, append-nil) in
    before ∙ rw taken

-- an element more of a list
pub taken_more : {A : Type 0} (xs : List A) (i : ℕ) (x : A) → slice_get xs i ≡ Some x → take (i + 1) xs ≡ take i xs ++ x ∷ []
taken_more xs i x h = take_more xs i x (slice_get_within xs i x h) ∙ ap (λ y. take i xs ++ y ∷ []) (get_or_from_slice_get xs i x x h)

-- what is written for the elements of a list, with one more
pub listed_more : {A : Type 0} (put : List ℕ → List ℕ) (text : A → List ℕ) (xs : List A) (i : ℕ) (x : A) (start now next : List ℕ) → slice_get xs i ≡ Some x
    → now ≡ start ++ flat_map put (map text (take i xs)) → next ≡ now ++ put (text x)
    → next ≡ start ++ flat_map put (map text (take (i + 1) xs))
listed_more put text xs i x start now next h before more =
    let one : flat_map put (text x ∷ []) ≡ put (text x) = append-nil (put (text x)) in
    more ∙ rw (before, append_assoc, taken_more xs i x h, map-append, flat_map-append, one)
