-- The parts between marks, the first one taken off.
use Rattle.std.proofs.Common.{◌≡◌, ℕ, ◌+◌, ◌<◌, ◌==◌, true, false, List, [], ◌∷◌, length, take, drop, get_or, map, Option, None, Some, arith, refl, ◌∙◌, ap}
use Rattle.std.specs.List.{slice_split, position_or_len}
use Rattle.std.proofs.lemmas.List.{get_or_default}
use Rattle.std.proofs.lemmas.List.Sums.{position_or_len_is}
use Rattle.std.proofs.lemmas.List.Splits.{slice_split_first, slice_split_none, length-slice_split}
use Rattle.sg_base.specs.Words.{number}
use Rattle.sg_keys.specs.Words.{four, address_of}

-- the first mark stands at i
pub split_found : (c : ℕ) (xs : List ℕ) (i : ℕ) → i < length xs → ((k : ℕ) → k < i → (get_or xs k 0 == c) ≡ false) → (get_or xs i 0 == c) ≡ true
    → slice_split (λ b. b == c) xs ≡ take i xs ∷ slice_split (λ b. b == c) (drop (i + 1) xs)
split_found c xs i h before here =
    let at : position_or_len (λ b. b == c) xs ≡ i = position_or_len_is (λ b. b == c) xs i 0 (omega arith) before (λ _. here) in
    rw at at (slice_split_first (λ b. b == c) xs 0 (rw at h))

-- there is no mark
pub split_none : (c : ℕ) (xs : List ℕ) → ((k : ℕ) → k < length xs → (get_or xs k 0 == c) ≡ false) → slice_split (λ b. b == c) xs ≡ xs ∷ []
split_none c xs none = slice_split_none (λ b. b == c) xs (λ k d h. ap (λ b. b == c) (get_or_default xs k d 0 h) ∙ none k h)

-- there is a first part
some_part : (c : ℕ) (xs : List ℕ) → (y : List ℕ) × ((ys : List (List ℕ)) × (slice_split (λ b. b == c) xs ≡ y ∷ ys))
some_part c xs = by (slice_split (λ b. b == c) xs) refl
  where
    by : (l : List (List ℕ)) → slice_split (λ b. b == c) xs ≡ l → (y : List ℕ) × ((ys : List (List ℕ)) × (slice_split (λ b. b == c) xs ≡ y ∷ ys))
    by [] e = absurd (omega (arith, length-slice_split (λ b. b == c) xs, ap length e))
    by (y ∷ ys) e = (y, (ys, e))

fifth : (a b c d : Option ℕ) (x : Option ℕ) (xs : List (Option ℕ)) → None ≡ four (a ∷ b ∷ c ∷ d ∷ x ∷ xs)
fifth None b c d x xs = refl
fifth (Some a) None c d x xs = refl
fifth (Some a) (Some b) None d x xs = refl
fifth (Some a) (Some b) (Some c) None x xs = refl
fifth (Some a) (Some b) (Some c) (Some d) x xs = refl

-- a fifth part is one too many
pub too_many : (a b c d word : List ℕ) → None ≡ four (map (number 255) (a ∷ b ∷ c ∷ d ∷ slice_split (λ b. b == 46) word))
too_many a b c d word =
    let more = some_part 46 word in
    rw more.1.1 (fifth _ _ _ _ _ _)

-- a third part is one too many
pub too_many_parts : (a b word : List ℕ) → None ≡ address_of (a ∷ b ∷ slice_split (λ b. b == 58) word)
too_many_parts a b word =
    let more = some_part 58 word in
    rw more.1.1 refl
