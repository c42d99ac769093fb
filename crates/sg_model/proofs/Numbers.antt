-- Ranges of numbers, lists of numbers that rise, and which numbers stand in a list.
use Rattle.std.proofs.Common.{◌≡◌, ℕ, zero, suc, ◌+◌, ◌<◌, ◌≤◌, ◌==◌, nat_lt, Bool, true, false, not, ◌||◌, List, [], ◌∷◌, ◌++◌, filter, map, length, get_or, refl, sym, ap, ◌∙◌, inl, inr, arith, add-zero, zero-add, add-one, append-nil, subst, None}
use Rattle.std.specs.List.{AllByRecursion}
use Rattle.std.proofs.lemmas.Bool.{cases_Bool, eqb-true, not-true, and_parts}
use Rattle.std.proofs.lemmas.Bool.Decides.{nat_tests}
use Rattle.std.proofs.lemmas.List.{map-append}
use Rattle.std.proofs.lemmas.List.Elements.{filter-append}
use Rattle.sg_model.specs.Lists.{range_from, below, is_in, rises_from, keys_of, value_at}
use Rattle.sg_model.specs.Last.{Map}
use Rattle.sg_model.proofs.Small.{or_false, or_assoc}

-- a range with one number more
pub range_from-suc : (a k : ℕ) → range_from a (suc k) ≡ range_from a k ++ (a + k) ∷ []
range_from-suc a zero = rw (add-zero a)
range_from-suc a (suc k) =
    let rest = range_from-suc (suc a) k in
    let same : suc a + k ≡ a + suc k = omega arith in
    rw (rest, same)

-- the numbers below one more
pub below-suc : (n : ℕ) → below (n + 1) ≡ below n ++ n ∷ []
below-suc n = rw (add-one, range_from-suc 0 n, zero-add)

-- the number at an index of a range
pub range_from-at : (a k i d : ℕ) → i < k → get_or (range_from a k) i d ≡ a + i
range_from-at a zero i d h = absurd (omega arith)
range_from-at a (suc k) zero d h = sym (add-zero a)
range_from-at a (suc k) (suc i) d h = range_from-at (suc a) k i d (omega arith) ∙ omega arith

-- the number at an index below n
pub below-at : (n i d : ℕ) → i < n → get_or (below n) i d ≡ i
below-at n i d h = range_from-at 0 n i d h ∙ zero-add i

-- a range of k numbers has k
pub length-range_from : (a k : ℕ) → length (range_from a k) ≡ k
length-range_from a zero = refl
length-range_from a (suc k) = ap suc (length-range_from (suc a) k)

-- what is given for each number below one more
pub map_below_more : {A : Type 0} (f : ℕ → A) (i : ℕ) → map f (below (i + 1)) ≡ map f (below i) ++ f i ∷ []
map_below_more f i = ap (map f) (below-suc i) ∙ map-append f (below i) (i ∷ [])

-- a number more that passes, or not
pub filter_below_in : (p : ℕ → Bool) (i : ℕ) → p i ≡ true → filter p (below (i + 1)) ≡ filter p (below i) ++ i ∷ []
filter_below_in p i h = ap (filter p) (below-suc i) ∙ filter-append p (below i) (i ∷ []) ∙ rw h refl

pub filter_below_out : (p : ℕ → Bool) (i : ℕ) → p i ≡ false → filter p (below (i + 1)) ≡ filter p (below i)
filter_below_out p i h = ap (filter p) (below-suc i) ∙ filter-append p (below i) (i ∷ []) ∙ rw h (append-nil (filter p (below i)))

-- a test of the numbers of a range may be replaced by one that agrees there
pub filter-range_from : (p q : ℕ → Bool) (i k : ℕ) → ((x : ℕ) → i ≤ x → x < i + k → p x ≡ q x) → filter p (range_from i k) ≡ filter q (range_from i k)
filter-range_from p q i zero h = refl
filter-range_from p q i (suc k) h =
    let here : p i ≡ q i = h i (omega arith) (omega arith) in
    let rest : filter p (range_from (suc i) k) ≡ filter q (range_from (suc i) k) = filter-range_from p q (suc i) k (λ x a b. h x (omega arith) (omega arith)) in
    rw (here, rest)

-- a number is in two lists joined exactly if it is in one of them
pub is_in-append : (x : ℕ) (xs ys : List ℕ) → is_in x (xs ++ ys) ≡ (is_in x xs || is_in x ys)
is_in-append x [] ys = refl
is_in-append x (y ∷ xs) ys = ap (λ b. (y == x) || b) (is_in-append x xs ys) ∙ or_assoc (y == x) (is_in x xs) (is_in x ys)

-- a list with one number more
pub is_in-more : (x y : ℕ) (xs : List ℕ) → is_in x (xs ++ y ∷ []) ≡ (is_in x xs || (y == x))
is_in-more x y xs = is_in-append x xs (y ∷ []) ∙ ap (λ b. is_in x xs || b) (or_false (y == x))

-- a number of a list of numbers below n is below n
pub below_in : (n x : ℕ) (xs : List ℕ) → AllByRecursion (λ y. y < n) xs → is_in x xs ≡ true → x < n
below_in n x [] a h = absurd (cc)
below_in n x (y ∷ ys) a h = elim (cases_Bool (y == x)) [
  | inl e ↦ subst (λ z. z < n) (eqb-true y x e) a.0
  | inr e ↦ below_in n x ys a.1 (rw e at h)
]

-- no number below least is one of those that rise from least on
pub absent : (least i : ℕ) → i < least → (xs : List ℕ) → rises_from least xs ≡ true → is_in i xs ≡ false
absent least i le [] h = refl
absent least i le (x ∷ xs) h =
    let parts = and_parts (not (nat_lt x least)) (rises_from (suc x) xs) h in
    let here = not-true (nat_lt x least) parts.0 in
    let out : (x == i) ≡ false = grind (arith, nat_tests, here) in
    let up : i < suc x = grind (arith, nat_tests, here) in
    rw out (absent (suc x) i up xs parts.1)

-- a name below those that rise is none of them
pub low_none : {A : Type 0} (m : Map A) (x n : ℕ) → x < n → rises_from n (keys_of m) ≡ true → value_at m x ≡ None
low_none [] x n l r = refl
low_none (w ∷ ws) x n l r =
    elim (cases_Bool (nat_lt w.0 n)) [
      | inl e ↦ (let f = rw e at r in absurd (cc))
      | inr e ↦ elim (cases_Bool (w.0 == x)) [
        | inl d ↦ absurd (let s : w.0 ≡ x = eqb-true w.0 x d in grind (arith, nat_tests))
        | inr d ↦ rw d (low_none ws x (suc w.0) (grind (arith, nat_tests)) (rw e at r))
      ]
    ]
