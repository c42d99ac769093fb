-- Sets whose numbers are there, as a variable and an edge need them.
use Rattle.std.proofs.Common.{◌≡◌, ℕ, zero, suc, ◌+◌, ◌<◌, ◌≤◌, ◌==◌, nat_le, nat_lt, Bool, true, false, ◌||◌, List, [], ◌∷◌, filter, length, refl, ◌∙◌, inl, inr, arith}
use Rattle.std.specs.List.{list_all}
use Rattle.std.proofs.lemmas.Bool.{eq-eqb, cases_Bool, and_parts}
use Rattle.std.proofs.lemmas.Bool.Decides.{nat_tests}
use Rattle.sg_base.specs.Sets.{with_member}
use Rattle.sg_base.proofs.SetLaws.{is_in-filter}
use Rattle.sg_model.specs.Lists.{is_in, rises_from, range_from}
use Rattle.sg_protocol.specs.Graph.{AreNumbers}

-- no numbers are there
pub AreNumbers-none : (n : ℕ) → AreNumbers n []
AreNumbers-none n = refl

-- numbers that pass a test rise still
pub rises_filter : (p : ℕ → Bool) (least a k : ℕ) → least ≤ a → rises_from least (filter p (range_from a k)) ≡ true
rises_filter p least a zero le = refl
rises_filter p least a (suc k) le =
    elim (cases_Bool (p a)) [
      | inl y ↦ (let up : nat_lt a least ≡ false = grind (arith, nat_tests) in rw y (rw up (rises_filter p (suc a) (suc a) k (omega arith))))
      | inr n ↦ rw n (rises_filter p least (suc a) k (omega arith))
    ]

-- numbers of which each that passes is below n
pub all_filter : (p : ℕ → Bool) (n a k : ℕ) → ((y : ℕ) → p y ≡ true → nat_lt y n ≡ true) → list_all (λ y. nat_lt y n) (filter p (range_from a k)) ≡ true
all_filter p n a zero h = refl
all_filter p n a (suc k) h = elim (cases_Bool (p a)) [ inl y ↦ rw y (rw (h a y) (all_filter p n (suc a) k h)) | inr z ↦ rw z (all_filter p n (suc a) k h) ]

-- each number of a list that are all below n is below n
below_of : (n y : ℕ) (xs : List ℕ) → list_all (λ k. nat_lt k n) xs ≡ true → is_in y xs ≡ true → nat_lt y n ≡ true
below_of n y [] h i = absurd (cc)
below_of n y (x ∷ xs) h i =
    let parts = and_parts (nat_lt x n) (list_all (λ k. nat_lt k n) xs) h in
    elim (cases_Bool (x == y)) [
      | inl e ↦ (let same : x ≡ y = grind (arith, nat_tests, e) in rw same at parts.0)
      | inr d ↦ below_of n y xs parts.1 (rw d at i)
    ]

-- each number of numbers that are there is below their count
pub number_below : (n x : ℕ) (xs : List ℕ) → AreNumbers n xs → is_in x xs ≡ true → x < n
number_below n x xs h i =
    let less : nat_lt x n ≡ true = below_of n x xs (and_parts (rises_from 0 xs) (list_all (λ k. nat_lt k n) xs) h).1 i in
    grind (arith, nat_tests, less)

-- numbers below a bound are numbers below each greater one
pub numbers_within : (n k : ℕ) (xs : List ℕ) → n ≤ k → AreNumbers n xs → AreNumbers k xs
numbers_within n k xs le h =
    let parts = and_parts (rises_from 0 xs) (list_all (λ x. nat_lt x n) xs) h in
    rw parts.0 (wider xs parts.1)
  where
    wider : (xs : List ℕ) → list_all (λ x. nat_lt x n) xs ≡ true → list_all (λ x. nat_lt x k) xs ≡ true
    wider [] h = refl
    wider (x ∷ xs) h =
        let parts = and_parts (nat_lt x n) (list_all (λ x. nat_lt x n) xs) h in
        let up : nat_lt x k ≡ true = (let a = parts.0 in grind (arith, nat_tests, a)) in
        rw up (wider xs parts.1)

-- with one number more that is there
pub AreNumbers-with_member : (width n x : ℕ) (xs : List ℕ) → AreNumbers n xs → x < n → AreNumbers n (with_member width xs x)
unfolding with_member
AreNumbers-with_member width n x xs h l =
    let all = (and_parts (rises_from 0 xs) (list_all (λ k. nat_lt k n) xs) h).1 in
    let p : ℕ → Bool = λ y. (y == x) || is_in y xs in
    let each : (y : ℕ) → p y ≡ true → nat_lt y n ≡ true = λ y e. either y e all in
    rw (rises_filter p 0 0 width (omega arith), all_filter p n 0 width each)
  where
    either : (y : ℕ) → ((y == x) || is_in y xs) ≡ true → list_all (λ k. nat_lt k n) xs ≡ true → nat_lt y n ≡ true
    either y e all =
        elim (cases_Bool (y == x)) [
          | inl s ↦ (let less : y < n = grind (arith, nat_tests, s) in grind (arith, nat_tests, less))
          | inr d ↦ below_of n y xs all (rw d at e)
        ]

-- a set with a number has some number
pub with_member-some : (width x : ℕ) (xs : List ℕ) → x < width → 0 < length (with_member width xs x)
unfolding with_member
with_member-some width x xs l =
    let p : ℕ → Bool = λ y. (y == x) || is_in y xs in
    let same : (x == x) ≡ true = eq-eqb x x refl in
    let low : nat_le 0 x ≡ true = grind (arith, nat_tests) in
    let high : nat_lt x (0 + width) ≡ true = grind (arith, nat_tests) in
    let there : is_in x (filter p (range_from 0 width)) ≡ true = is_in-filter p 0 width x ∙ rw (low, high, same) refl in
    some x (filter p (range_from 0 width)) there
  where
    some : (x : ℕ) (ys : List ℕ) → is_in x ys ≡ true → 0 < length ys
    some x [] h = absurd (cc)
    some x (y ∷ ys) h = omega arith
