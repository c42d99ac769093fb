-- Rising numbers, taken up to a bound that grows by one.
use Rattle.std.proofs.Common.{◌≡◌, ℕ, suc, ◌+◌, ◌<◌, ◌≤◌, ◌==◌, nat_lt, Bool, true, false, not, List, [], ◌∷◌, ◌++◌, filter, refl, ap, inl, inr, arith}
use Rattle.std.specs.List.{list_all}
use Rattle.std.proofs.lemmas.Bool.Decides.{nat_tests}
use Rattle.std.proofs.lemmas.Bool.{cases_Bool, not-true, and_parts}
use Rattle.sg_model.specs.Lists.{is_in, rises_from}
use Rattle.sg_model.proofs.Numbers.{absent}

-- none of the numbers from least on is below least
none_below : (least b : ℕ) → b ≤ least → (xs : List ℕ) → rises_from least xs ≡ true → filter (λ x. nat_lt x b) xs ≡ []
none_below least b le [] h = refl
none_below least b le (x ∷ xs) h =
    let parts = and_parts (not (nat_lt x least)) (rises_from (suc x) xs) h in
    let here = not-true (nat_lt x least) parts.0 in
    let out : nat_lt x b ≡ false = grind (arith, nat_tests, here) in
    let up : b ≤ suc x = grind (arith, nat_tests, here) in
    rw out (none_below (suc x) b up xs parts.1)

-- a number that comes in, or none
abbrev pub one_if : Bool → ℕ → List ℕ
one_if true i = i ∷ []
one_if false i = []

-- with a bound that is one more, the bound's number comes in if it is one of them
pub below_more : (least i : ℕ) (xs : List ℕ) → rises_from least xs ≡ true → filter (λ x. nat_lt x (i + 1)) xs ≡ filter (λ x. nat_lt x i) xs ++ one_if (is_in i xs) i
below_more least i [] h = refl
below_more least i (x ∷ xs) h =
    let parts = and_parts (not (nat_lt x least)) (rises_from (suc x) xs) h in
    elim (cases_Bool (nat_lt x i)) [
      | inl y ↦
          (let in' : nat_lt x (i + 1) ≡ true = grind (arith, nat_tests, y) in
          let other : (x == i) ≡ false = grind (arith, nat_tests, y) in
          rw (in', y, other) (ap (λ ys. x ∷ ys) (below_more (suc x) i xs parts.1)))
      | inr n ↦
          (elim (cases_Bool (x == i)) [
            | inl e ↦
                (let in' : nat_lt x (i + 1) ≡ true = grind (arith, nat_tests, e) in
                let same : x ≡ i = grind (arith, nat_tests, e) in
                let up : i + 1 ≤ suc x = grind (arith, nat_tests, e) in
                let up' : i ≤ suc x = grind (arith, nat_tests, e) in
                rw (in', n, e, none_below (suc x) (i + 1) up xs parts.1, none_below (suc x) i up' xs parts.1, same) refl)
            | inr d ↦
                (let out : nat_lt x (i + 1) ≡ false = grind (arith, nat_tests, n, d) in
                let up : i + 1 ≤ suc x = grind (arith, nat_tests, n, d) in
                let up' : i ≤ suc x = grind (arith, nat_tests, n, d) in
                let less : i < suc x = grind (arith, nat_tests, n, d) in
                rw (out, n, d, none_below (suc x) (i + 1) up xs parts.1, none_below (suc x) i up' xs parts.1, absent (suc x) i less xs parts.1) refl)
          ])
    ]

-- no number is below 0
pub below_zero : (xs : List ℕ) → filter (λ x. nat_lt x 0) xs ≡ []
below_zero [] = refl
below_zero (x ∷ xs) = let out : nat_lt x 0 ≡ false = grind (arith, nat_tests) in rw out (below_zero xs)

-- the numbers that are all below n, taken up to n, are all of them
pub below_all : (n : ℕ) (xs : List ℕ) → list_all (λ x. nat_lt x n) xs ≡ true → filter (λ x. nat_lt x n) xs ≡ xs
below_all n [] h = refl
below_all n (x ∷ xs) h =
    let parts = and_parts (nat_lt x n) (list_all (λ x. nat_lt x n) xs) h in
    rw parts.0 (ap (λ ys. x ∷ ys) (below_all n xs parts.1))
