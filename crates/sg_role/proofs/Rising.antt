-- Lists of numbers that rise are the same if they have the same members.
use Rattle.std.proofs.Common.{◌≡◌, ℕ, zero, suc, ◌+◌, ◌<◌, ◌≤◌, ◌==◌, Bool, true, false, ◌&&◌, ◌||◌, not, nat_lt, bytes_eq, List, [], ◌∷◌, filter, refl, sym, ap, subst, ◌∙◌, arith, inl, inr}
use Rattle.std.specs.List.{list_all}
use Rattle.std.proofs.lemmas.Bool.{and_parts, cases_Bool, eqb-true, ne_eqb}
use Rattle.std.proofs.lemmas.Bool.Decides.{nat_tests}
use Rattle.std.proofs.lemmas.Slice.Eq.{bytes_eq-Decides}
use Rattle.sg_model.specs.Lists.{is_in, below, range_from, rises_from}
use Rattle.sg_model.proofs.Numbers.{filter-range_from}
use Rattle.sg_model.proofs.Small.{and_false}
use Rattle.sg_protocol.specs.Graph.{AreNumbers}
use Rattle.sg_protocol.proofs.OneTable.{numbers_by_set}

pub and_both : (a b : Bool) → a ≡ true → b ≡ true → (a && b) ≡ true
and_both true b h k = k
and_both false b h k = h

at_least : (n k : ℕ) → not (nat_lt n k) ≡ true → k ≤ n
at_least n k h = elim (cases_Bool (nat_lt n k)) [ inl e ↦ absurd (let f : false ≡ true = rw e at h in cc) | inr e ↦ grind (arith, nat_tests) ]

is_least : (n k : ℕ) → k ≤ n → not (nat_lt n k) ≡ true
is_least n k h = elim (cases_Bool (nat_lt n k)) [ inl e ↦ absurd (let l : n < k = grind (arith, nat_tests) in omega (arith, l, h)) | inr e ↦ rw e refl ]

pub not_below : (least x : ℕ) (xs : List ℕ) → x < least → rises_from least xs ≡ true → is_in x xs ≡ false
not_below least x [] l h = refl
not_below least x (y ∷ ys) l h =
    let a = and_parts (not (nat_lt y least)) (rises_from (suc y) ys) h in
    let m : least ≤ y = at_least y least a.0 in
    rw (ne_eqb y x (λ q. absurd (omega (arith, l, m, q)))) (not_below (suc y) x ys (omega (arith, l, m)) a.1)

self_from : (k j : ℕ) (xs : List ℕ) → rises_from k xs ≡ true → list_all (λ x. nat_lt x (k + j)) xs ≡ true → filter (λ x. is_in x xs) (range_from k j) ≡ xs
self_from k zero [] r a = refl
self_from k zero (y ∷ ys) r a =
    let p = and_parts (not (nat_lt y k)) (rises_from (suc y) ys) r in
    let q = and_parts (nat_lt y (k + 0)) (list_all (λ x. nat_lt x (k + 0)) ys) a in
    let m : k ≤ y = at_least y k p.0 in
    let l : y < k + 0 = grind (arith, nat_tests, q.0) in
    absurd (omega (arith, m, l))
self_from k (suc j) [] r a = self_from (suc k) j [] refl refl
self_from k (suc j) (y ∷ ys) r a =
    let p = and_parts (not (nat_lt y k)) (rises_from (suc y) ys) r in
    let up : k + suc j ≡ suc k + j = omega arith in
    let a' : list_all (λ x. nat_lt x (suc k + j)) (y ∷ ys) ≡ true = ap (λ n. list_all (λ x. nat_lt x n) (y ∷ ys)) (sym up) ∙ a in
    let q = and_parts (nat_lt y (suc k + j)) (list_all (λ x. nat_lt x (suc k + j)) ys) a' in
    elim (cases_Bool (y == k)) [
      | inl e ↦ (
          let same : y ≡ k = eqb-true y k e in
          let skip : filter (λ x. is_in x (y ∷ ys)) (range_from (suc k) j) ≡ filter (λ x. is_in x ys) (range_from (suc k) j) =
          filter-range_from (λ x. is_in x (y ∷ ys)) (λ x. is_in x ys) (suc k) j (λ x b c. ap (λ z. z || is_in x ys) (ne_eqb y x (λ w. absurd (omega (arith, b, w, same))))) in
          let rest : filter (λ x. is_in x ys) (range_from (suc k) j) ≡ ys = self_from (suc k) j ys (ap (λ n. rises_from (suc n) ys) (sym same) ∙ p.1) q.1 in
          rw e (ap (λ z. z ∷ filter (λ x. is_in x (y ∷ ys)) (range_from (suc k) j)) (sym same) ∙ ap (λ l. y ∷ l) (skip ∙ rest)))
      | inr e ↦ (
          let m : k ≤ y = at_least y k p.0 in
          let higher : rises_from (suc k) (y ∷ ys) ≡ true = and_both (not (nat_lt y (suc k))) (rises_from (suc y) ys) (is_least y (suc k) (above y k m e)) p.1 in
          let out : is_in k (y ∷ ys) ≡ false = not_below (suc k) k (y ∷ ys) (omega arith) higher in
          skipped k j (y ∷ ys) out (self_from (suc k) j (y ∷ ys) higher a'))
    ]
  where
    above : (y k : ℕ) → k ≤ y → (y == k) ≡ false → suc k ≤ y
    above y k m e = grind (arith, nat_tests)

    skipped : (k j : ℕ) (xs : List ℕ) → is_in k xs ≡ false → filter (λ x. is_in x xs) (range_from (suc k) j) ≡ xs → filter (λ x. is_in x xs) (range_from k (suc j)) ≡ xs
    skipped k j xs o h = rw o h

pub numbers_self : (n : ℕ) (xs : List ℕ) → AreNumbers n xs → filter (λ x. is_in x xs) (below n) ≡ xs
numbers_self n xs a =
    let p = and_parts (rises_from 0 xs) (list_all (λ k. nat_lt k n) xs) a in
    let same : 0 + n ≡ n = omega arith in
    self_from 0 n xs p.0 (ap (λ m. list_all (λ k. nat_lt k m) xs) same ∙ p.1)

pub equal_rising : (n : ℕ) (xs ys : List ℕ) → AreNumbers n xs → AreNumbers n ys → ((x : ℕ) → x < n → is_in x xs ≡ is_in x ys) → bytes_eq xs ys ≡ true
equal_rising n xs ys a b e = (bytes_eq-Decides xs ys).1 (numbers_by_set n xs ys a b e)

-- ---- filters

pub in_filter : (p : ℕ → Bool) (xs : List ℕ) (t : ℕ) → is_in t (filter p xs) ≡ (is_in t xs && p t)
in_filter p [] t = refl
in_filter p (x ∷ xs) t = elim (cases_Bool (x == t)) [
  | inl e ↦ elim (cases_Bool (p x)) [
    | inl h ↦ rw (h, e) (sym (subst (λ z. p z ≡ true) (eqb-true x t e) h))
    | inr h ↦ (let k : p t ≡ false = subst (λ z. p z ≡ false) (eqb-true x t e) h in rw (h, e, k) (in_filter p xs t ∙ ap (λ b. is_in t xs && b) k ∙ and_false (is_in t xs)))
  ]
  | inr e ↦ elim (cases_Bool (p x)) [ inl h ↦ rw (h, e) (in_filter p xs t) | inr h ↦ rw (h, e) (in_filter p xs t) ]
]

lower : (l m : ℕ) (xs : List ℕ) → l ≤ m → rises_from m xs ≡ true → rises_from l xs ≡ true
lower l m [] h r = refl
lower l m (x ∷ xs) h r = let p = and_parts (not (nat_lt x m)) (rises_from (suc x) xs) r in let k : m ≤ x = at_least x m p.0 in and_both (not (nat_lt x l)) (rises_from (suc x) xs) (is_least x l (omega (arith, h, k))) p.1

filter_rises : (p : ℕ → Bool) (l : ℕ) (xs : List ℕ) → rises_from l xs ≡ true → rises_from l (filter p xs) ≡ true
filter_rises p l [] r = refl
filter_rises p l (x ∷ xs) r =
    let q = and_parts (not (nat_lt x l)) (rises_from (suc x) xs) r in
    let rest : rises_from (suc x) (filter p xs) ≡ true = filter_rises p (suc x) xs q.1 in
    let k : l ≤ x = at_least x l q.0 in
    elim (cases_Bool (p x)) [
      | inl e ↦ rw e (and_both (not (nat_lt x l)) (rises_from (suc x) (filter p xs)) q.0 rest)
      | inr e ↦ rw e (lower l (suc x) (filter p xs) (omega (arith, k)) rest)
    ]

filter_all : (p q : ℕ → Bool) (xs : List ℕ) → list_all q xs ≡ true → list_all q (filter p xs) ≡ true
filter_all p q [] a = refl
filter_all p q (x ∷ xs) a =
    let r = and_parts (q x) (list_all q xs) a in
    elim (cases_Bool (p x)) [ inl e ↦ rw e (and_both (q x) (list_all q (filter p xs)) r.0 (filter_all p q xs r.1)) | inr e ↦ rw e (filter_all p q xs r.1) ]

pub numbers_filter : (p : ℕ → Bool) (n : ℕ) (xs : List ℕ) → AreNumbers n xs → AreNumbers n (filter p xs)
numbers_filter p n xs a =
    let r = and_parts (rises_from 0 xs) (list_all (λ k. nat_lt k n) xs) a in
    and_both (rises_from 0 (filter p xs)) (list_all (λ k. nat_lt k n) (filter p xs)) (filter_rises p 0 xs r.0) (filter_all p (λ k. nat_lt k n) xs r.1)

-- the filters of numbers below n by tests that agree there
pub filter_numbers : (p q : ℕ → Bool) (n : ℕ) (xs : List ℕ) → list_all (λ k. nat_lt k n) xs ≡ true → ((x : ℕ) → x < n → p x ≡ q x) → filter p xs ≡ filter q xs
filter_numbers p q n [] a e = refl
filter_numbers p q n (x ∷ xs) a e =
    let r = and_parts (nat_lt x n) (list_all (λ k. nat_lt k n) xs) a in
    let here : p x ≡ q x = e x (grind (arith, nat_tests, r.0)) in
    let rest : filter p xs ≡ filter q xs = filter_numbers p q n xs r.1 e in
    elim (cases_Bool (q x)) [ inl h ↦ rw (here ∙ h, h) (ap (λ l. x ∷ l) rest) | inr h ↦ rw (here ∙ h, h) rest ]
