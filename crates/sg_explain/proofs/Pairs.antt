-- Lists of pairs, cut at an index.
use Rattle.std.proofs.Common.{◌≡◌, ℕ, zero, suc, ◌+◌, ◌<◌, ◌≤◌, ◌==◌, nat_lt, true, false, not, List, [], ◌∷◌, map, filter, drop, length, get_or, refl, ap, sym, ◌∙◌, subst, inl, inr, arith, add-one, ◌↔◌}
use Rattle.std.specs.List.{list_all}
use Rattle.std.proofs.lemmas.Bool.Decides.{nat_tests}
use Rattle.std.proofs.lemmas.Bool.{cases_Bool, not-true, and_parts}
use Rattle.sg_model.specs.Lists.{is_in, rises_from}
use Rattle.sg_model.proofs.Numbers.{absent}
use Rattle.sg_model.proofs.Small.{drop_end}
use Rattle.sg_protocol.specs.Graph.{AreNumbers}
use Rattle.sg_explain.specs.Matching.{is_next}

-- ---- cutting

-- if nothing stands behind an index, the list is at its end
pub end_drop : {A : Type 0} (xs : List A) (i : ℕ) → drop i xs ≡ [] → length xs ≤ i
end_drop [] i h = omega arith
end_drop (x ∷ xs) zero h = absurd (cc)
end_drop (x ∷ xs) (suc i) h = let r = end_drop xs i h in omega arith

pub cons_head : {A : Type 0} {x y : A} {xs ys : List A} → x ∷ xs ≡ y ∷ ys → x ≡ y
cons_head {x = x} e = ap (λ l. get_or l 0 x) e

pub cons_tail : {A : Type 0} {x y : A} {xs ys : List A} → x ∷ xs ≡ y ∷ ys → xs ≡ ys
cons_tail e = ap (λ l. drop 1 l) e

-- two lists with equal heads are equal exactly if their tails are
pub cons_same : {A : Type 0} {x y : A} {xs ys : List A} → x ≡ y → (x ∷ xs ≡ y ∷ ys) ↔ (xs ≡ ys)
cons_same {y = y} {xs = xs} e = (λ h. cons_tail h, λ t. ap (λ z. z ∷ xs) e ∙ ap (λ l. y ∷ l) t)

-- ---- the numbers of a set, from a bound on

abbrev pub from : ℕ → List ℕ → List ℕ
from n xs = filter (λ x. not (nat_lt x n)) xs

pub from_zero : (xs : List ℕ) → from 0 xs ≡ xs
from_zero [] = refl
from_zero (x ∷ xs) = let out : nat_lt x 0 ≡ false = grind (arith, nat_tests) in rw out (ap (λ ys. x ∷ ys) (from_zero xs))

pub from_end : (n : ℕ) (xs : List ℕ) → list_all (λ x. nat_lt x n) xs ≡ true → from n xs ≡ []
from_end n [] h = refl
from_end n (x ∷ xs) h = let parts = and_parts (nat_lt x n) (list_all (λ x. nat_lt x n) xs) h in rw parts.0 (from_end n xs parts.1)

-- rising numbers from least on are all from each lower bound on
from_least : (least n : ℕ) (xs : List ℕ) → n ≤ least → rises_from least xs ≡ true → from n xs ≡ xs
from_least least n [] le h = refl
from_least least n (x ∷ xs) le h =
    let parts = and_parts (not (nat_lt x least)) (rises_from (suc x) xs) h in
    let here = not-true (nat_lt x least) parts.0 in
    let out : nat_lt x n ≡ false = grind (arith, nat_tests, here) in
    let up : n ≤ suc x = grind (arith, nat_tests, here) in
    rw out (ap (λ ys. x ∷ ys) (from_least (suc x) n xs up parts.1))

from_yes : (least i : ℕ) (xs : List ℕ) → rises_from least xs ≡ true → is_in i xs ≡ true → from i xs ≡ i ∷ from (suc i) xs
from_yes least i [] h t = absurd (cc)
from_yes least i (x ∷ xs) h t =
    let parts = and_parts (not (nat_lt x least)) (rises_from (suc x) xs) h in
    elim (cases_Bool (x == i)) [
      | inl e ↦
          (let same : x ≡ i = grind (arith, nat_tests, e) in
          let a : nat_lt x i ≡ false = grind (arith, nat_tests, e) in
          let b : nat_lt x (suc i) ≡ true = grind (arith, nat_tests, e) in
          let l : i ≤ suc x = grind (arith, nat_tests, e) in
          let l' : suc i ≤ suc x = grind (arith, nat_tests, e) in
          rw (a, b, from_least (suc x) i xs l parts.1, from_least (suc x) (suc i) xs l' parts.1) (ap (λ z. z ∷ xs) same))
      | inr d ↦
          (let t' : is_in i xs ≡ true = rw d at t in
          elim (cases_Bool (nat_lt x i)) [
            | inl y ↦
                (let b : nat_lt x (suc i) ≡ true = grind (arith, nat_tests, y) in
                rw (y, b) (from_yes (suc x) i xs parts.1 t'))
            | inr n ↦
                (let up : i < suc x = grind (arith, nat_tests, n, d) in
                let no = absent (suc x) i up xs parts.1 in
                absurd (cc))
          ])
    ]

from_no : (i : ℕ) (xs : List ℕ) → is_in i xs ≡ false → from i xs ≡ from (suc i) xs
from_no i [] t = refl
from_no i (x ∷ xs) t =
    elim (cases_Bool (x == i)) [
      | inl e ↦ absurd (let z : true ≡ false = rw e at t in cc)
      | inr d ↦
          (let t' : is_in i xs ≡ false = rw d at t in
          elim (cases_Bool (nat_lt x i)) [
            | inl y ↦ (let b : nat_lt x (suc i) ≡ true = grind (arith, nat_tests, y) in rw (y, b) (from_no i xs t'))
            | inr n ↦ (let b : nat_lt x (suc i) ≡ false = grind (arith, nat_tests, n, d) in rw (n, b) (ap (λ ys. x ∷ ys) (from_no i xs t')))
          ])
    ]

-- ---- the variables of pairs against a set

-- the loop over the numbers has found the set's numbers below a bound in front
pub record Keyed {A : Type 0} (pairs : List (ℕ × A)) (vars : List ℕ) (index number : ℕ) : Type 0 where
  pub within : index ≤ length pairs
  pub rest : (map (λ w. w.0) pairs ≡ vars) ↔ (map (λ w. w.0) (drop index pairs) ≡ from number vars)

pub Keyed-init : {A : Type 0} (pairs : List (ℕ × A)) (vars : List ℕ) → Keyed pairs vars 0 0
Keyed-init pairs vars = record { within = omega arith; rest = (λ e. e ∙ sym (from_zero vars), λ e. e ∙ from_zero vars) }

-- a number that isn't in the set is passed
pub Keyed-pass : {A : Type 0} (pairs : List (ℕ × A)) (vars : List ℕ) (p i : ℕ) → is_in i vars ≡ false → Keyed pairs vars p i → Keyed pairs vars p (i + 1)
Keyed-pass pairs vars p i t k =
    let same : from i vars ≡ from (i + 1) vars = rw add-one (from_no i vars t) in
    record { within = k.within; rest = (λ e. k.rest.0 e ∙ same, λ e. k.rest.1 (e ∙ sym same)) }

-- a number of the set that isn't the next variable: the variables are not the set
pub Keyed-other : {A : Type 0} (n : ℕ) (pairs : List (ℕ × A)) (vars : List ℕ) (p i : ℕ) → AreNumbers n vars → is_in i vars ≡ true
    → is_next (map (λ w. w.0) (drop p pairs)) i ≡ false → Keyed pairs vars p i → map (λ w. w.0) pairs ≡ vars → ⊥
Keyed-other n pairs vars p i a t o k e =
    let rises = (and_parts (rises_from 0 vars) (list_all (λ x. nat_lt x n) vars) a).0 in
    let same : map (λ w. w.0) (drop p pairs) ≡ i ∷ from (suc i) vars = k.rest.0 e ∙ from_yes 0 i vars rises t in
    let o' : is_next (i ∷ from (suc i) vars) i ≡ false = subst (λ l. is_next l i ≡ false) same o in
    let y : (i == i) ≡ true = grind (arith, nat_tests) in
    let z : true ≡ false = sym y ∙ o' in absurd (cc)

-- a number of the set that is the next variable
pub Keyed-step : {A : Type 0} (n : ℕ) (pairs : List (ℕ × A)) (vars : List ℕ) (p i : ℕ) → AreNumbers n vars → is_in i vars ≡ true → p < length pairs
    → is_next (map (λ w. w.0) (drop p pairs)) i ≡ true → Keyed pairs vars p i → Keyed pairs vars (p + 1) (i + 1)
Keyed-step {A} n pairs vars p i a t l o k =
    let rises = (and_parts (rises_from 0 vars) (list_all (λ x. nat_lt x n) vars) a).0 in
    let yes = from_yes 0 i vars rises t in
    let cut : (w : ℕ × A) × (drop p pairs ≡ w ∷ drop (suc p) pairs) = some pairs p l in
    let o' : ((cut.0).0 == i) ≡ true = subst (λ l. is_next (map (λ w. w.0) l) i ≡ true) cut.1 o in
    let same : (cut.0).0 ≡ i = grind (arith, nat_tests, o') in
    let keys : map (λ (w : ℕ × A). w.0) (drop p pairs) ≡ (cut.0).0 ∷ map (λ (w : ℕ × A). w.0) (drop (suc p) pairs) = ap (λ l. map (λ (w : ℕ × A). w.0) l) cut.1 in
    let one = cons_same {xs = map (λ (w : ℕ × A). w.0) (drop (suc p) pairs)} {ys = from (suc i) vars} same in
    let inner : Keyed pairs vars (suc p) (suc i) = record {
      within = omega arith;
      rest = (λ e. one.0 (sym keys ∙ k.rest.0 e ∙ yes), λ e. k.rest.1 (keys ∙ one.1 e ∙ sym yes));
    } in
    let ep : suc p ≡ p + 1 = omega arith in
    let ei : suc i ≡ i + 1 = omega arith in
    subst (λ q. Keyed pairs vars q (i + 1)) ep (subst (λ q. Keyed pairs vars (suc p) q) ei inner)
  where
    some : {A : Type 0} (xs : List A) (p : ℕ) → p < length xs → (w : A) × (drop p xs ≡ w ∷ drop (suc p) xs)
    some [] p l = absurd (omega arith)
    some (x ∷ xs) zero l = (x, refl)
    some (x ∷ xs) (suc p) l = some xs p (omega arith)

-- behind all numbers of the set nothing more is to stand
pub Keyed-end : {A : Type 0} (n : ℕ) (pairs : List (ℕ × A)) (vars : List ℕ) (p : ℕ) → AreNumbers n vars → Keyed pairs vars p n
    → (p ≡ length pairs) ↔ (map (λ w. w.0) pairs ≡ vars)
Keyed-end {A} n pairs vars p a k =
    let none = from_end n vars (and_parts (rises_from 0 vars) (list_all (λ x. nat_lt x n) vars) a).1 in (
      λ e. (let d : drop p pairs ≡ [] = drop_end pairs p (omega arith) in k.rest.1 (ap (λ l. map (λ (w : ℕ × A). w.0) l) d ∙ sym none)),
      λ e. (let d : length pairs ≤ p = end_drop pairs p (empty (drop p pairs) (k.rest.0 e ∙ none)) in let w = k.within in omega arith),
    )
  where
    empty : {A : Type 0} (xs : List (ℕ × A)) → map (λ w. w.0) xs ≡ [] → xs ≡ []
    empty [] e = refl
    empty (x ∷ xs) e = absurd (cc)
