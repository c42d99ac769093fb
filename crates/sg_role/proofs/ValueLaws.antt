-- Which values an edge takes, variable by variable, and the rows of a step.
use Rattle.std.proofs.Common.{◌≡◌, ℕ, zero, suc, ◌+◌, ◌-◌, ◌<◌, ◌≤◌, ◌==◌, ◌&&◌, ◌||◌, nat_lt, Bool, true, false, not, List, [], ◌∷◌, map, find, length, take, get_or, subst, refl, sym, ◌∙◌, ap, Some, None, IsTrue, arith, inl, inr, add-one}
use Rattle.std.specs.List.{list_any, list_all, AllByRecursion}
use Rattle.std.proofs.lemmas.Bool.{cases_Bool}
use Rattle.std.proofs.lemmas.Bool.Decides.{nat_tests}
use Rattle.std.proofs.lemmas.Bool.{and_parts, eqb-true, ne_eqb}
use Rattle.sg_model.specs.Last.{Map}
use Rattle.sg_model.specs.Lists.{range_from, is_in, keys_of, rises_from}
use Rattle.sg_model.specs.Values.{Value}
use Rattle.sg_protocol.specs.Acting.{is_bad, is_typed, is_out_of_order}
use Rattle.sg_protocol.specs.Graph.{Graph, writes, AreNumbers}
use Rattle.sg_protocol.proofs.Named.{out_of_order_in, untyped_in}
use Rattle.sg_role.specs.Stepping.{first_bad}

-- ---- the first of the numbers

pub first_here : (p : ℕ → Bool) (i : ℕ) → i < 256 → p i ≡ true → find p (range_from i (256 - i)) ≡ Some i
first_here p i l h = let e : 256 - i ≡ suc (255 - i) = omega (arith, l) in ap (λ k. find p (range_from i k)) e ∙ rw h refl

pub first_later : (p : ℕ → Bool) (i : ℕ) → i < 256 → p i ≡ false → find p (range_from i (256 - i)) ≡ find p (range_from (i + 1) (256 - (i + 1)))
first_later p i l h =
    let e : 256 - i ≡ suc (255 - i) = omega (arith, l) in
    let d : 255 - i ≡ 256 - (i + 1) = omega (arith, l) in
    ap (λ k. find p (range_from i k)) e ∙ rw h (ap (λ k. find p (range_from (suc i) k)) d ∙ ap (λ k. find p (range_from k (256 - (i + 1)))) (sym (add-one i)))

none_in : (p : ℕ → Bool) (i n : ℕ) → ((x : ℕ) → i ≤ x → x < i + n → p x ≡ false) → find p (range_from i n) ≡ None
none_in p i zero h = refl
none_in p i (suc n) h =
    let rest : find p (range_from (suc i) n) ≡ None = none_in p (suc i) n (λ x a b. h x (omega (arith, a)) (omega (arith, b))) in
    let here : p i ≡ false = h i (omega arith) (omega arith) in
    rw here rest

pub first_end : (p : ℕ → Bool) (i : ℕ) → ((x : ℕ) → i ≤ x → x < 256 → p x ≡ false) → find p (range_from i (256 - i)) ≡ None
first_end p i h = none_in p i (256 - i) (λ x a b. h x a (omega (arith, a, b)))

pub first_start : (g : Graph) (label : ℕ) (vs : Map Value) → find (is_bad g label vs) (range_from 0 (256 - 0)) ≡ first_bad g label vs
unfolding first_bad
first_start g label vs = refl

-- ---- one variable

pub bad_unwritten : (g : Graph) (label : ℕ) (vs : Map Value) (x : ℕ) → is_in x (writes g label) ≡ false → is_in x (keys_of vs) ≡ is_bad g label vs x
bad_unwritten g label vs x w = elim (cases_Bool (is_in x (keys_of vs))) [
  | inl k ↦ rw (w, k) refl
  | inr k ↦ rw (w, k, out_of_order_in x (keys_of vs) k, untyped_in g x vs k) refl
]

pub bad_written : (g : Graph) (label : ℕ) (vs : Map Value) (x : ℕ) → is_in x (writes g label) ≡ true →
    (not (is_in x (keys_of vs)) || (is_out_of_order x (keys_of vs) || list_any (λ (w : ℕ × Value). (w.0 == x) && not (is_typed g w)) vs)) ≡ is_bad g label vs x
bad_written g label vs x w = rw w (go (is_in x (keys_of vs)) (is_out_of_order x (keys_of vs)) (list_any (λ (w : ℕ × Value). (w.0 == x) && not (is_typed g w)) vs))
  where
    go : (k o t : Bool) → (not k || (o || t)) ≡ ((not ((true && k) || (false && not k)) || o) || t)
    go true o t = refl
    go false o t = refl

pub number_in : (n : ℕ) (ws : List ℕ) (x : ℕ) → AreNumbers n ws → is_in x ws ≡ true → x < n
number_in n ws x a h = below_all n ws x (second (rises_from 0 ws) (list_all (λ k. nat_lt k n) ws) a) h
  where
    second : (a b : Bool) → IsTrue (a && b) → b ≡ true
    second true true e = refl
    second true false e = absurd (cc)
    second false b e = absurd (cc)

    below_all : (n : ℕ) (ws : List ℕ) (x : ℕ) → list_all (λ k. nat_lt k n) ws ≡ true → is_in x ws ≡ true → x < n
    below_all n [] x a h = absurd (cc)
    below_all n (w ∷ ws) x a h = let p = and_parts (nat_lt w n) (list_all (λ k. nat_lt k n) ws) a in elim (cases_Bool (w == x)) [
      | inl q ↦ (let e = eqb-true w x q in let l = p.0 in grind (arith, nat_tests))
      | inr q ↦ below_all n ws x p.1 (ap (λ b. b || is_in x ws) (sym q) ∙ h)
    ]

not_given : (n : ℕ) (vs : Map Value) (x : ℕ) → list_all (λ (w : ℕ × Value). nat_lt w.0 n) vs ≡ true → n ≤ x → is_in x (keys_of vs) ≡ false
not_given n [] x a l = refl
not_given n (v ∷ vs) x a l =
    let p = and_parts (nat_lt v.0 n) (list_all (λ (w : ℕ × Value). nat_lt w.0 n) vs) a in
    let m : v.0 < n = grind (arith, nat_tests, p.0) in
    rw (ne_eqb v.0 x (λ q. absurd (omega (arith, l, m, q)))) (not_given n vs x p.1 l)

-- a variable that is neither written nor given is not bad
pub none_above : (g : Graph) (label n : ℕ) (vs : Map Value) (x : ℕ) → AreNumbers n (writes g label) → list_all (λ (w : ℕ × Value). nat_lt w.0 n) vs ≡ true → n ≤ x → is_bad g label vs x ≡ false
none_above g label n vs x a v l = sym (bad_unwritten g label vs x unwritten) ∙ not_given n vs x v l
  where
    unwritten : is_in x (writes g label) ≡ false
    unwritten = elim (cases_Bool (is_in x (writes g label))) [ inl e ↦ absurd (let m : x < n = number_in n (writes g label) x a e in omega (arith, l, m)) | inr e ↦ e ]

-- ---- what is said of each

pub all_suc : {A B : Type 0} (P : B → Type 0) (f : A → B) (xs : List A) (at : ℕ) (x : A) → at < length xs → x ≡ get_or xs at x → AllByRecursion P (map f (take at xs)) → P (f x) → AllByRecursion P (map f (take (suc at) xs))
all_suc P f [] at x l e a p = absurd (omega (arith, l))
all_suc P f (y ∷ ys) zero x l e a p = (subst (λ z. P (f z)) e p, tt)
all_suc P f (y ∷ ys) (suc at) x l e a p = (a.0, all_suc P f ys at x (omega (arith, l)) e a.1 p)

pub all_mapped : {A B : Type 0} (P : B → Type 0) (f : A → B) (xs : List A) (at : ℕ) (x : A) → at < length xs → x ≡ get_or xs at x → AllByRecursion P (map f (take at xs)) → P (f x) → AllByRecursion P (map f (take (at + 1) xs))
all_mapped P f xs at x l e a p = subst (λ n. AllByRecursion P (map f (take n xs))) (sym (add-one at)) (all_suc P f xs at x l e a p)

all_taken : {A : Type 0} (P : A → Type 0) (xs : List A) (at : ℕ) (d : A) → at < length xs → AllByRecursion P (take at xs) → P (get_or xs at d) → AllByRecursion P (take (suc at) xs)
all_taken P [] at d l a p = absurd (omega (arith, l))
all_taken P (y ∷ ys) zero d l a p = (p, tt)
all_taken P (y ∷ ys) (suc at) d l a p = (a.0, all_taken P ys at d (omega (arith, l)) a.1 p)

pub all_more : {A : Type 0} (P : A → Type 0) (xs : List A) (at : ℕ) (d : A) → at < length xs → AllByRecursion P (take at xs) → P (get_or xs at d) → AllByRecursion P (take (at + 1) xs)
all_more P xs at d l a p = subst (λ n. AllByRecursion P (take n xs)) (sym (add-one at)) (all_taken P xs at d l a p)
