-- What is shown and kept, item by item.
use Rattle.std.proofs.Common.{◌≡◌, ℕ, zero, suc, ◌+◌, ◌-◌, length-drop, slice_set, slice_get, if◌then◌else◌, ◌<◌, ◌≤◌, ◌==◌, ◌||◌, Bool, true, false, List, [], ◌∷◌, length, drop, take, get_or, refl, sym, ◌∙◌, ap, Option, Some, None, arith, inl, inr, add-one}
use Rattle.std.specs.List.{list_any}
use Rattle.std.proofs.lemmas.Bool.{eqb-true, eq-eqb, ne_eqb, or_parts}
use Rattle.std.proofs.lemmas.List.{same_lists}
use Rattle.sg_model.proofs.Small.{map_same, some_same, same_at, length_map}
use Rattle.sg_model.specs.Values.{Opening}
use Rattle.sg_protocol.proofs.Following.{get_below}
use Rattle.sg_protocol.specs.Session.{opening_in}
use Rattle.sg_role.proofs.Translated.{set_map}
use Rattle.sg_role.specs.Stepping.{openings_after}
use Rattle.std.specs.Option.{option_or}
use Rattle.std.proofs.lemmas.Bool.{cases_Bool}
use Rattle.sg_model.specs.Last.{has, after_last}
use Rattle.sg_model.specs.Lists.{below}
use Rattle.sg_model.proofs.Numbers.{length-range_from}
use Rattle.sg_protocol.specs.Frame.{Item}
use Rattle.sg_role.proofs.Lists.{take_over}

-- ---- after the last item of a role

pub after_none : (xs : List Item) (k : ℕ) → has (λ (i : Item). i.role) k xs ≡ false → xs ≡ after_last (λ (i : Item). i.role) k xs
after_none [] k h = refl
after_none (y ∷ ys) k h = let p = or_parts (y.role == k) (has (λ (i : Item). i.role) k ys) h in rw (p.1, p.0) refl

-- if the role has an item at the front or later, the front one doesn't come after the last
pub after_step : (x : Item) (rest : List Item) (k : ℕ) → has (λ (i : Item). i.role) k (x ∷ rest) ≡ true → after_last (λ (i : Item). i.role) k (x ∷ rest) ≡ after_last (λ (i : Item). i.role) k rest
after_step x rest k h = elim (cases_Bool (has (λ (i : Item). i.role) k rest)) [
  | inl q ↦ rw q refl
  | inr q ↦ (let r : (x.role == k) ≡ true = prefix (x.role == k) (has (λ (i : Item). i.role) k rest) h q in rw (q, r) (after_none rest k q))
]
  where
    prefix : (a b : Bool) → (a || b) ≡ true → b ≡ false → a ≡ true
    prefix true b h q = refl
    prefix false b h q = absurd (let z : false ≡ true = sym q ∙ h in cc)

after_suc : (xs : List Item) (k at : ℕ) → at < length xs → has (λ (i : Item). i.role) k (drop at xs) ≡ true → after_last (λ (i : Item). i.role) k (drop (suc at) xs) ≡ after_last (λ (i : Item). i.role) k (drop at xs)
after_suc [] k at l h = absurd (omega (arith, l))
after_suc (x ∷ xs) k zero l h = sym (after_step x xs k h)
after_suc (x ∷ xs) k (suc at) l h = after_suc xs k at (omega (arith, l)) h

pub all_rest : {A : Type 0} (xs : List A) (at : ℕ) → take (length xs - at) (drop at xs) ≡ drop at xs
all_rest xs at = take_over (drop at xs) (length xs - at) (omega (arith, length-drop at xs))

pub after_at : (xs : List Item) (k at : ℕ) → at < length xs → has (λ (i : Item). i.role) k (drop at xs) ≡ true → after_last (λ (i : Item). i.role) k (drop (at + 1) xs) ≡ after_last (λ (i : Item). i.role) k (drop at xs)
after_at xs k at l h = ap (λ n. after_last (λ (i : Item). i.role) k (drop n xs)) (add-one at) ∙ after_suc xs k at l h

-- ---- openings that are taken over

pub set_beyond : {A : Type 0} (xs : List A) (k : ℕ) (v : A) → length xs ≤ k → xs ≡ slice_set xs k v
set_beyond [] k v l = refl
set_beyond (x ∷ xs) zero v l = absurd (omega (arith, l))
set_beyond (x ∷ xs) (suc k) v l = ap (λ z. x ∷ z) (set_beyond xs k v (omega (arith, l)))

-- the openings, of which none was written
pub all_kept : (xs : List (Option Opening)) → xs ≡ openings_after (length xs) xs []
all_kept xs = sym (same_lists (openings_after (length xs) xs []) xs count (λ k d h.
    let l : k < length xs = omega (arith, h, count) in
    get_below (λ x. get_or xs x None) d (length xs) k l ∙ same_at xs k None d l))
  where
    count : length (openings_after (length xs) xs []) ≡ length xs
    count = length_map (λ x. get_or xs x None) (below (length xs)) ∙ length-range_from 0 (length xs)

-- one more that was written before those
pub taken_more : (n : ℕ) (old : List (Option Opening)) (o : Opening) (os : List Opening) → slice_set (openings_after n old os) o.variable (Some o) ≡ openings_after n old (o ∷ os)
taken_more n old o os = set_map (λ x. option_or (opening_in os x) (get_or old x None)) 0 n o.variable (Some o)
    ∙ map_same (λ x. if x == 0 + o.variable then Some o else option_or (opening_in os x) (get_or old x None)) (λ x. option_or (opening_in (o ∷ os) x) (get_or old x None)) (below n) here
  where
    here : (x : ℕ) → (if x == 0 + o.variable then Some o else option_or (opening_in os x) (get_or old x None)) ≡ option_or (opening_in (o ∷ os) x) (get_or old x None)
    here x = elim (cases_Bool (o.variable == x)) [
      | inl e ↦ (let q : (x == 0 + o.variable) ≡ true = eq-eqb x (0 + o.variable) (let d = eqb-true o.variable x e in omega (arith, d)) in rw (q, e) refl)
      | inr e ↦ (let q : (x == 0 + o.variable) ≡ false = ne_eqb x (0 + o.variable) (λ d. absurd (let t : (o.variable == x) ≡ true = eq-eqb o.variable x (omega (arith, d)) in let z : false ≡ true = sym e ∙ t in cc)) in rw (q, e) refl)
    ]

-- ---- views

any_suc : {A : Type 0} (p : A → Bool) (xs : List A) (k : ℕ) (v : A) → slice_get xs k ≡ Some v → list_any p (drop k xs) ≡ (p v || list_any p (drop (suc k) xs))
any_suc p [] k v e = absurd (cc)
any_suc p (x ∷ xs) zero v e = ap (λ z. p z || list_any p xs) (some_same e)
any_suc p (x ∷ xs) (suc k) v e = any_suc p xs k v e

pub any_at : {A : Type 0} (p : A → Bool) (xs : List A) (k : ℕ) (v : A) → slice_get xs k ≡ Some v → list_any p (drop k xs) ≡ (p v || list_any p (drop (k + 1) xs))
any_at p xs k v e = any_suc p xs k v e ∙ ap (λ n. p v || list_any p (drop n xs)) (sym (add-one k))
