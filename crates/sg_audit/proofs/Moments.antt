-- Moments that ascend, and those that two events have.
use Rattle.std.proofs.Common.{◌≡◌, ◌≢◌, ℕ, suc, ◌+◌, ◌*◌, ◌/◌, ◌%◌, ◌<◌, ◌≤◌, ◌==◌, nat_le, ◌||◌, Bool, true, false, ◌⊎◌, inl, inr, List, [], ◌∷◌, length, get_or, refl, sym, ◌∙◌, subst, arith}
use Rattle.std.specs.Prelude.{Option, Some, None, IsTrue, if◌then◌else◌, ⊤, map}
use Rattle.std.specs.List.{count_by, AllAdjacentBelow}
use Rattle.std.specs.List.Sorted.{IsNonDecreasingBy}
use Rattle.std.proofs.lemmas.Bool.Decides.{nat_tests}
use Rattle.std.proofs.lemmas.List.Sorted.{all_adjacent_from_non_decreasing}
use Rattle.std.proofs.lemmas.List.Sums.{sum_by-cons}
use Rattle.std.proofs.lemmas.Bool.{cases_Bool}
use Rattle.sg_model.proofs.Small.{same_or_not, first_false, second_false}
use Rattle.sg_protocol.specs.Calls.{Event}
use Rattle.sg_audit.specs.Merged.{moment, has_two, clashes, AscendFrom}

-- how many events have the moment
abbrev pub count : ℕ → List Event → ℕ
count m es = count_by (λ e. moment e == m) es

-- the first moment that two neighbours have
abbrev pub first_twice : List Event → Option ℕ
first_twice [] = None
first_twice (e ∷ []) = None
first_twice (e ∷ f ∷ es) = if moment e == moment f then Some (moment e) else first_twice (f ∷ es)

-- each moment is greater than the one before, the first not less than the least
abbrev pub RiseFrom : ℕ → List Event → Type 0
RiseFrom least [] = ⊤
RiseFrom least (e ∷ es) = (least ≤ moment e) × RiseFrom (suc (moment e)) es

pub count_yes : (m : ℕ) (e : Event) (es : List Event) → moment e ≡ m → count m (e ∷ es) ≡ 1 + count m es
count_yes m e es h = let t : (moment e == m) ≡ true = grind (arith, nat_tests, h) in sum_by-cons _ e es ∙ rw t refl

pub count_no : (m : ℕ) (e : Event) (es : List Event) → moment e ≢ m → count m (e ∷ es) ≡ count m es
count_no m e es h = let t : (moment e == m) ≡ false = grind (arith, nat_tests, h) in sum_by-cons _ e es ∙ rw t (omega arith)

-- the least may be less
pub ascend_lower : (a b : ℕ) (es : List Event) → b ≤ a → AscendFrom a es → AscendFrom b es
ascend_lower a b [] l h = tt
ascend_lower a b (e ∷ es) l h = (omega arith, h.1)

pub rise_lower : (a b : ℕ) (es : List Event) → b ≤ a → RiseFrom a es → RiseFrom b es
rise_lower a b [] l h = tt
rise_lower a b (e ∷ es) l h = (omega arith, h.1)

-- no event has a moment below the least
pub none_below : (a m : ℕ) (es : List Event) → AscendFrom a es → m < a → count m es ≡ 0
none_below a m [] h l = refl
none_below a m (e ∷ es) h l = count_no m e es (λ q. absurd (let p = h.0 in omega arith)) ∙ none_below (moment e) m es h.1 (let p = h.0 in omega arith)

-- events that ascend from a moment that the first of them doesn't have
from_next : (a : ℕ) (e f : Event) (es : List Event) → moment e ≢ moment f → AscendFrom (moment e) (f ∷ es) → AscendFrom (suc (moment e)) (f ∷ es)
from_next a e f es n h = ((let p = h.0 in omega (arith, n)), h.1)

-- if no two neighbours have one moment, no two events have
pub one_each : (a m : ℕ) (es : List Event) → AscendFrom a es → first_twice es ≡ None → count m es ≤ 1
one_each a m [] h n = omega arith
one_each a m (e ∷ []) h n = elim (same_or_not (moment e) m) [ inl q ↦ (let c = count_yes m e [] q in omega (arith, c)) | inr q ↦ (let c = count_no m e [] q in omega (arith, c)) ]
one_each a m (e ∷ f ∷ es) h n = elim (cases_Bool (moment e == moment f)) [
  | inl s ↦ (let bad : Some (moment e) ≡ None = rw s at n in absurd (cc))
  | inr s ↦
      (let other : moment e ≢ moment f = (λ q. absurd (let t : (moment e == moment f) ≡ true = grind (arith, nat_tests, q) in let z : true ≡ false = sym t ∙ s in cc)) in
      let n' : first_twice (f ∷ es) ≡ None = rw s at n in
      elim (same_or_not (moment e) m) [
        | inl q ↦ (let c = count_yes m e (f ∷ es) q in let z = none_below (suc (moment e)) m (f ∷ es) (from_next a e f es other h.1) (omega arith) in omega (arith, c, z))
        | inr q ↦ (let c = count_no m e (f ∷ es) q in let z = one_each (moment e) m (f ∷ es) h.1 n' in omega (arith, c, z))
      ])
]

-- the first moment that two neighbours have is the least that two events have
pub twice : (a m : ℕ) (es : List Event) → AscendFrom a es → first_twice es ≡ Some m → (2 ≤ count m es) × ((k : ℕ) → k < m → count k es ≤ 1)
twice a m [] h n = absurd (cc)
twice a m (e ∷ []) h n = absurd (cc)
twice a m (e ∷ f ∷ es) h n = elim (cases_Bool (moment e == moment f)) [
  | inl s ↦
      (let is : Some (moment e) ≡ Some m = rw s at n in
      let here : moment e ≡ m = cc in
      let same : moment e ≡ moment f = grind (arith, nat_tests, s) in
      let c = count_yes m e (f ∷ es) here in
      let d = count_yes m f es (sym same ∙ here) in
      (omega (arith, c, d), λ k l. let z = none_below m k (e ∷ f ∷ es) ((let p = here in omega (arith, p)), h.1) l in omega (arith, z)))
  | inr s ↦
      (let other : moment e ≢ moment f = (λ q. absurd (let t : (moment e == moment f) ≡ true = grind (arith, nat_tests, q) in let z : true ≡ false = sym t ∙ s in cc)) in
      let n' : first_twice (f ∷ es) ≡ Some m = rw s at n in
      let more = twice (moment e) m (f ∷ es) h.1 n' in
      (at_least (more.0), λ k l. below k (more.1 k l) other))
]
  where
    at_least : 2 ≤ count m (f ∷ es) → 2 ≤ count m (e ∷ f ∷ es)
    at_least b = elim (same_or_not (moment e) m) [ inl q ↦ (let c = count_yes m e (f ∷ es) q in omega (arith, b, c)) | inr q ↦ (let c = count_no m e (f ∷ es) q in omega (arith, b, c)) ]

    below : (k : ℕ) → count k (f ∷ es) ≤ 1 → moment e ≢ moment f → count k (e ∷ f ∷ es) ≤ 1
    below k b other = elim (same_or_not (moment e) k) [
      | inl q ↦ (let c = count_yes k e (f ∷ es) q in let z = none_below (suc (moment e)) k (f ∷ es) (from_next a e f es other h.1) (omega arith) in omega (arith, c, z))
      | inr q ↦ (let c = count_no k e (f ∷ es) q in omega (arith, b, c))
    ]

-- ---- clashes

few : (m : ℕ) (es : List Event) → count m es ≤ 1 → has_two m es ≡ false
few m es h = grind (arith, nat_tests, h)

many : (m : ℕ) (es : List Event) → 2 ≤ count m es → has_two m es ≡ true
many m es h = grind (arith, nat_tests, h)

pub no_clash : (es : List Event) → AscendFrom 0 es → first_twice es ≡ None → (t : ℕ) → clashes es t ≡ false
no_clash es h n t = rw (few (2 * t) es (one_each 0 (2 * t) es h n), few (2 * t + 1) es (one_each 0 (2 * t + 1) es h n)) refl

pub least_clash : (m : ℕ) (es : List Event) → AscendFrom 0 es → first_twice es ≡ Some m → IsTrue (clashes es (m / 2)) × ((s : ℕ) → s < m / 2 → clashes es s ≡ false)
least_clash m es h n =
    let both = twice 0 m es h n in (
      elim (halves m) [
        | inl q ↦ (let y : has_two (2 * (m / 2)) es ≡ true = subst (λ k. has_two k es ≡ true) q (many m es both.0) in rw y refl)
        | inr q ↦ (let y : has_two (2 * (m / 2) + 1) es ≡ true = subst (λ k. has_two k es ≡ true) q (many m es both.0) in either (has_two (2 * (m / 2)) es) _ y)
      ],
      λ s l. rw (few (2 * s) es (both.1 (2 * s) (omega arith)), few (2 * s + 1) es (both.1 (2 * s + 1) (omega arith))) refl,
    )
  where
    halves : (m : ℕ) → (m ≡ 2 * (m / 2)) ⊎ (m ≡ 2 * (m / 2) + 1)
    halves m = elim (same_or_not (m % 2) 0) [ inl q ↦ inl (omega (arith, q)) | inr q ↦ inr (omega (arith, q)) ]

    either : (a b : Bool) → b ≡ true → IsTrue (a || b)
    either true b h = refl
    either false b h = h

-- events that ascend, of which no two have one moment, rise
none_at_first : (m : ℕ) (es : List Event) → AscendFrom m es → count m es ≡ 0 → AscendFrom (suc m) es
none_at_first m [] h z = tt
none_at_first m (e ∷ es) h z = elim (same_or_not (moment e) m) [ inl q ↦ (let c = count_yes m e es q in absurd (omega (arith, z, c))) | inr q ↦ ((let p = h.0 in omega (arith, p, q)), h.1) ]

pub rise : (a : ℕ) (es : List Event) → AscendFrom a es → ((m : ℕ) → count m es ≤ 1) → RiseFrom a es
rise a [] h c = tt
rise a (e ∷ es) h c = (
  h.0,
  rise (suc (moment e)) es
      (none_at_first (moment e) es h.1 (let x = count_yes (moment e) e es refl in let y = c (moment e) in omega (arith, x, y)))
      (λ m. elim (same_or_not (moment e) m) [ inl q ↦ (let x = count_yes m e es q in let y = c m in omega (arith, x, y)) | inr q ↦ (let x = count_no m e es q in let y = c m in omega (arith, x, y)) ]),
)

-- no clash, so at most one event has a moment
pub one_at : (es : List Event) → ((t : ℕ) → clashes es t ≡ false) → (m : ℕ) → count m es ≤ 1
one_at es h m =
    let c = h (m / 2) in
    elim (same_or_not (m % 2) 0) [
      | inl q ↦ (let e : m ≡ 2 * (m / 2) = omega (arith, q) in subst (λ k. count k es ≤ 1) (sym e) (not_two _ (first_false _ _ c)))
      | inr q ↦ (let e : m ≡ 2 * (m / 2) + 1 = omega (arith, q) in subst (λ k. count k es ≤ 1) (sym e) (not_two _ (second_false _ _ c)))
    ]
  where
    not_two : (n : ℕ) → nat_le 2 n ≡ false → n ≤ 1
    not_two n h = grind (arith, nat_tests, h)

-- ---- order by index

-- neighbours that don't fall ascend
ascend_adjacent : {X : Type 0} (f : X → Event) (a : ℕ) (xs : List X) → AllAdjacentBelow (λ x y. moment (f x) ≤ moment (f y)) xs (length xs) → ((d : X) → 0 < length xs → a ≤ moment (f (get_or xs 0 d))) → AscendFrom a (map f xs)
ascend_adjacent f a [] h l = tt
ascend_adjacent {X} f a (x ∷ xs) h l = (l x (omega arith), ascend_adjacent f (moment (f x)) xs (λ k d b. let q : suc k + 1 ≡ suc (k + 1) = omega arith in subst (λ j. moment (f (get_or (x ∷ xs) (suc k) d)) ≤ moment (f (get_or (x ∷ xs) j d))) q (h (suc k) d (omega arith))) (λ d b. h 0 d (omega arith)))

pub ascend_sorted : {X : Type 0} (f : X → Event) (xs : List X) → IsNonDecreasingBy (λ x. moment (f x)) xs → AscendFrom 0 (map f xs)
ascend_sorted f xs h = ascend_adjacent f 0 xs (all_adjacent_from_non_decreasing (λ x. moment (f x)) xs h) (λ d b. omega arith)
