-- Sets of small numbers.
use Rattle.std.proofs.Common.{◌≡◌, ◌≢◌, ℕ, zero, suc, ◌+◌, ◌*◌, ◌/◌, ◌%◌, ◌^◌, ◌<◌, ◌≤◌, ◌==◌, nat_le, nat_lt, Bool, true, false, ◌&&◌, ◌||◌, List, [], ◌∷◌, ◌++◌, if◌then◌else◌, filter, refl, ap, sym, ◌∙◌, arith}
use Rattle.std.proofs.lemmas.Bool.Decides.{nat_tests}
use Rattle.std.proofs.lemmas.Nat.Bits.{bit_at-zero, bit_at_set_same, bit_at_set_other, shr_and_one}
use Rattle.std.specs.Int.{Width, bit_at}
use mir.Val.{bits}
use Rattle.std.specs.Prelude.{bit_or, bit_and}
use Rattle.std.proofs.lemmas.Bool.{eqb-true, eq-eqb}
use Rattle.std.specs.Prelude.{◌↔◌}
use Rattle.sg_base.specs.Sets.{members, mask_of, with_member, set_of}
use Rattle.sg_model.specs.Lists.{range_from, is_in}
use Rattle.sg_model.proofs.Numbers.{filter-range_from, is_in-more}

-- an element that is put in front if it counts
is_in-if : (b : Bool) (i x : ℕ) (xs : List ℕ) → is_in x (if b then i ∷ xs else xs) ≡ ((b && (i == x)) || is_in x xs)
is_in-if true i x xs = refl
is_in-if false i x xs = refl

-- a range that begins with i has i and what stands above it
range_step : (i k x : ℕ) (a b : Bool) → (i ≡ x → a ≡ b) → ((a && (i == x)) || ((nat_le (suc i) x && nat_lt x (suc i + k)) && b)) ≡ ((nat_le i x && nat_lt x (i + suc k)) && b)
range_step i k x true true h = grind (arith, nat_tests)
range_step i k x true false h = grind (arith, nat_tests)
range_step i k x false true h = grind (arith, nat_tests)
range_step i k x false false h = grind (arith, nat_tests)

-- nothing passes a test that is false
filter-none : (i k : ℕ) → filter (λ x. false) (range_from i k) ≡ []
filter-none i zero = refl
filter-none i (suc k) = filter-none (suc i) k

-- a number stands among those that pass exactly if it is in the range and passes
pub is_in-filter : (p : ℕ → Bool) (i k x : ℕ) → is_in x (filter p (range_from i k)) ≡ ((nat_le i x && nat_lt x (i + k)) && p x)
is_in-filter p i zero x = grind (arith, nat_tests)
is_in-filter p i (suc k) x =
    is_in-if (p i) i x (filter p (range_from (suc i) k))
    ∙ ap (λ r. (p i && (i == x)) || r) (is_in-filter p (suc i) k x)
    ∙ range_step i k x (p i) (p x) (ap p)

-- a number is in a set with one more exactly if it is the one more or was in the set
pub is_in-with_member : (width x y : ℕ) (xs : List ℕ) → x < width → is_in x (with_member width xs y) ≡ ((x == y) || is_in x xs)
unfolding with_member
is_in-with_member width x y xs h =
    let low : nat_le 0 x ≡ true = grind (arith, nat_tests) in
    let high : nat_lt x (0 + width) ≡ true = grind (arith, nat_tests) in
    is_in-filter (λ z. (z == y) || is_in z xs) 0 width x ∙ rw (low, high) refl

-- a role is in a set with one more exactly if it is a role, and the one more or in the set
pub is_in-with_role : (x r : ℕ) (set : List ℕ) → is_in r (with_member 16 set x) ≡ (nat_lt r 16 && ((r == x) || is_in r set))
unfolding with_member
is_in-with_role x r set = is_in-filter (λ y. (y == x) || is_in y set) 0 16 r ∙ grind (arith, nat_tests)

-- a set with one number more is that of the list with the number
pub with_member-set_of : (width y : ℕ) (xs : List ℕ) → with_member width (set_of width xs) y ≡ set_of width (xs ++ y ∷ [])
unfolding with_member set_of
with_member-set_of width y xs = filter-range_from (λ x. (x == y) || is_in x (set_of width xs)) (λ x. is_in x (xs ++ y ∷ [])) 0 width each
  where
    each : (x : ℕ) → 0 ≤ x → x < 0 + width → ((x == y) || is_in x (set_of width xs)) ≡ is_in x (xs ++ y ∷ [])
    each x lo hi =
        let a : nat_le 0 x ≡ true = grind (arith, nat_tests) in
        let b : nat_lt x (0 + width) ≡ true = grind (arith, nat_tests) in
        let there : is_in x (set_of width xs) ≡ is_in x xs = is_in-filter (λ z. is_in z xs) 0 width x ∙ rw (a, b) refl in
        let turned : (x == y) ≡ (y == x) = grind (arith, nat_tests) in
        rw (there, is_in-more x y xs, turned) (turn (y == x) (is_in x xs))
      where
        turn : (p q : Bool) → (p || q) ≡ (q || p)
        turn true true = refl
        turn true false = refl
        turn false true = refl
        turn false false = refl

-- no bit is set in 0
pub members-zero : (width : ℕ) → members width 0 ≡ []
unfolding members
members-zero width = filter-range_from (λ x. bit_at 0 x == 1) (λ x. false) 0 width (λ x a b. ap (λ d. d == 1) (bit_at-zero x)) ∙ filter-none 0 width

-- the set, as what passes
members-as : (width m : ℕ) → members width m ≡ filter (λ x. bit_at m x == 1) (range_from 0 width)
unfolding members
members-as width m = refl

-- a number is in the set exactly if it is below the width and its bit is set
pub is_in-members : (width m x : ℕ) → is_in x (members width m) ≡ (nat_lt x width && (bit_at m x == 1))
unfolding members
is_in-members width m x = is_in-filter (λ y. bit_at m y == 1) 0 width x ∙ grind (arith, nat_tests)

-- the test that the code makes of a set that is seen as s, and of an element that is seen as x
pub tested : (width m x : ℕ) (s : List ℕ) → members width m ≡ s → x < width → (bit_and (m / 2 ^ x) 1 == 1) ≡ is_in x s
tested width m x s seen h =
    let e : is_in x (members width m) ≡ (bit_at m x == 1) = is_in-members width m x ∙ grind (arith, nat_tests) in
    rw (← seen) (rw (e, shr_and_one))

-- no element that is not below the width is in a set
pub untested : (width m x : ℕ) (s : List ℕ) → members width m ≡ s → width ≤ x → nat_lt x width ≡ is_in x s
untested width m x s seen h =
    let out : nat_lt x width ≡ false = grind (arith, nat_tests) in
    rw (← seen) (rw (is_in-members width m x, out) refl)

-- one more bit
bit_more : (w : Width) (m x y : ℕ) → x < bits w → (e : Bool) → (y == x) ≡ e → (bit_at (bit_or m (1 * 2 ^ x % 2 ^ bits w)) y == 1) ≡ (e || (bit_at m y == 1))
bit_more w m x y h true e =
    let same : y ≡ x = grind (arith, nat_tests) in
    rw same (rw (bit_at_set_same w m x h) refl)
bit_more w m x y h false e =
    let other : y ≢ x = grind (arith, nat_tests) in
    rw (bit_at_set_other w m x h y other) refl

-- the tests of a set with one more element agree below the width
tests_agree : (w : Width) (width m x y : ℕ) → x < bits w → y < width → (bit_at (bit_or m (1 * 2 ^ x % 2 ^ bits w)) y == 1) ≡ ((y == x) || is_in y (members width m))
tests_agree w width m x y h b =
    let there : (bit_at m y == 1) ≡ is_in y (members width m) = sym (is_in-members width m y ∙ grind (arith, nat_tests)) in
    bit_more w m x y h (y == x) refl ∙ ap (λ t. (y == x) || t) there

-- a mask with one more bit has one more number
one_more : (w : Width) (width m x : ℕ) → x < bits w → members width (bit_or m (1 * 2 ^ x % 2 ^ bits w)) ≡ with_member width (members width m) x
unfolding with_member
one_more w width m x h = members-as width (bit_or m (1 * 2 ^ x % 2 ^ bits w)) ∙ filter-range_from _ _ 0 width (λ y a b. tests_agree w width m x y h (omega arith))

-- the same of a set that is seen as s
pub members-with : (w : Width) (width m x : ℕ) (s : List ℕ) → members width m ≡ s → x < bits w → members width (bit_or m (1 * 2 ^ x % 2 ^ bits w)) ≡ with_member width s x
members-with w width m x s seen h = rw (← seen) (one_more w width m x h)

-- a mask has no number exactly if it is 0
pub members-none : (width m : ℕ) (s : List ℕ) → members width m ≡ s → mask_of (members width m) ≡ m → (m == 0) ≡ true ↔ (s ≡ [])
members-none width m s seen back = (
  (λ z. let zero : m ≡ 0 = eqb-true m 0 z in sym seen ∙ ap (members width) zero ∙ members-zero width),
  (λ none. let zero : m ≡ 0 = sym back ∙ ap mask_of (seen ∙ none) in eq-eqb m 0 zero),
)
