-- Sets of variables that are joined.
use Rattle.std.proofs.Common.{◌≡◌, ℕ, zero, suc, ◌+◌, ◌-◌, ◌<◌, ◌≤◌, ◌==◌, nat_lt, Bool, true, false, ◌&&◌, ◌||◌, ◌⊎◌, List, [], ◌∷◌, filter, map, max, refl, sym, ap, ◌∙◌, subst, inl, inr, arith}
use Rattle.std.specs.List.{list_all}
use Rattle.std.specs.Int.{bit_at}
use Rattle.std.specs.Prelude.{bit_or}
use Rattle.std.proofs.lemmas.Bool.Decides.{nat_tests}
use Rattle.std.proofs.lemmas.Bool.{cases_Bool, eqb-true, and_parts}
use Rattle.std.proofs.lemmas.Nat.Bits.{bit_at_or, bit_at-lt}
use Rattle.sg_model.specs.Last.{Map, merge}
use Rattle.sg_model.specs.Lists.{is_in, below, range_from, keys_of}
use Rattle.sg_model.proofs.Numbers.{filter-range_from}
use Rattle.sg_base.specs.Sets.{members}
use Rattle.sg_base.proofs.SetLaws.{is_in-filter, is_in-members}
use Rattle.sg_protocol.specs.Evidence.{rising}
use Rattle.sg_protocol.proofs.SeenItems.{in_merge}
use Rattle.sg_views.specs.Steps.{joined}

-- nothing passes a test that is always refused
none : (p : ℕ → Bool) (i k : ℕ) → ((x : ℕ) → i ≤ x → p x ≡ false) → filter p (range_from i k) ≡ []
none p i zero h = refl
none p i (suc k) h = rw (h i (omega arith)) (none p (suc i) k (λ x l. h x (omega arith)))

-- the numbers of a range that pass are those of a longer range that stand in the shorter and pass
wider : (p : ℕ → Bool) (n i k m : ℕ) → i + k ≡ n → filter p (range_from i k) ≡ filter (λ x. nat_lt x n && p x) (range_from i (k + m))
wider p n i zero m e = sym (none (λ x. nat_lt x n && p x) i (zero + m) (λ x l. let out : nat_lt x n ≡ false = grind (arith, nat_tests) in rw out refl))
wider p n i (suc k) m e =
    let in' : nat_lt i n ≡ true = grind (arith, nat_tests) in
    let long : suc k + m ≡ suc (k + m) = omega arith in
    let rest : filter p (range_from (suc i) k) ≡ filter (λ x. nat_lt x n && p x) (range_from (suc i) (k + m)) = wider p n (suc i) k m (omega arith) in
    rw (long, in', rest) refl

-- the numbers below n that pass, as a set of 32
below_32 : (p : ℕ → Bool) (n : ℕ) → n ≤ 32 → filter p (below n) ≡ filter (λ x. nat_lt x n && p x) (below 32)
below_32 p n le =
    let m : ℕ = 32 - n in
    let all : n + m ≡ 32 = omega arith in
    wider p n 0 n m (omega arith) ∙ ap (λ k. filter (λ x. nat_lt x n && p x) (range_from 0 k)) all

-- a number stands in what is put in rising order below n if it is below n and one of the numbers
is_in-rising : (n x : ℕ) (xs : List ℕ) → is_in x (rising n xs) ≡ (nat_lt x n && is_in x xs)
is_in-rising n x xs = is_in-filter (λ y. is_in y xs) 0 n x ∙ grind (arith, nat_tests)

-- nothing in rising order is nothing
pub rising-nothing : (n : ℕ) → rising n [] ≡ []
rising-nothing n = none (λ x. is_in x []) 0 n (λ x l. refl)

both_or : (a b c : Bool) → (a && (b || c)) ≡ ((a && b) || (a && c))
both_or true b c = refl
both_or false b c = refl

-- of numbers that are all below n
within : (n x : ℕ) (xs : List ℕ) → list_all (λ k. nat_lt k n) xs ≡ true → is_in x xs ≡ (nat_lt x n && is_in x xs)
within n x [] h = grind (arith, nat_tests)
within n x (y ∷ ys) h =
    let parts = and_parts (nat_lt y n) (list_all (λ k. nat_lt k n) ys) h in
    step (cases_Bool (y == x)) parts.0 (within n x ys parts.1)
  where
    step : ((y == x) ≡ true) ⊎ ((y == x) ≡ false) → nat_lt y n ≡ true → is_in x ys ≡ (nat_lt x n && is_in x ys) → ((y == x) || is_in x ys) ≡ (nat_lt x n && ((y == x) || is_in x ys))
    step (inl e) l ih = let same : y ≡ x = eqb-true y x e in let l' : nat_lt x n ≡ true = subst (λ k. nat_lt k n ≡ true) same l in rw (e, l') refl
    step (inr e) l ih = rw e ih

-- the set of both, of numbers in rising order and of numbers that all are below n
pub rising-both : (n : ℕ) (a b c : List ℕ) → n ≤ 32 → ((x : ℕ) → is_in x c ≡ (nat_lt x n && is_in x b)) → (d : List ℕ) → ((x : ℕ) → is_in x d ≡ (is_in x a || is_in x b)) → rising n d ≡ joined (rising n a) c
unfolding joined
rising-both n a b c le h d e =
    filter-range_from (λ x. is_in x d) (λ x. is_in x a || is_in x b) 0 n (λ x l k. e x)
    ∙ below_32 (λ x. is_in x a || is_in x b) n le
    ∙ filter-range_from (λ x. nat_lt x n && (is_in x a || is_in x b)) (λ x. is_in x (rising n a) || is_in x c) 0 32
    (λ x l k. both_or (nat_lt x n) (is_in x a) (is_in x b) ∙ sym (ap (λ t. t || is_in x c) (is_in-rising n x a) ∙ ap (λ t. (nat_lt x n && is_in x a) || t) (h x)))

-- ---- the variables of a map that replaces another

-- the deltas of two maps are joined
pub rising-merge : {A : Type 0} (n : ℕ) (a b : Map A) → n ≤ 32 → rising n (keys_of (merge a b)) ≡ joined (rising n (keys_of a)) (rising n (keys_of b))
rising-merge n a b le = rising-both n (keys_of a) (keys_of b) (rising n (keys_of b)) le (λ x. is_in-rising n x (keys_of b)) (keys_of (merge a b)) (λ x. in_merge x a b)

-- the variables alone
abbrev pub units : List ℕ → Map (Unit {0})
units xs = map (λ x. (x, tt)) xs

keys-units : (xs : List ℕ) → keys_of (units xs) ≡ xs
keys-units [] = refl
keys-units (x ∷ xs) = ap (λ ys. x ∷ ys) (keys-units xs)

-- a delta is joined to what an edge writes
pub rising-written : (n : ℕ) (a : Map (Unit {0})) (xs : List ℕ) → n ≤ 32 → list_all (λ k. nat_lt k n) xs ≡ true → rising n (keys_of (merge a (units xs))) ≡ joined (rising n (keys_of a)) xs
rising-written n a xs le all =
    rising-both n (keys_of a) xs xs le (λ x. within n x xs all) (keys_of (merge a (units xs)))
    (λ x. in_merge x a (units xs) ∙ ap (λ ys. is_in x (keys_of a) || is_in x ys) (keys-units xs))

-- ---- masks

max_or : (a b : ℕ) → a < 2 → b < 2 → (max a b == 1) ≡ ((a == 1) || (b == 1))
max_or a b l k = grind (arith, nat_tests)

members-as : (m : ℕ) → members 32 m ≡ filter (λ x. bit_at m x == 1) (range_from 0 32)
unfolding members
members-as m = refl

-- the set of a mask with the bits of both
pub members-or : (a b : ℕ) → members 32 (bit_or a b) ≡ joined (members 32 a) (members 32 b)
unfolding joined
members-or a b =
    members-as (bit_or a b)
    ∙ filter-range_from (λ x. bit_at (bit_or a b) x == 1) (λ x. is_in x (members 32 a) || is_in x (members 32 b)) 0 32 (λ x l k. each x (omega arith))
  where
    there : (m x : ℕ) → x < 32 → is_in x (members 32 m) ≡ (bit_at m x == 1)
    there m x l = is_in-members 32 m x ∙ grind (arith, nat_tests)

    each : (x : ℕ) → x < 32 → (bit_at (bit_or a b) x == 1) ≡ (is_in x (members 32 a) || is_in x (members 32 b))
    each x l =
        ap (λ d. d == 1) (bit_at_or a b x) ∙ max_or (bit_at a x) (bit_at b x) (bit_at-lt a x) (bit_at-lt b x)
        ∙ sym (ap (λ t. t || is_in x (members 32 b)) (there a x l) ∙ ap (λ t. (bit_at a x == 1) || t) (there b x l))
