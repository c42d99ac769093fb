-- The mask of a set's numbers is the mask that they were read from.
use Rattle.std.proofs.Common.{◌≡◌, ℕ, zero, suc, ◌+◌, ◌*◌, ◌/◌, ◌%◌, ◌^◌, ◌<◌, ◌==◌, Bool, true, false, if◌then◌else◌, List, ◌∷◌, filter, sym, ◌∙◌, arith, lit<}
use Rattle.std.specs.Int.{bit_at}
use Rattle.std.proofs.Math.Nat.{pow-suc, div-div-eq-div-mul, mod-lt, mod-eq_of_lt}
use Rattle.std.proofs.lemmas.List.Sums.{sum_by-cons}
use lib.Arith.{mod-mul}
use lib.Pow.{pow_pos}
use Rattle.sg_model.specs.Lists.{range_from}
use Rattle.sg_base.specs.Sets.{members, mask_of}
use Rattle.sg_base.specs.declared.sets.RoleSet.TheInside.{Inside as Roles}
use Rattle.sg_base.specs.declared.sets.VarSet.TheInside.{Inside as Variables}

-- a digit that is 1 counts once
digit : (r p : ℕ) → r < 2 → (if r == 1 then p else 0) ≡ r * p
digit zero p h = grind arith
digit (suc zero) p h = grind arith
digit (suc (suc r)) p h = absurd (omega arith)

-- the sum with one more element, if it counts
sum_if : (b : Bool) (x : ℕ) (xs : List ℕ) → mask_of (if b then x ∷ xs else xs) ≡ (if b then 2 ^ x else 0) + mask_of xs
sum_if true x xs = sum_by-cons (λ y. 2 ^ y) x xs
sum_if false x xs = omega arith

-- the bits of m from i on, k of them
bits_sum : (m i k : ℕ) → mask_of (filter (λ x. bit_at m x == 1) (range_from i k)) ≡ (m / 2 ^ i % 2 ^ k) * 2 ^ i
bits_sum m i zero = grind arith
bits_sum m i (suc k) =
    let q : ℕ = m / 2 ^ i in
    let low : (if bit_at m i == 1 then 2 ^ i else 0) ≡ (q % 2) * 2 ^ i = digit (q % 2) (2 ^ i) (mod-lt q (lit< tt)) in
    let high : m / 2 ^ suc i ≡ q / 2 = rw pow-suc (sym (div-div-eq-div-mul m (2 ^ i) 2)) in
    let whole : q % 2 ^ suc k ≡ (q / 2 % 2 ^ k) * 2 + q % 2 = rw pow-suc (mod-mul q (pow_pos k) (lit< tt)) in
    let more : 2 ^ suc i ≡ 2 ^ i * 2 = pow-suc 2 i in
    let rest : mask_of (filter (λ x. bit_at m x == 1) (range_from (suc i) k)) ≡ (m / 2 ^ suc i % 2 ^ k) * 2 ^ suc i = bits_sum m (suc i) k in
    let rest' : mask_of (filter (λ x. bit_at m x == 1) (range_from (suc i) k)) ≡ (q / 2 % 2 ^ k) * (2 ^ i * 2) = rw (rest, high, more) in
    let both = sum_if (bit_at m i == 1) i (filter (λ x. bit_at m x == 1) (range_from (suc i) k)) in
    both ∙ rw (low, rest', whole) (omega arith)

-- the numbers below the width give back a mask below its power
mask_back : (m width : ℕ) → m < 2 ^ width → mask_of (members width m) ≡ m
unfolding members
mask_back m width h =
    let whole : m / 1 % 2 ^ width * 1 ≡ m = grind (arith, mod-eq_of_lt h) in
    bits_sum m 0 width ∙ whole

-- the roles of a set give its mask back
pub mask_of-roles : (s : Roles) → s.0 < 2 ^ 16 → record { 0 = mask_of (members 16 s.0) } ≡ s
mask_of-roles s h = λ i. record { 0 = mask_back s.0 16 h i }

-- the variables of a set give its mask back
pub mask_of-variables : (s : Variables) → s.0 < 2 ^ 32 → record { 0 = mask_of (members 32 s.0) } ≡ s
mask_of-variables s h = λ i. record { 0 = mask_back s.0 32 h i }
