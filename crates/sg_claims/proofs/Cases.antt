-- Two cases of numbers, and a bit and its opposite.
use Rattle.std.proofs.Common.{◌≡◌, ℕ, ◌<◌, ◌≤◌, nat_lt, Bool, true, false, not, ◌⊎◌, refl, inl, inr, arith}
use Rattle.std.specs.Bool.{beq}
use Rattle.std.proofs.lemmas.Bool.Decides.{nat_tests}
use Rattle.std.proofs.lemmas.Bool.{cases_Bool}

-- a number is below another one or not
pub less_or : (a b : ℕ) → (a < b) ⊎ (b ≤ a)
less_or a b = elim (cases_Bool (nat_lt a b)) [ inl y ↦ inl (grind (arith, nat_tests, y)) | inr n ↦ inr (grind (arith, nat_tests, n)) ]

-- no bit is its opposite
pub opposite : (b : Bool) → b ≡ not b → ⊥
opposite true e = absurd (cc)
opposite false e = absurd (cc)

-- a bit that isn't another one is its opposite
pub other_bit : (a b : Bool) → (a ≡ b → ⊥) → a ≡ not b
other_bit true true d = absurd (d refl)
other_bit true false d = refl
other_bit false true d = refl
other_bit false false d = absurd (d refl)

-- a bit that a test distinguishes from another one is its opposite
pub separated : (a b : Bool) → beq a b ≡ false → a ≡ not b
separated true true h = absurd (cc)
separated true false h = refl
separated false true h = refl
separated false false h = absurd (cc)
