-- Two cases of numbers, tests and options.
use Rattle.std.proofs.Common.{ℕ, ◌<◌, ◌≤◌, nat_lt, Bool, ◌⊎◌, inl, inr, arith}
use Rattle.std.proofs.lemmas.Bool.Decides.{nat_tests}
use Rattle.std.proofs.lemmas.Bool.{cases_Bool}

-- a number is below another one or not
pub less_or : (a b : ℕ) → (a < b) ⊎ (b ≤ a)
less_or a b = elim (cases_Bool (nat_lt a b)) [ inl y ↦ inl (grind (arith, nat_tests, y)) | inr n ↦ inr (grind (arith, nat_tests, n)) ]
