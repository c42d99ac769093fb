-- Numbers digit by digit.
use Rattle.std.proofs.Common.{◌≡◌, ℕ, ◌+◌, ◌-◌, ◌*◌, ◌<◌, ◌≤◌, List, [], ◌∷◌, fold, Option, None, arith, if◌then◌else◌}
use Rattle.std.specs.List.{list_all}
use Rattle.std.proofs.lemmas.Grind.{common_steps}
use Rattle.sg_base.specs.Words.{is_digit, up_to}

-- the number n with the digits after it
abbrev pub digits_from : ℕ → ℕ → List ℕ → Option ℕ
digits_from most n cs = if list_all is_digit cs then up_to most (fold (λ m c. m * 10 + (c - 48)) n cs) else None

-- a number grows with its digits
value_grows : (n : ℕ) (cs : List ℕ) → n ≤ fold (λ m c. m * 10 + (c - 48)) n cs
value_grows n [] = omega arith
value_grows n (c ∷ cs) = let ih = value_grows (n * 10 + (c - 48)) cs in omega arith

-- past the bound it stays past it
pub digits_past : (most n : ℕ) (cs : List ℕ) → most < n → digits_from most n cs ≡ None
digits_past most n cs h = let g = value_grows n cs in grind (arith, common_steps)

-- a digit that takes it past the bound
pub digits_over : (most n c : ℕ) (cs : List ℕ) → None ≡ up_to most (n * 10 + (c - 48)) → digits_from most n (c ∷ cs) ≡ None
digits_over most n c cs h =
    let over : most < n * 10 + (c - 48) = grind (arith, common_steps) in
    let past = digits_past most (n * 10 + (c - 48)) cs over in
    grind (arith, common_steps)
