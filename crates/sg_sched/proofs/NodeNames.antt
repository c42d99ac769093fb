-- Names of nodes: n and up to three decimal digits.
use Rattle.std.proofs.Common.{◌≡◌, ℕ, ◌+◌, ◌/◌, ◌%◌, ◌<◌, ◌≤◌, ◌^◌, false, List, [], ◌∷◌, ◌++◌, ap, ◌∙◌, arith}
use Rattle.std.specs.Fmt.{decimal}
use Rattle.std.proofs.lemmas.Fmt.{decimal_digit, decimal_step}
use Rattle.std.proofs.lemmas.Bool.Decides.{nat_tests}
use Rattle.sg_model.specs.Names.{reserved}
use Rattle.sg_model.specs.Lists.{has_text}

pub decimal_one : (n : ℕ) → n < 10 → decimal n ≡ (48 + n) ∷ []
decimal_one n h = decimal_digit n h

pub decimal_two : (n : ℕ) → 10 ≤ n → n < 100 → decimal n ≡ (48 + n / 10) ∷ (48 + n % 10) ∷ []
decimal_two n l h =
    let big : n < 2 ^ 64 = omega arith in
    decimal_step n l big ∙ ap (λ prefix. prefix ++ (48 + n % 10) ∷ []) (decimal_digit (n / 10) (omega arith))

pub decimal_three : (n : ℕ) → 100 ≤ n → n < 1000 → decimal n ≡ (48 + n / 100) ∷ (48 + n / 10 % 10) ∷ (48 + n % 10) ∷ []
decimal_three n l h =
    let big : n < 2 ^ 64 = omega arith in
    let same : n / 10 / 10 ≡ n / 100 = omega arith in
    decimal_step n (omega arith) big ∙ ap (λ prefix. prefix ++ (48 + n % 10) ∷ []) (decimal_two (n / 10) (omega arith) (omega arith) ∙ ap (λ k. (48 + k) ∷ (48 + n / 10 % 10) ∷ []) same)

-- n and a digit begin no reserved word
pub digit_plain : (d : ℕ) (ds : List ℕ) → d < 10 → has_text (110 ∷ (48 + d) ∷ ds) reserved ≡ false
digit_plain d ds h = grind (arith, nat_tests)
