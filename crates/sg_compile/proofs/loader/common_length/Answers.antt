use Rattle.std.proofs.Common.{◌≡◌, ◌≤◌, ◌==◌, ℕ, List, [], ◌∷◌, length, drop, refl, ap, ◌∙◌, arith}
use Rattle.std.specs.List.{common_prefix_len}
use Rattle.std.proofs.lemmas.List.{drop_all}
use Rattle.sg_compile.proofs.loader.common_length.Goals as goal

none_common : (xs : List ℕ) → common_prefix_len (λ (a b : ℕ). a == b) xs [] ≡ 0
none_common [] = refl
none_common (x ∷ xs) = refl

pub returns-else-at-other-clause-same : goal.returns-else-at-other-clause-same
returns-else-at-other-clause-same c =
    let past : length c.args.other.now ≤ c.loop-at.at = omega arith in
    let none : common_prefix_len (λ (a b : ℕ). a == b) (drop c.loop-at.at c.args.one.now) (drop c.loop-at.at c.args.other.now) ≡ 0 =
    ap (common_prefix_len (λ (a b : ℕ). a == b) (drop c.loop-at.at c.args.one.now)) (drop_all c.loop-at.at c.args.other.now past) ∙ none_common (drop c.loop-at.at c.args.one.now) in
    omega (arith, c.loop-at.invariant.same, none)
