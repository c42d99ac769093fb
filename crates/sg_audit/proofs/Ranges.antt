-- Tests of numbers in a range.
use Rattle.std.proofs.Common.{◌≡◌, ℕ, suc, ◌+◌, ◌-◌, ◌<◌, ◌≤◌, Bool, true, false, ◌&&◌, refl, ap, ◌∙◌, arith}
use Rattle.std.specs.List.{list_all}
use Rattle.sg_model.specs.Lists.{range_from}

-- the first of a range and the others
pub next_of : (p : ℕ → Bool) (n c : ℕ) → n < c → list_all p (range_from n (c - n)) ≡ (p n && list_all p (range_from (n + 1) (c - (n + 1))))
next_of p n c l =
    let a : c - n ≡ suc (c - (n + 1)) = omega arith in
    let b : suc n ≡ n + 1 = omega arith in
    ap (λ k. list_all p (range_from n k)) a ∙ ap (λ m. p n && list_all p (range_from m (c - (n + 1)))) b

pub end_of : (p : ℕ → Bool) (n c : ℕ) → c ≤ n → list_all p (range_from n (c - n)) ≡ true
end_of p n c l = let a : c - n ≡ 0 = omega arith in ap (λ k. list_all p (range_from n k)) a

pub fails : (p : ℕ → Bool) (n c : ℕ) → n < c → p n ≡ false → list_all p (range_from n (c - n)) ≡ false
fails p n c l f = next_of p n c l ∙ rw f refl

pub passes : (p : ℕ → Bool) (n c : ℕ) → n < c → p n ≡ true → list_all p (range_from n (c - n)) ≡ list_all p (range_from (n + 1) (c - (n + 1)))
passes p n c l f = next_of p n c l ∙ rw f refl
