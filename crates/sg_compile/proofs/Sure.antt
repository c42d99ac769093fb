-- What can't be otherwise: to show it, one may ask whether anything holds.
use Rattle.std.proofs.Common.{◌≡◌, ℕ, zero, suc, ◌<◌, ◌⊎◌, inl, inr, arith, subst}
use Rattle.std.proofs.lemmas.Bool.{cases_lt}
use Rattle.sg_check.specs.Least.{IsNowhere, IsLeast}
use Rattle.sg_compile.specs.Laws.{Surely}

pub sure : {A : Type 0} → A → Surely A
sure x = λ no. no x

pub so : {A B : Type 0} → Surely A → (A → Surely B) → Surely B
so h f = λ no. h (λ x. f x no)

pub or_not : (A : Type 0) → Surely (A ⊎ (A → ⊥))
or_not A = λ no. no (inr (λ x. no (inl x)))

-- what surely holds of each number below n surely holds of all of them
pub each : (P : ℕ → Type 0) (n : ℕ) → ((k : ℕ) → k < n → Surely (P k)) → Surely ((k : ℕ) → k < n → P k)
each P zero f = sure (λ k l. absurd (omega (arith, l)))
each P (suc n) f =
    so (each P n (λ k l. f k (omega (arith, l))))
    (λ below. so (f n (omega arith))
    (λ here. sure (λ k l. elim (cases_lt k n) [ inl m ↦ below k m | inr m ↦ (let same : n ≡ k = omega (arith, l, m) in subst P same here) ])))

-- of the numbers below n none has the property, or some number is the least that has it
below_or_least : (P : ℕ → Type 0) (n : ℕ) → Surely (((k : ℕ) → k < n → P k → ⊥) ⊎ ((k : ℕ) × IsLeast P k))
below_or_least P zero = sure (inl (λ k l p. absurd (omega (arith, l))))
below_or_least P (suc n) =
    so (below_or_least P n)
    (λ found. elim found [
      | inl none ↦
          so (or_not (P n))
          (λ here. elim here [
            | inl p ↦ sure (inr (n, record { here = p; none_below = none }))
            | inr other ↦
                sure (inl (λ k l p. elim (cases_lt k n) [ inl m ↦ none k m p | inr m ↦ (let same : k ≡ n = omega (arith, l, m) in other (subst P same p)) ]))
          ])
      | inr m ↦ sure (inr m)
    ])

-- no number has the property, or some number is the least that has it
pub least : (P : ℕ → Type 0) → Surely (IsNowhere P ⊎ ((k : ℕ) × IsLeast P k))
least P =
    so (or_not ((k : ℕ) × IsLeast P k))
    (λ found. elim found [
      | inl m ↦ sure (inr m)
      | inr other ↦ sure (inl (λ n p. below_or_least P (suc n) (λ f. elim f [ inl none ↦ none n (omega arith) p | inr m ↦ other m ])))
    ])
