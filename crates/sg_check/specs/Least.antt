-- Least numbers with a property.
use Rattle.std.specs.Prelude.{ℕ, ◌<◌}

-- no number has the property
abbrev pub IsNowhere : (ℕ → Type 0) → Type 0
IsNowhere P = (n : ℕ) → P n → ⊥

-- the number has the property, and none below it does
pub record IsLeast (P : ℕ → Type 0) (n : ℕ) : Type 0 where
  pub here : P n
  pub none_below : (k : ℕ) → k < n → P k → ⊥
