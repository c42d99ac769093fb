-- The numbers that a seed draws, each below 65,536.
use Rattle.std.specs.Prelude.{ℕ, ◌+◌, ◌*◌, ◌/◌, ◌%◌, if◌then◌else◌, List, [], ◌∷◌}
use Rattle.sg_model.specs.Lists.{is_in}

-- draw i of a seed, counted from 0
abbrev pub draw : (seed i : ℕ) → ℕ
draw seed i = (seed + i) * 2654435761 % 4294967296 / 65536

-- a seed, and how many numbers it has drawn
pub record Drawing : Type 0 where
  pub seed : ℕ
  pub count : ℕ

-- a number alone, if it is one of these
abbrev pub if_in : ℕ → List ℕ → List ℕ
if_in x xs = if is_in x xs then x ∷ [] else []
