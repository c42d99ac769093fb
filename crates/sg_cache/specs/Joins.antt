-- What a cache of joins holds.
use Rattle.std.specs.Prelude.{ℕ, List}

-- the pairs of session and role in the order of joining, and how many more need no memory
pub record Joins : Type 0 where
  pub pairs : List (List ℕ × ℕ)
  pub spare : ℕ
