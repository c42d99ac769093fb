-- What a reader of lines is seen as.
use Rattle.std.specs.Prelude.{ℕ, List}

-- the bytes of the line that it found last, and the bytes that it read and did not give yet
pub record Reading : Type 0 where
  pub line : List ℕ
  pub unread : List ℕ
