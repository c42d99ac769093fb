-- Texts of bounded length.
use Rattle.std.specs.Prelude.{ℕ, ◌≤◌, List, length}
use Rattle.std.specs.Str.{IsUtf8}
use Rattle.sg_model.specs.Limits.{most_text_bytes}

-- UTF-8 of at most 1,024 bytes
pub record IsText (bytes : List ℕ) : Type 0 where
  pub text : IsUtf8 bytes
  pub fits : length bytes ≤ most_text_bytes
