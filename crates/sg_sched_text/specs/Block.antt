-- The lines of a block, after the one with which it begins.
use Rattle.std.specs.Prelude.{◌≡◌, ℕ, not, List, ◌∷◌, ◌++◌, length, IsTrue}
use Rattle.std.specs.List.{list_all, concat}
use Rattle.sg_sched.specs.Format.Spells.{Line, closes}

-- no line closes the block
abbrev pub IsOpen : List Line → Type 0
IsOpen ls = IsTrue (list_all (λ l. not (closes l)) ls)

-- the first line that closes it stands after `count` lines, which are the text, and before the rest
pub record IsClosed (ls : List Line) (text : List ℕ) (count : ℕ) (rest : List Line) : Type 0 where
  pub inner : List Line
  pub closing : Line
  pub all : ls ≡ inner ++ closing ∷ rest
  pub open_yet : IsOpen inner
  pub closed : IsTrue (closes closing)
  pub within : text ≡ concat inner
  pub number : count ≡ length inner
