-- What single words of a line spell, besides numbers and bytes: recorded frames and lists of names.
use Rattle.std.specs.Prelude.{ℕ, ◌==◌, ◌&&◌, if◌then◌else◌, List, [], ◌∷◌, Option, Some, None, option_and_then}
use Rattle.std.specs.List.{list_all, slice_split}
use Rattle.sg_model.specs.Names.{Name, is_name}
use Rattle.sg_model.specs.Lists.{all_differ}
use Rattle.sg_base.specs.Words.{number, from_one}

-- a letter and a number from 1 on that is below 2 ^ 32
abbrev pub numbered : (letter : ℕ) → List ℕ → Option ℕ
numbered letter [] = None
numbered letter (c ∷ cs) = if c == letter then option_and_then from_one (number 4294967295 cs) else None

-- a recorded frame: f and its number
unfoldable pub frame : List ℕ → Option ℕ
frame = numbered 102

-- different names with commas between them
unfoldable pub names : List ℕ → Option (List Name)
names word =
    let parts = slice_split (λ b. b == 44) word in
    if list_all is_name parts && all_differ parts then Some parts else None
