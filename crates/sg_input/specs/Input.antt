-- What reads say of the bytes to come.
use Rattle.std.specs.Prelude.{◌≡◌, ℕ, List, ◌++◌, length, drop, Option, Some}

-- these bytes are the first of those to come, if they are known
abbrev pub BeginsWith : Option (List ℕ) → List ℕ → Type 0
BeginsWith coming bytes = (all : List ℕ) → coming ≡ Some all → all ≡ bytes ++ drop (length bytes) all
