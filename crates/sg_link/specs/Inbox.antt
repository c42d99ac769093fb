-- What was taken in: pieces in their order, an empty one where a connection ends.
use Rattle.std.specs.Prelude.{ℕ, ◌+◌, ◌<◌, ◌≤◌, ◌==◌, if◌then◌else◌, List, [], ◌∷◌, length, take, drop}
use Rattle.std.specs.List.{concat}

-- the sum of lengths
abbrev pub total : List ℕ → ℕ
total [] = 0
total (n ∷ lens) = n + total lens

-- bytes cut into pieces of these lengths
abbrev pub cut : List ℕ → List ℕ → List (List ℕ)
cut [] bytes = []
cut (n ∷ lens) bytes = take n bytes ∷ cut lens (drop n bytes)

-- there is room for one more piece, of at most 16,384 bytes: below 65,536 pieces, and 4,194,304 bytes in all
pub record HasRoom (pieces : List (List ℕ)) : Type 0 where
  pub fewer : length pieces < 65536
  pub fits : length (concat pieces) + 16384 ≤ 4194304

-- the pieces behind the end of the first connection, or none if it has no end yet
abbrev pub behind_first : List (List ℕ) → List (List ℕ)
behind_first [] = []
behind_first (p ∷ ps) = if length p == 0 then ps else behind_first ps
