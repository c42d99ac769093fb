-- The lines of a text, and the words of a line.
use Rattle.std.specs.Prelude.{ℕ, ◌-◌, ◌==◌, nat_lt, if◌then◌else◌, List, [], ◌∷◌, length, take, filter, slice_index}
use Rattle.std.specs.List.{slice_split, onto_first}

-- the lines, each with its line end, which the last need not have
abbrev pub lines : List ℕ → List (List ℕ)
lines [] = []
lines (c ∷ cs) = if c == 10 then (c ∷ []) ∷ lines cs else onto_first c (lines cs)

-- the text without its last byte, if that is c
abbrev pub without_last : ℕ → List ℕ → List ℕ
without_last c text = if slice_index text (length text - 1) == c then take (length text - 1) text else text

-- what stands on a line: no line end, and no carriage return before one
abbrev pub content : List ℕ → List ℕ
content line = if slice_index line (length line - 1) == 10 then without_last 13 (take (length line - 1) line) else line

-- the parts between spaces that are not empty
abbrev pub words : List ℕ → List (List ℕ)
words text = filter (λ w. nat_lt 0 (length w)) (slice_split (λ b. b == 32) text)
