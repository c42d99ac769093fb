-- The lines of bytes. Bytes behind the last line feed are no line.
use Rattle.std.specs.Prelude.{ℕ, ◌==◌, ◌≢◌, nat_le, if◌then◌else◌, List, [], ◌∷◌, ◌++◌, All, length, Option}
use Rattle.std.specs.List.{flat_map}
use Rattle.std.specs.Option.{option_map}

-- the bytes of a line, without its line feed
abbrev pub most_line_bytes : ℕ
most_line_bytes = 262144

-- no byte is a line feed
abbrev pub NoFeed : List ℕ → Type 0
NoFeed bytes = All (λ b. b ≢ 10) bytes

-- a line: its bytes without its line feed, or one of more bytes than a line may have
pub data Line : Type 0 where
  Whole : (bytes : List ℕ) → Line
  TooLong : Line

-- the line that has these bytes before its line feed
abbrev pub line_of : List ℕ → Line
line_of bytes = if nat_le (length bytes) most_line_bytes then Whole bytes else TooLong

-- the lines of bytes that come after a prefix of the first line
abbrev pub lines_behind : List ℕ → List ℕ → List Line
lines_behind prefix [] = []
lines_behind prefix (b ∷ bytes) =
    if b == 10 then line_of prefix ∷ lines_behind [] bytes else lines_behind (prefix ++ b ∷ []) bytes

-- the lines of bytes
abbrev pub lines_of : List ℕ → List Line
lines_of bytes = lines_behind [] bytes

-- the bytes of runs, each with a line feed behind it
abbrev pub ended : List (List ℕ) → List ℕ
ended runs = flat_map (λ run. run ++ 10 ∷ []) runs

-- the lines that are left if some bytes were read and not given yet, and these are to come, if they are known
abbrev pub lines_left : List ℕ → Option (List ℕ) → Option (List Line)
lines_left unread coming = option_map (λ bytes. lines_of (unread ++ bytes)) coming
