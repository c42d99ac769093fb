-- What words spell: decimal numbers, bytes in hexadecimal digits, names.
use Rattle.std.specs.Prelude.{ℕ, ◌+◌, ◌-◌, ◌*◌, ◌==◌, nat_lt, nat_le, Bool, not, ◌&&◌, if◌then◌else◌, List, length, slice_index, fold, Option, Some, None}
use Rattle.std.specs.List.{list_all}
use Rattle.std.specs.Result.{result_ok}
use Rattle.hex.specs.Hex.{decode_sized}
use Rattle.sg_model.specs.Names.{Name, is_name}

-- a decimal digit
abbrev pub is_digit : ℕ → Bool
is_digit c = nat_le 48 c && nat_le c 57

-- a zero stands first, and more follows
abbrev pub has_needless_zero : List ℕ → Bool
has_needless_zero word = slice_index word 0 == 48 && nat_lt 1 (length word)

-- the number that digits spell
abbrev pub value : List ℕ → ℕ
value word = fold (λ n c. n * 10 + (c - 48)) 0 word

-- the number, if it is at most `most`
abbrev pub up_to : ℕ → ℕ → Option ℕ
up_to most n = if nat_le n most then Some n else None

-- a number up to `most`: digits without a sign or a needless zero
unfoldable pub number : ℕ → List ℕ → Option ℕ
number most word = if nat_lt 0 (length word) && not (has_needless_zero word) && list_all is_digit word then up_to most (value word) else None

-- a number from 1 on
abbrev pub from_one : ℕ → Option ℕ
from_one n = if nat_lt 0 n then Some n else None

-- `count` bytes: two hexadecimal digits of either case for each, and nothing else
unfoldable pub hex_bytes : ℕ → List ℕ → Option (List ℕ)
hex_bytes count word = result_ok (decode_sized word count)

-- a name
unfoldable pub name : List ℕ → Option Name
name word = if is_name word then Some word else None
