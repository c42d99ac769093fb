-- What the written words spell: numbers with a sign, texts with escapes, and hexadecimal digits.
use Rattle.std.specs.Prelude.{ℕ, ◌+◌, ◌*◌, ◌==◌, nat_lt, nat_le, Bool, false, not, ◌&&◌, if◌then◌else◌, List, [], ◌∷◌, length, Option, Some, None, is_some, option_map, option_and_then, unwrap_or, pos, neg_ℤ}
use Rattle.std.specs.Option.{option_map_or}
use Rattle.std.specs.Result.{result_ok}
use Rattle.std.specs.Str.{is_utf8}
use Rattle.hex.specs.Hex.{hex_digit_value, decode_of, decode_sized}
use Rattle.sg_model.specs.Values.{Value, IntValue, TextValue}
use Rattle.sg_model.specs.Limits.{most_text_bytes}
use Rattle.sg_base.specs.Words.{number, from_one}
use Rattle.sg_sched.specs.Format.LineContents.{Word}

-- ---- numbers

-- digits are a number below 2 ^ 63; after `-` they are one from 1 to 2 ^ 63
abbrev pub int_value : Word → Option Value
int_value [] = None
int_value (c ∷ cs) =
    if c == 45 then option_map (λ n. IntValue (neg_ℤ (pos n))) (option_and_then from_one (number 9223372036854775808 cs))
    else option_map (λ n. IntValue (pos n)) (number 9223372036854775807 (c ∷ cs))

-- ---- texts

-- a byte that may stand for itself: 0x21 to 0x7E, but not `"` and `\`
abbrev pub is_plain : ℕ → Bool
is_plain c = nat_le 33 c && nat_le c 126 && not (c == 34) && not (c == 92)

-- the byte of two hexadecimal digits of either case
abbrev pub hex_byte : ℕ → ℕ → Option ℕ
hex_byte high low = option_and_then (λ h. option_map (λ l. h * 16 + l) (hex_digit_value low)) (hex_digit_value high)

-- x comes before the others, if it is there and they are
abbrev pub put_before : Option ℕ → Option (List ℕ) → Option (List ℕ)
put_before x xs = option_and_then (λ y. option_map (λ ys. y ∷ ys) xs) x

-- what stands up to the closing `"`, with which the word ends: bytes for themselves, and \xHH for any byte
abbrev pub text_bytes : List ℕ → Option (List ℕ)
text_bytes [] = None
text_bytes (q ∷ []) = if q == 34 then Some [] else None
text_bytes (c ∷ x ∷ []) = put_before (if is_plain c then Some c else None) (text_bytes (x ∷ []))
text_bytes (c ∷ x ∷ h ∷ []) = put_before (if is_plain c then Some c else None) (text_bytes (x ∷ h ∷ []))
text_bytes (c ∷ x ∷ h ∷ l ∷ cs) =
    if c == 92 then (if x == 120 then put_before (hex_byte h l) (text_bytes cs) else None)
    else put_before (if is_plain c then Some c else None) (text_bytes (x ∷ h ∷ l ∷ cs))

-- UTF-8 of at most 1,024 bytes
abbrev pub as_text : List ℕ → Option Value
as_text bs = if is_utf8 bs && nat_le (length bs) most_text_bytes then Some (TextValue bs) else None

-- a text between double quotes
abbrev pub text_value : Word → Option Value
text_value [] = None
text_value (c ∷ cs) = if c == 34 then option_and_then as_text (text_bytes cs) else None

-- ---- values and bytes

-- the value that a word spells: a text if it begins with `"`, otherwise a number
abbrev pub spelled_value : Word → Option Value
spelled_value [] = None
spelled_value (c ∷ cs) = if c == 34 then text_value (c ∷ cs) else int_value (c ∷ cs)

-- the word spells a value
abbrev pub is_value : Word → Bool
is_value w = is_some (spelled_value w)

-- the value of a word that spells one
abbrev pub value_of : Word → Value
value_of w = unwrap_or (spelled_value w) (TextValue [])

-- the bytes of hexadecimal digits of either case
abbrev pub hex_bytes : Word → Option (List ℕ)
hex_bytes w = result_ok (decode_of w)

-- the digits are of this many bytes
abbrev pub is_hex_of : ℕ → Word → Bool
is_hex_of n w = is_some (result_ok (decode_sized w n))

-- the digits are of one byte or more
abbrev pub is_hex : Word → Bool
is_hex w = option_map_or (λ bs. nat_lt 0 (length bs)) (hex_bytes w) false

-- the bytes of digits that are of some
abbrev pub bytes_of : Word → List ℕ
bytes_of w = unwrap_or (hex_bytes w) []
