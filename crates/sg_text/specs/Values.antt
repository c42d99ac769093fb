-- How values of variables are written.
use Rattle.std.specs.Prelude.{ℕ, ◌/◌, ◌%◌, nat_le, Bool, false, not, ◌&&◌, ◌==◌, if◌then◌else◌, List, [], ◌∷◌, ◌++◌, flat_map, codes, Option}
use Rattle.std.specs.Fmt.{signed_decimal, digit_glyph}
use Rattle.std.specs.Option.{option_map_or}
use Rattle.sg_model.specs.Last.{Map}
use Rattle.sg_model.specs.Values.{Value, IntValue, TextValue}
use Rattle.sg_protocol.specs.Graph.{Graph, variable_name}

-- the byte is written as it is between quotes
abbrev pub is_plain : ℕ → Bool
is_plain b = nat_le 0x21 b && nat_le b 0x7E && not (b == 34) && not (b == 92)

-- a byte as \x and two digits
abbrev pub escaped_byte : ℕ → List ℕ
escaped_byte b = 92 ∷ 120 ∷ digit_glyph false (b / 16) ∷ digit_glyph false (b % 16) ∷ []

-- a byte between quotes: itself, or \x and two digits
abbrev pub quoted_byte : ℕ → List ℕ
quoted_byte b = if is_plain b then b ∷ [] else escaped_byte b

-- a number in digits, a text between quotes
abbrev pub value_text : Value → List ℕ
value_text (IntValue z) = signed_decimal z
value_text (TextValue t) = 34 ∷ flat_map quoted_byte t ++ 34 ∷ []

-- a value, or ? if it is hidden
abbrev pub value_or_hidden : Option Value → List ℕ
value_or_hidden value = option_map_or value_text value (codes "?")

-- a variable and what it is given
abbrev pub assigned : Graph → ℕ → List ℕ → List ℕ
assigned g x text = variable_name g x ++ 61 ∷ text

-- a space and a value, for each
abbrev pub values_text : Graph → Map Value → List ℕ
values_text g values = flat_map (λ (w : ℕ × Value). 32 ∷ assigned g w.0 (value_text w.1)) values
