-- Names are ASCII.
use Rattle.std.proofs.Common.{◌≡◌, ℕ, zero, suc, ◌<◌, true, ◌&&◌, List, [], ◌∷◌, length, get_or, arith, nat_le}
use Rattle.std.specs.List.{list_all}
use Rattle.std.specs.Str.{IsAscii, IsUtf8}
use Rattle.std.proofs.lemmas.Bool.Decides.{nat_tests}
use Rattle.std.proofs.lemmas.Str.{IsUtf8-from_ascii}
use Rattle.std.proofs.lemmas.Bool.{and_parts}
use Rattle.sg_model.specs.Names.{Name, is_letter, is_name_byte, is_name}

letter_low : (c : ℕ) → is_letter c ≡ true → c < 128
letter_low c h = grind (arith, nat_tests)

byte_low : (c : ℕ) → is_name_byte c ≡ true → c < 128
byte_low c h = grind (arith, nat_tests)

bytes_low : (cs : List ℕ) → list_all is_name_byte cs ≡ true → (i : ℕ) → get_or cs i 0 < 128
bytes_low [] h i = omega arith
bytes_low (c ∷ cs) h zero = byte_low c (and_parts (is_name_byte c) (list_all is_name_byte cs) h).0
bytes_low (c ∷ cs) h (suc i) = bytes_low cs (and_parts (is_name_byte c) (list_all is_name_byte cs) h).1 i

name_low : (n : Name) → is_name n ≡ true → IsAscii n
name_low [] h i = omega arith
name_low (c ∷ cs) h zero = letter_low c (and_parts (is_letter c) (list_all is_name_byte cs) (and_parts (is_letter c && list_all is_name_byte cs) (nat_le (length cs) 31) h).0).0
name_low (c ∷ cs) h (suc i) =
    bytes_low cs (and_parts (is_letter c) (list_all is_name_byte cs) (and_parts (is_letter c && list_all is_name_byte cs) (nat_le (length cs) 31) h).0).1 i

-- a name is UTF-8
pub name_text : (n : Name) → is_name n ≡ true → IsUtf8 n
name_text n h = IsUtf8-from_ascii n (name_low n h)
