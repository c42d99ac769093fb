-- A letter and a number are a name.
use Rattle.std.proofs.Common.{◌≡◌, ℕ, ◌<◌, ◌^◌, ◌≤◌, true, ◌&&◌, ap, refl, List, [], ◌∷◌, length, nat_le, if◌then◌else◌, arith, le-leb}
use Rattle.std.specs.Fmt.{decimal}
use Rattle.std.specs.List.{list_all}
use Rattle.std.specs.Str.Parse.{AllDigits}
use Rattle.std.proofs.lemmas.Bool.{and_from}
use Rattle.std.proofs.lemmas.Fmt.{decimal_is_IsNumeral, length-decimal-le}
use Rattle.std.proofs.lemmas.Str.Parse.{digit_from_value}
use Rattle.sg_model.specs.Names.{is_letter, is_name_byte, is_name}
use Rattle.sg_text.specs.Sessions.{numbered}

digit_is : (c : ℕ) → 48 ≤ c → c ≤ 57 → is_name_byte c ≡ true
digit_is c low high = ap (λ b. if b then true else (if nat_le 95 c && nat_le c 95 then true else is_letter c)) (and_from (nat_le 48 c) (nat_le c 57) (le-leb 48 c low) (le-leb c 57 high))

digits_are : (ds : List ℕ) → AllDigits 10 ds → list_all is_name_byte ds ≡ true
digits_are [] d = refl
digits_are (c ∷ cs) d = let k = digit_from_value c d.0 in and_from (is_name_byte c) (list_all is_name_byte cs) (digit_is c k.0 k.1) (digits_are cs d.1)

pub is_name-numbered : (letter n : ℕ) → is_letter letter ≡ true → n < 2 ^ 64 → is_name (numbered letter n) ≡ true
is_name-numbered letter n h small =
    let short : length (decimal n) ≤ 31 = omega (arith, length-decimal-le 20 n (omega arith) (omega arith) small) in
    and_from (is_letter letter && list_all is_name_byte (decimal n)) (nat_le (length (decimal n)) 31)
    (and_from (is_letter letter) (list_all is_name_byte (decimal n)) h (digits_are (decimal n) (decimal_is_IsNumeral n small).0.1))
    (le-leb (length (decimal n)) 31 short)
