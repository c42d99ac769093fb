-- Written values and digits are values and bytes in their ranges.
use Rattle.std.proofs.Common.{◌≡◌, ℕ, ◌+◌, ◌-◌, ◌*◌, ◌<◌, ◌≤◌, ◌^◌, ◌==◌, ◌%◌, ◌/◌, Bool, true, false, not, ◌&&◌, List, [], ◌∷◌, length, refl, arith, if◌then◌else◌}
use Rattle.std.specs.Prelude.{Option, Some, None, option_map, option_and_then, unwrap_or, is_some, nat_le, IfSome, Result, Ok, Err, pos, neg_ℤ, FitsSigned}
use Rattle.std.specs.Int.{w64}
use Rattle.std.specs.Result.{result_ok}
use Rattle.std.specs.Str.{is_utf8}
use Rattle.std.proofs.lemmas.Bool.{leb-true, eqb-true, and_parts}
use Rattle.std.proofs.lemmas.Int.{ints}
use Rattle.hex.specs.Hex.{hex_digit_value, decode_pairs}
use Rattle.hex.proofs.HexLemmas.{decode_pairs-ok}
use Rattle.hex.specs.declared.error.FromHexError.{FromHexError}
use Rattle.hex.specs.declared.error.FromHexError.TheVariants.{OddLength, InvalidStringLength}
use Rattle.sg_model.specs.Bytes.{IsBytes, AreBytes}
use Rattle.sg_model.specs.Values.{Value, IntValue, TextValue}
use Rattle.sg_protocol.specs.Frame.{IsValue}
use Rattle.sg_protocol.proofs.Spelled.{Bytes_, to_bytes}
use Rattle.sg_base.specs.Words.{number, from_one}
use Rattle.sg_sched.specs.Format.Values.{int_value, is_plain, hex_byte, put_before, text_bytes, as_text, spelled_value, is_value, value_of, is_hex_of, bytes_of}
use Rattle.sg_sched.proofs.NumberLaws.{number_is}

-- ---- digits

digit_small : (c : ℕ) → IfSome (hex_digit_value c) (λ v. v < 16)
digit_small c = by (nat_le 65 c && nat_le c 70) (nat_le 97 c && nat_le c 102) (nat_le 48 c && nat_le c 57) refl refl refl
  where
    by : (p q r : Bool) → (nat_le 65 c && nat_le c 70) ≡ p → (nat_le 97 c && nat_le c 102) ≡ q → (nat_le 48 c && nat_le c 57) ≡ r
        → IfSome (if p then Some (c - 55) else if q then Some (c - 87) else if r then Some (c - 48) else None) (λ v. v < 16)
    by true q r e f g = let k = leb-true c 70 (and_parts (nat_le 65 c) (nat_le c 70) e).1 in omega (arith, k)
    by false true r e f g = let k = leb-true c 102 (and_parts (nat_le 97 c) (nat_le c 102) f).1 in omega (arith, k)
    by false false true e f g = let k = leb-true c 57 (and_parts (nat_le 48 c) (nat_le c 57) g).1 in omega (arith, k)
    by false false false e f g = tt

-- ---- texts

put_has : (o : Option ℕ) (os : Option (List ℕ)) → IfSome o (λ b. b < 256) → IfSome os Bytes_ → IfSome (put_before o os) Bytes_
put_has None os a b = tt
put_has (Some x) None a b = tt
put_has (Some x) (Some xs) a b = (a, b)

plain_has : (c : ℕ) → IfSome (if is_plain c then Some c else None) (λ b. b < 256)
plain_has c = by (is_plain c) refl
  where
    by : (p : Bool) → is_plain c ≡ p → IfSome (if p then Some c else None) (λ b. b < 256)
    by true e =
        let k = (and_parts (nat_le 33 c && nat_le c 126 && not (c == 34)) (not (c == 92)) e).0 in
        let m = (and_parts (nat_le 33 c && nat_le c 126) (not (c == 34)) k).0 in
        let n = leb-true c 126 (and_parts (nat_le 33 c) (nat_le c 126) m).1 in
        omega (arith, n)
    by false e = tt

hex_has : (h l : ℕ) → IfSome (hex_byte h l) (λ b. b < 256)
hex_has h l = by (hex_digit_value h) (hex_digit_value l) (digit_small h) (digit_small l)
  where
    by : (x y : Option ℕ) → IfSome x (λ v. v < 16) → IfSome y (λ v. v < 16) → IfSome (option_and_then (λ a. option_map (λ b. a * 16 + b) y) x) (λ b. b < 256)
    by None y p q = tt
    by (Some a) None p q = tt
    by (Some a) (Some b) p q = omega (arith, p, q)

text_has : (w : List ℕ) → IfSome (text_bytes w) Bytes_
text_has [] = tt
text_has (q ∷ []) = by (q == 34)
  where
    by : (b : Bool) → IfSome (if b then Some [] else None) Bytes_
    by true = tt
    by false = tt
text_has (c ∷ x ∷ []) = put_has (if is_plain c then Some c else None) (text_bytes (x ∷ [])) (plain_has c) (text_has (x ∷ []))
text_has (c ∷ x ∷ h ∷ []) = put_has (if is_plain c then Some c else None) (text_bytes (x ∷ h ∷ [])) (plain_has c) (text_has (x ∷ h ∷ []))
text_has (c ∷ x ∷ h ∷ l ∷ cs) = by (c == 92) (x == 120) (text_has cs) (text_has (x ∷ h ∷ l ∷ cs))
  where
    by : (p q : Bool) → IfSome (text_bytes cs) Bytes_ → IfSome (text_bytes (x ∷ h ∷ l ∷ cs)) Bytes_
        → IfSome (if p then (if q then put_before (hex_byte h l) (text_bytes cs) else None) else put_before (if is_plain c then Some c else None) (text_bytes (x ∷ h ∷ l ∷ cs))) Bytes_
    by true true a b = put_has (hex_byte h l) (text_bytes cs) (hex_has h l) a
    by true false a b = tt
    by false q a b = put_has (if is_plain c then Some c else None) (text_bytes (x ∷ h ∷ l ∷ cs)) (plain_has c) b

as_text_is : (bs : List ℕ) → Bytes_ bs → IfSome (as_text bs) IsValue
as_text_is bs a = by (is_utf8 bs) (nat_le (length bs) 1024) refl refl
  where
    by : (p q : Bool) → is_utf8 bs ≡ p → nat_le (length bs) 1024 ≡ q → IfSome (if p && q then Some (TextValue bs) else None) IsValue
    by true true e f = (e, leb-true (length bs) 1024 f, to_bytes bs a)
    by true false e f = tt
    by false q e f = tt

-- ---- numbers

number_few : (most : ℕ) (w : List ℕ) → most < 2 ^ 64 → IfSome (number most w) (λ n. n ≤ most)
number_few most w l = by (number most w) refl
  where
    by : (o : Option ℕ) → number most w ≡ o → IfSome o (λ n. n ≤ most)
    by None e = tt
    by (Some n) e = leb-true n most (number_is most w n l e).within

up_fits : (n : ℕ) → n ≤ 9223372036854775807 → FitsSigned w64 (pos n)
up_fits n h = omega (arith, ints, h)

down_fits : (n : ℕ) → n ≤ 9223372036854775808 → FitsSigned w64 (neg_ℤ (pos n))
down_fits n h = omega (arith, ints, h)

int_is : (w : List ℕ) → IfSome (int_value w) IsValue
int_is [] = tt
int_is (c ∷ cs) = by (c == 45) (number 9223372036854775808 cs) (number 9223372036854775807 (c ∷ cs)) (number_few 9223372036854775808 cs (omega arith)) (number_few 9223372036854775807 (c ∷ cs) (omega arith))
  where
    above : (n : ℕ) → n ≤ 9223372036854775808 → (b : Bool) → IfSome (option_map (λ n. IntValue (neg_ℤ (pos n))) (if b then Some n else None)) IsValue
    above n h true = down_fits n h
    above n h false = tt

    by : (b : Bool) (x y : Option ℕ) → IfSome x (λ n. n ≤ 9223372036854775808) → IfSome y (λ n. n ≤ 9223372036854775807)
        → IfSome (if b then option_map (λ n. IntValue (neg_ℤ (pos n))) (option_and_then from_one x) else option_map (λ n. IntValue (pos n)) y) IsValue
    by true None y p q = tt
    by true (Some n) y p q = above n p _
    by false x None p q = tt
    by false x (Some n) p q = up_fits n q

-- ---- values

value_some : (w : List ℕ) → IfSome (spelled_value w) IsValue
value_some [] = tt
value_some (c ∷ cs) = by (c == 34) refl
  where
    text : (o : Option (List ℕ)) → IfSome o Bytes_ → IfSome (option_and_then as_text o) IsValue
    text None a = tt
    text (Some bs) a = as_text_is bs a

    by : (b : Bool) → (c == 34) ≡ b → IfSome (if b then (if c == 34 then option_and_then as_text (text_bytes cs) else None) else int_value (c ∷ cs)) IsValue
    by true e = rw e (text (text_bytes cs) (text_has cs))
    by false e = int_is (c ∷ cs)

-- a word that spells a value spells one in its range
pub value_is : (w : List ℕ) → is_value w ≡ true → IsValue (value_of w)
value_is w h = by (spelled_value w) h (value_some w)
  where
    by : (o : Option Value) → is_some o ≡ true → IfSome o IsValue → IsValue (unwrap_or o (TextValue []))
    by None h a = absurd (cc)
    by (Some v) h a = a

-- ---- digits of bytes

-- what the digits are of, if of something
abbrev Decoded : List ℕ → Result (List ℕ) FromHexError → Type 0
Decoded w r = IfSome (result_ok r) (λ bs. (length w ≡ 2 * length bs) × IsBytes bs)

decoded : (w : List ℕ) → Decoded w (decode_pairs 0 w)
decoded w = by (decode_pairs 0 w) refl
  where
    by : (r : Result (List ℕ) FromHexError) → decode_pairs 0 w ≡ r → Decoded w r
    by (Err e) h = tt
    by (Ok bs) h = let k = decode_pairs-ok 0 w bs h in (k.1, k.2)

-- what digits are of is bytes
pub digits_are : (w : List ℕ) → IsBytes (bytes_of w)
digits_are w = by (length w % 2 == 1) (decode_pairs 0 w) (decoded w)
  where
    none : IsBytes []
    none i = omega arith

    by : (odd : Bool) (r : Result (List ℕ) FromHexError) → Decoded w r → IsBytes (unwrap_or (result_ok (if odd then Err OddLength else r)) [])
    by true r a = none
    by false (Err e) a = none
    by false (Ok bs) a = a.1

-- 64 digits are 32 bytes
pub key_is : (w : List ℕ) → is_hex_of 32 w ≡ true → AreBytes 32 (bytes_of w)
key_is w h = (by (length w % 2 == 1) (length w / 2 == 32) (decode_pairs 0 w) (decoded w) refl h, digits_are w)
  where
    by : (odd half : Bool) (r : Result (List ℕ) FromHexError) → Decoded w r → (length w / 2 == 32) ≡ half
        → is_some (result_ok (if odd then Err OddLength else if half then r else Err InvalidStringLength)) ≡ true → length (unwrap_or (result_ok (if odd then Err OddLength else r)) []) ≡ 32
    by true half r a e h = absurd (cc)
    by false false r a e h = absurd (cc)
    by false true (Err x) a e h = absurd (cc)
    by false true (Ok bs) a e h = let m = a.0 in let k : length w / 2 ≡ 32 = eqb-true (length w / 2) 32 e in omega (arith, m, k)
