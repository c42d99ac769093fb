-- Decimal digits without a needless zero, and the number that they spell.
use Rattle.std.specs.Prelude.{◌≡◌, ℕ, zero, suc, ◌+◌, ◌-◌, ◌*◌, ◌<◌, ◌^◌, ◌==◌, nat_lt, nat_le, Bool, true, false, not, ◌&&◌, if◌then◌else◌, [], ◌∷◌, length, slice_index, get_or, fold, refl, Option, Some, None, option_and_then}
use Rattle.std.specs.List.{list_all}
use Rattle.std.specs.Fmt.{decimal}
use Rattle.std.proofs.Common.{sym, ◌∙◌, ap, subst, arith, true≢false}
use Rattle.std.proofs.lemmas.Grind.{common_steps}
use Rattle.std.proofs.lemmas.Bool.{leb-true, le-leb, ltb-true, lt-ltb, eqb-true}
use Rattle.std.proofs.lemmas.Fmt.{decimal_is_IsNumeral, first_decimal, decimal-digits_value, digits_decimal, digits_value-decimal}
use Rattle.std.proofs.lemmas.Str.Parse.{IsNumeralModel, IsDigitsTest, numerals_by_fold}
use Rattle.sg_model.proofs.Small.{and_left, and_right, some_same}
use Rattle.sg_base.specs.Words.{number, from_one, up_to, value, is_digit, has_needless_zero}
use Rattle.sg_sched.specs.Words.{frame, numbered}
use Rattle.sg_sched.specs.Format.LineContents.{Word, frame_word}
use Rattle.sg_sched.specs.Format.Forms.{is_short, is_wide, is_frame}
use Rattle.sg_sched.proofs.FormLaws.{none_some}
use Rattle.sg_sched.proofs.FormatWords.{both}

decides_digits : IsDigitsTest (λ ds. list_all is_digit ds ≡ true)
decides_digits = record {
  empty = refl;
  parts = λ c cs e. let k = and_left (is_digit c) (list_all is_digit cs) e in ((leb-true 48 c (and_left (nat_le 48 c) (nat_le c 57) k), leb-true c 57 (and_right (nat_le 48 c) (nat_le c 57) k)), and_right (is_digit c) (list_all is_digit cs) e);
  more = λ c cs k e. both (both (le-leb 48 c k.0) (le-leb c 57 k.1)) e;
}

own : IsNumeralModel (λ ds. list_all is_digit ds ≡ true) value
own = numerals_by_fold (λ ds. list_all is_digit ds ≡ true) decides_digits (λ n ds. fold (λ m c. m * 10 + (c - 48)) n ds) (record { empty = λ n. refl; more = λ n c cs k. refl })

pub record NumberIs (most : ℕ) (w : Word) (n : ℕ) : Type 0 where
  pub same : w ≡ decimal n
  pub within : nat_le n most ≡ true

no_zero : (w : Word) → not (has_needless_zero w) ≡ true → 0 < length w → get_or w 0 0 ≡ 48 → length w ≡ 1
no_zero w h some z = by (nat_lt 1 (length w)) refl
  where
    by : (b : Bool) → nat_lt 1 (length w) ≡ b → length w ≡ 1
    by true e = let first : (slice_index w 0 == 48) ≡ true = grind (arith, common_steps) in absurd (true≢false (sym h ∙ ap not (both first e)))
    by false e = grind (arith, common_steps)

pub number_is : (most : ℕ) (w : Word) (n : ℕ) → most < 2 ^ 64 → number most w ≡ Some n → NumberIs most w n
unfolding number
number_is most w n l h = by (nat_lt 0 (length w) && not (has_needless_zero w) && list_all is_digit w) refl h
  where
    in_range : (b : Bool) → nat_le (value w) most ≡ b → (if b then Some (value w) else None) ≡ Some n → (value w ≡ n) × (nat_le (value w) most ≡ true)
    in_range true e h = (some_same h, e)
    in_range false e h = none_some h

    by : (b : Bool) → (nat_lt 0 (length w) && not (has_needless_zero w) && list_all is_digit w) ≡ b → (if b then up_to most (value w) else None) ≡ Some n → NumberIs most w n
    by false e h = none_some h
    by true e h =
        let r = in_range (nat_le (value w) most) refl h in
        let prefix = and_left (nat_lt 0 (length w) && not (has_needless_zero w)) (list_all is_digit w) e in
        let some = ltb-true 0 (length w) (and_left (nat_lt 0 (length w)) (not (has_needless_zero w)) prefix) in
        let plain = and_right (nat_lt 0 (length w)) (not (has_needless_zero w)) prefix in
        let digits = and_right (nat_lt 0 (length w) && not (has_needless_zero w)) (list_all is_digit w) e in
        let small : value w < 2 ^ 64 = omega (arith, leb-true (value w) most r.1, l) in
        record { same = sym (ap decimal (sym r.0) ∙ decimal-digits_value own w digits some (no_zero w plain some) small); within = subst (λ m. nat_le m most ≡ true) r.0 r.1 }

plain_decimal : (n : ℕ) → n < 2 ^ 64 → has_needless_zero (decimal n) ≡ false
plain_decimal zero l = let zero_is : decimal 0 ≡ 48 ∷ [] = decimal-digits_value own (48 ∷ []) refl (omega arith) (λ _. refl) (omega arith) in ap has_needless_zero zero_is
plain_decimal (suc n) l = let first = first_decimal (suc n) (omega arith) l in
    let other : (slice_index (decimal (suc n)) 0 == 48) ≡ false = grind (arith, common_steps) in ap (λ b. b && nat_lt 1 (length (decimal (suc n)))) other

pub number_ok : (most n : ℕ) → most < 2 ^ 64 → nat_le n most ≡ true → number most (decimal n) ≡ Some n
unfolding number
number_ok most n l h =
    let small : n < 2 ^ 64 = omega (arith, leb-true n most h, l) in
    let some : nat_lt 0 (length (decimal n)) ≡ true = lt-ltb 0 (length (decimal n)) (decimal_is_IsNumeral n small).0.0 in
    rw (some, plain_decimal n small, digits_decimal own n small, digits_value-decimal own n small, h) refl

pub short_is : (n : ℕ) → nat_le n 4294967295 ≡ true → is_short n ≡ true
short_is n h = lt-ltb n 4294967296 (omega (arith, leb-true n 4294967295 h))

pub is_short_of : (n : ℕ) → is_short n ≡ true → nat_le n 4294967295 ≡ true
is_short_of n h = le-leb n 4294967295 (omega (arith, ltb-true n 4294967296 h))

pub wide_is : (n : ℕ) → nat_le n 18446744073709551615 ≡ true → is_wide n ≡ true
wide_is n h = lt-ltb n 18446744073709551616 (omega (arith, leb-true n 18446744073709551615 h))

pub is_wide_of : (n : ℕ) → is_wide n ≡ true → nat_le n 18446744073709551615 ≡ true
is_wide_of n h = le-leb n 18446744073709551615 (omega (arith, ltb-true n 18446744073709551616 h))

-- ---- a letter and a number

pub numbered_is : (letter : ℕ) (w : Word) (n : ℕ) → numbered letter w ≡ Some n → (w ≡ letter ∷ decimal n) × (is_frame n ≡ true)
numbered_is letter [] n h = none_some h
numbered_is letter (c ∷ cs) n h = by (c == letter) refl h
  where
    from : (k : ℕ) → number 4294967295 cs ≡ Some k → (c == letter) ≡ true → (b : Bool) → nat_lt 0 k ≡ b → (if b then Some k else None) ≡ Some n → ((c ∷ cs) ≡ letter ∷ decimal n) × (is_frame n ≡ true)
    from k e f true z h =
        let d = number_is 4294967295 cs k (omega arith) e in
        subst (λ m. ((c ∷ cs) ≡ letter ∷ decimal m) × (is_frame m ≡ true)) (some_same h) ((λ i. eqb-true c letter f i ∷ d.same i), both z (short_is k d.within))
    from k e f false z h = none_some h

    found : (o : Option ℕ) → number 4294967295 cs ≡ o → (c == letter) ≡ true → option_and_then from_one o ≡ Some n → ((c ∷ cs) ≡ letter ∷ decimal n) × (is_frame n ≡ true)
    found None e f h = none_some h
    found (Some k) e f h = from k e f (nat_lt 0 k) refl h

    by : (b : Bool) → (c == letter) ≡ b → (if b then option_and_then from_one (number 4294967295 cs) else None) ≡ Some n → ((c ∷ cs) ≡ letter ∷ decimal n) × (is_frame n ≡ true)
    by true e h = found (number 4294967295 cs) refl e h
    by false e h = none_some h

pub numbered_ok : (letter n : ℕ) → is_frame n ≡ true → numbered letter (letter ∷ decimal n) ≡ Some n
numbered_ok letter n h =
    let same : (letter == letter) ≡ true = grind (arith, common_steps) in
    rw (same, number_ok 4294967295 n (omega arith) (is_short_of n (and_right (nat_lt 0 n) (is_short n) h)), and_left (nat_lt 0 n) (is_short n) h) refl

pub frame_is : (w : Word) (n : ℕ) → frame w ≡ Some n → (w ≡ frame_word n) × (is_frame n ≡ true)
unfolding frame
frame_is = numbered_is 102

pub frame_ok : (n : ℕ) → is_frame n ≡ true → frame (frame_word n) ≡ Some n
unfolding frame
frame_ok = numbered_ok 102
