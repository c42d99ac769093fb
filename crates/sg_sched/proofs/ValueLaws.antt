-- How written values are read byte by byte.
use Rattle.std.proofs.Common.{◌≡◌, ◌≢◌, ◌≤◌, length, ℕ, ◌+◌, ◌*◌, ◌==◌, Bool, true, false, not, ◌&&◌, nat_le, List, [], ◌∷◌, ◌++◌, append_assoc, slice_index, Option, Some, None, option_map, option_and_then, Ok, refl, sym, ap}
use Rattle.std.specs.Result.{result_ok}
use Rattle.std.proofs.lemmas.Bool.{eqb-true, leb-true, le-leb, not-true}
use Rattle.std.proofs.lemmas.Str.{IsUtf8-from_is_utf8, is_utf8-from_IsUtf8}
use Rattle.std.specs.Str.{IsUtf8, is_utf8}
use Rattle.sg_model.specs.Values.{TextValue}
use Rattle.sg_model.proofs.Small.{and_left, and_right}
use Rattle.hex.specs.Hex.{hex_digit_value, digit_or_error, ◌>>=◌, decode_sized, decode_pairs}
use Rattle.sg_sched.specs.Format.Values.{is_plain, hex_byte, put_before, text_bytes, as_text}

-- two digits are one byte
pub hex_two : (h l : ℕ) → hex_byte h l ≡ option_map (λ bs. slice_index bs 0) (result_ok (decode_sized (h ∷ l ∷ []) 1))
unfolding decode_pairs
hex_two h l = by (hex_digit_value h) (hex_digit_value l)
  where
    by : (x y : Option ℕ) → option_and_then (λ a. option_map (λ b. a * 16 + b) y) x
        ≡ option_map (λ bs. slice_index bs 0) (result_ok ((digit_or_error h 0 x >>= (λ a. digit_or_error l (0 + 1) y >>= (λ b. Ok (a * 16 + b)))) >>= (λ byte. Ok [] >>= (λ bytes. Ok (byte ∷ bytes)))))
    by None y = refl
    by (Some a) None = refl
    by (Some a) (Some b) = refl

-- a byte that stands for itself is no quote and no backslash
pub no_quote : (c : ℕ) → is_plain c ≡ true → (c == 34) ≡ false
no_quote c h = not-true (c == 34) (and_right (nat_le 33 c && nat_le c 126) (not (c == 34)) (and_left (nat_le 33 c && nat_le c 126 && not (c == 34)) (not (c == 92)) h))

no_backslash : (c : ℕ) → is_plain c ≡ true → (c == 92) ≡ false
no_backslash c h = not-true (c == 92) (and_right (nat_le 33 c && nat_le c 126 && not (c == 34)) (not (c == 92)) h)

-- a byte that stands for itself
pub plain_step : (c : ℕ) (cs : List ℕ) → is_plain c ≡ true → text_bytes (c ∷ cs) ≡ put_before (Some c) (text_bytes cs)
plain_step c [] h = rw (no_quote c h) refl
plain_step c (x ∷ []) h = rw h refl
plain_step c (x ∷ y ∷ []) h = rw h refl
plain_step c (x ∷ y ∷ z ∷ cs) h = rw (h, no_backslash c h) refl

-- a byte that doesn't stand for itself, begins no escape and isn't the end
pub other_step : (c : ℕ) (cs : List ℕ) → is_plain c ≡ false → (c == 92) ≡ false → (c ∷ cs) ≢ (34 ∷ []) → text_bytes (c ∷ cs) ≡ None
other_step c [] h e n = by (c == 34) refl
  where
    by : (b : Bool) → (c == 34) ≡ b → text_bytes (c ∷ []) ≡ None
    by true q = absurd (n (ap (λ x. x ∷ []) (eqb-true c 34 q)))
    by false q = rw q refl
other_step c (x ∷ []) h e n = rw h refl
other_step c (x ∷ y ∷ []) h e n = rw h refl
other_step c (x ∷ y ∷ z ∷ cs) h e n = rw (h, e) refl

-- an escape with another letter
pub escape_other : (x h l : ℕ) (cs : List ℕ) → (x == 120) ≡ false → text_bytes (92 ∷ x ∷ h ∷ l ∷ cs) ≡ None
escape_other x h l cs e = rw e refl

-- an escape
pub escape_step : (x h l : ℕ) (cs : List ℕ) → (x == 120) ≡ true → text_bytes (92 ∷ x ∷ h ∷ l ∷ cs) ≡ put_before (hex_byte h l) (text_bytes cs)
escape_step x h l cs e = rw e refl

-- the bytes before those that are still to be read
abbrev pub with_prefix : List ℕ → Option (List ℕ) → Option (List ℕ)
with_prefix prefix o = option_map (λ rest. prefix ++ rest) o

pub prefix_step : (prefix : List ℕ) (c : ℕ) (o : Option (List ℕ)) → with_prefix prefix (put_before (Some c) o) ≡ with_prefix (prefix ++ c ∷ []) o
prefix_step prefix c None = refl
prefix_step prefix c (Some bs) = ap Some (sym (append_assoc prefix (c ∷ []) bs))

-- a text of bytes that are one
pub text_kept : (bs : List ℕ) → IsUtf8 bs × (length bs ≤ 1024) → as_text bs ≡ Some (TextValue bs)
text_kept bs h = let a : is_utf8 bs ≡ true = is_utf8-from_IsUtf8 bs h.0 in let b : nat_le (length bs) 1024 ≡ true = le-leb (length bs) 1024 h.1 in rw (a, b) refl

-- no text of other bytes
pub text_refused : (bs : List ℕ) → (IsUtf8 bs → length bs ≤ 1024 → ⊥) → as_text bs ≡ None
text_refused bs h = by (is_utf8 bs) (nat_le (length bs) 1024) refl refl
  where
    by : (a b : Bool) → is_utf8 bs ≡ a → nat_le (length bs) 1024 ≡ b → as_text bs ≡ None
    by true true e f = absurd (h (IsUtf8-from_is_utf8 bs e) (leb-true (length bs) 1024 f))
    by true false e f = rw (e, f) refl
    by false b e f = rw e refl
