-- A field at an offset.
use Rattle.std.proofs.Common.{◌≡◌, ℕ, ◌+◌, ◌≤◌, nat_le, Bool, true, false, List, [], ◌∷◌, length, Ok, Err, arith, length-drop, refl}
use Rattle.std.specs.Str.{IsUtf8, is_utf8}
use Rattle.std.proofs.lemmas.Str.{IsUtf8-from_is_utf8}
use Rattle.std.proofs.lemmas.List.{length-take-le, drop_all}
use Rattle.std.proofs.lemmas.Bool.{le-leb}
use Rattle.std.proofs.Math.Seq.{drop-drop}
use Rattle.std.specs.Int.{Width, byte_len, from_be_bytes}
use Rattle.sg_base.specs.Reading.{Cursor, past}
use Rattle.sg_base.specs.Reading as here
use Rattle.sg_protocol.specs.Reading.{field, number, is_within, if_none_left}
use Rattle.sg_frame.specs.Reads.{left}

-- n bytes are left at the offset
pub there : (n : ℕ) (p : Cursor) → p.at + n ≤ length p.bytes → nat_le n (length (left p)) ≡ true
there n p h = le-leb n (length (left p)) (simp length-drop (omega arith))

-- the bytes are there and pass
pub field_found : (n : ℕ) (test : List ℕ → Bool) (p : Cursor) → p.at + n ≤ length p.bytes → test (here.field p n) ≡ true →
    field n test p.at (left p) ≡ Ok (record { value = here.field p n; at = p.at + n; rest = left (past p n) })
field_found n test p h t = rw (there n p h, t, drop-drop n p.at p.bytes)

-- the number is there and in its range
pub number_found : (w : Width) (low high v : ℕ) (p : Cursor) → p.at + byte_len w ≤ length p.bytes → v ≡ from_be_bytes w (here.field p (byte_len w)) → low ≤ v → v ≤ high →
    number w low high p.at (left p) ≡ Ok (record { value = v; at = p.at + byte_len w; rest = left (past p (byte_len w)) })
number_found w low high v p h e l u =
    let inside : is_within low high (from_be_bytes w (here.field p (byte_len w))) ≡ true = rw (← e, le-leb low v l) (le-leb v high u) in
    rw (field_found (byte_len w) (λ bs. is_within low high (from_be_bytes w bs)) p h inside, e)

-- the bytes are there and do not pass
pub field_refused : (n : ℕ) (test : List ℕ → Bool) (p : Cursor) → p.at + n ≤ length p.bytes → test (here.field p n) ≡ false → field n test p.at (left p) ≡ Err p.at
field_refused n test p h t = rw (there n p h, t)

-- a field has its length
pub field_long : (n : ℕ) (p : Cursor) → p.at + n ≤ length p.bytes → length (here.field p n) ≡ n
field_long n p h = length-take-le n (left p) (simp length-drop (omega arith))

-- what is no text is not UTF-8
pub no_utf8 : (bs : List ℕ) → (IsUtf8 bs → ⊥) → is_utf8 bs ≡ false
no_utf8 bs h = go (is_utf8 bs) refl
  where
    go : (b : Bool) → is_utf8 bs ≡ b → b ≡ false
    go true e = absurd (h (IsUtf8-from_is_utf8 bs e))
    go false e = refl

-- the bytes are there and no text, if they are short enough to be read as one and aren't
pub text_refused : (n : ℕ) (p : Cursor) (bs : List ℕ) → n ≤ 1024 → p.at + n ≤ length p.bytes → bs ≡ here.field p n → (IsUtf8 bs → length bs ≤ 1024 → ⊥) →
    field n is_utf8 p.at (left p) ≡ Err p.at
text_refused n p bs fits h e not_read =
    let short : length bs ≤ 1024 = rw (e, field_long n p h) fits in
    field_refused n is_utf8 p h (rw e at (no_utf8 bs (λ text. not_read text short)))

-- no byte is left at the end
pub none_left : {A : Type 0} (x : A) (p : Cursor) → (p.at + 1 ≤ length p.bytes → ⊥) → if_none_left x p.at (left p) ≡ Ok x
none_left x p h = rw (drop_all p.at p.bytes (omega arith))

-- a byte is left before the end
pub some_left : {A : Type 0} (x : A) (p : Cursor) → p.at + 1 ≤ length p.bytes → if_none_left x p.at (left p) ≡ Err p.at
some_left x p h = go (left p) (simp length-drop (omega arith))
  where
    go : (bs : List ℕ) → 1 ≤ length bs → if_none_left x p.at bs ≡ Err p.at
    go [] l = absurd (omega arith)
    go (b ∷ bs) l = refl
