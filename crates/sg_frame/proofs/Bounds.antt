-- A fault stands within the bytes, or at their end.
use Rattle.sg_protocol.specs.Frame.{Frame, tag_len}
use Rattle.std.proofs.Common.{◌==◌, not, bytes_eq, if◌then◌else◌, None, subst, ◌≡◌, ℕ, zero, suc, ◌+◌, ◌-◌, ◌≤◌, nat_le, Bool, true, false, ◌&&◌, List, [], ◌∷◌, length, take, drop, ◌++◌, replicate, Result, Ok, Err, refl, arith, length-drop}
use Rattle.std.proofs.lemmas.Bool.{leb-true, le-ltb}
use Rattle.std.specs.Int.{Width, w8, w16, w32, byte_len, from_be_bytes}
use Rattle.std.specs.Str.{is_utf8}
use Rattle.sg_model.specs.Names.{is_name}
use Rattle.sg_model.proofs.Small.{and_left}
use Rattle.sg_protocol.specs.Spelling.{magic}
use Rattle.sg_protocol.specs.Reading

-- behind what was read the rest still ends there, and a fault is not beyond
abbrev pub StaysWithin : {A : Type 0} → ℕ → Result (Reading.Read A) ℕ → Type 0
StaysWithin end (Ok r) = r.at + length r.rest ≡ end
StaysWithin end (Err at) = at ≤ end

-- so at each offset
pub record IsBounded {A : Type 0} (r : Reading.Reader A) : Type 0 where
  pub go : (at : ℕ) (bs : List ℕ) → StaysWithin (at + length bs) (r at bs)

bounded-field : (n : ℕ) (test : List ℕ → Bool) → IsBounded (Reading.field n test)
bounded-field n test = record { go = λ at bs. pick at bs (nat_le n (length bs) && test (take n bs)) (λ e. leb-true n (length bs) (and_left _ _ e)) }
  where
    pick : (at : ℕ) (bs : List ℕ) (b : Bool) → (b ≡ true → n ≤ length bs) →
        StaysWithin (at + length bs) (if b then Ok (record { value = take n bs; at = at + n; rest = drop n bs }) else Err at)
    pick at bs true h = let l : n ≤ length bs = h refl in simp length-drop (omega arith)
    pick at bs false h = omega arith

bounded-give : {A : Type 0} (x : A) → IsBounded (Reading.give x)
bounded-give x = record { go = λ at bs. refl }

bounded-after : {A B : Type 0} (r : Reading.Reader A) (k : A → Reading.Reader B) → IsBounded r → ((x : A) → IsBounded (k x)) → IsBounded (Reading.after r k)
bounded-after {A} {B} r k h hk = record { go = λ at bs. pick (at + length bs) (r at bs) (h.go at bs) }
  where
    pick : (end : ℕ) (res : Result (Reading.Read A) ℕ) → StaysWithin end res → StaysWithin end (Reading.on res k)
    pick end (Err at) s = s
    pick end (Ok o) s = subst (λ n. StaysWithin n (k o.value o.at o.rest)) s ((hk o.value).go o.at o.rest)

bounded-times : {A : Type 0} (n : ℕ) (r : Reading.Reader A) → IsBounded r → IsBounded (Reading.times n r)
bounded-times zero r h = bounded-give []
bounded-times (suc n) r h = bounded-after r _ h (λ x. bounded-after (Reading.times n r) _ (bounded-times n r h) (λ xs. bounded-give (x ∷ xs)))

bounded-rising : {A : Type 0} (key : A → ℕ) (n least : ℕ) (r : ℕ → Reading.Reader A) → ((k : ℕ) → IsBounded (r k)) → IsBounded (Reading.rising_times key n least r)
bounded-rising key zero least r h = bounded-give []
bounded-rising key (suc n) least r h =
    bounded-after (r least) _ (h least) (λ x. bounded-after (Reading.rising_times key n (suc (key x)) r) _ (bounded-rising key n (suc (key x)) r h) (λ xs. bounded-give (x ∷ xs)))

bounded-any : (n : ℕ) → IsBounded (Reading.any_bytes n)
bounded-any n = bounded-field n (λ bs. true)

bounded-number : (w : Width) (low high : ℕ) → IsBounded (Reading.number w low high)
bounded-number w low high = bounded-after (Reading.field (byte_len w) (λ bs. Reading.is_within low high (from_be_bytes w bs))) _ (bounded-field (byte_len w) (λ bs. Reading.is_within low high (from_be_bytes w bs))) (λ bs. bounded-give (from_be_bytes w bs))

bounded-tag : (v : ℕ) → IsBounded (Reading.read_tag v)
bounded-tag v = bounded-after (Reading.any_bytes (tag_len v)) _ (bounded-any (tag_len v)) (λ t. bounded-give (t ++ replicate (32 - tag_len v) 0))

bounded-name : IsBounded Reading.read_name
bounded-name = bounded-after _ _ (bounded-number w8 1 32) (λ n. bounded-field n is_name)

bounded-cast : (v : ℕ) → IsBounded (Reading.read_cast v)
bounded-cast v =
    bounded-after _ _ (bounded-any 32) λ graph.
    bounded-after _ _ (bounded-any 16) λ nonce.
    bounded-after _ _ (bounded-number w8 2 16) λ count.
    bounded-after _ _ (bounded-times count _ bounded-name) λ names.
    bounded-give _

bounded-map : (most high : ℕ) (r : Reading.Reader (List ℕ)) → IsBounded r → IsBounded (Reading.read_map most high r)
bounded-map most high r h =
    bounded-after _ _ (bounded-number w8 0 most) λ count.
    bounded-rising _ count 0 (Reading.read_pair high r) λ k.
    bounded-after _ _ (bounded-number w8 k high) λ x. bounded-after r _ h λ v. bounded-give (x, v)

bounded-item : (v : ℕ) → IsBounded (Reading.read_item v)
bounded-item v =
    bounded-after _ _ (bounded-number w8 0 15) λ role.
    bounded-after _ _ (bounded-number w16 0 511) λ label.
    bounded-after _ _ (bounded-number w32 1 1000000) λ time.
    bounded-after _ _ (bounded-map 32 31 _ (bounded-any 32)) λ delta.
    bounded-after _ _ (bounded-map 14 15 _ (bounded-tag v)) λ tags.
    bounded-give _

bounded-value : (b : Bool) → IsBounded (if b then Reading.read_int else Reading.read_text)
bounded-value true = bounded-after _ _ (bounded-number w32 8 8) λ n. bounded-after _ _ (bounded-any 8) λ bs. bounded-give _
bounded-value false = bounded-after _ _ (bounded-number w32 0 1024) λ n. bounded-after _ _ (bounded-field n is_utf8) λ bs. bounded-give _

bounded-opening : (least : ℕ) → IsBounded (Reading.read_opening least)
bounded-opening least =
    bounded-after _ _ (bounded-number w8 least 31) λ x.
    bounded-after _ _ (bounded-any 16) λ confounder.
    bounded-after _ _ (bounded-number w8 0 1) λ kind.
    bounded-after _ _ (bounded-value (kind == 0)) λ value.
    bounded-give _

bounded-join : (b : Bool) (v : ℕ) → IsBounded (if b then Reading.read_cast v else Reading.give None)
bounded-join true v = bounded-cast v
bounded-join false v = bounded-give None

bounded-frame_of : (v : ℕ) → IsBounded (Reading.read_frame_of v)
bounded-frame_of v =
    bounded-after _ _ (bounded-number w8 0 1) λ kind.
    bounded-after _ _ (bounded-any 32) λ sid.
    bounded-after _ _ (bounded-number w8 0 15) λ sender.
    bounded-after _ _ (bounded-field 1 (λ bs. Reading.is_within 0 15 (from_be_bytes w8 bs) && not (from_be_bytes w8 bs == sender))) λ receiver.
    bounded-after _ _ (bounded-join (kind == 0) v) λ join.
    bounded-after _ _ (bounded-number w16 1 65535) λ count.
    bounded-after _ _ (bounded-times count _ (bounded-item v)) λ items.
    bounded-after _ _ (bounded-number w8 0 32) λ opened.
    bounded-after _ _ (bounded-rising _ opened 0 Reading.read_opening bounded-opening) λ openings.
    bounded-after _ _ (bounded-tag v) λ tag.
    bounded-give _

bounded-version : IsBounded Reading.read_version
bounded-version = bounded-after _ _ (bounded-field 4 (λ bs. if bytes_eq bs (magic 1) then true else bytes_eq bs (magic 2))) λ bs. bounded-give (if bytes_eq bs (magic 2) then 2 else 1)

bounded-frame : IsBounded (Reading.after Reading.read_version Reading.read_frame_of)
bounded-frame = bounded-after Reading.read_version _ bounded-version bounded-frame_of

-- the offset of a fault is at most the number of the bytes
pub fault_within : (bs : List ℕ) (at : ℕ) → Reading.whole (Reading.after Reading.read_version Reading.read_frame_of 0 bs) ≡ Err at → at ≤ length bs
fault_within bs at e = pick (Reading.after Reading.read_version Reading.read_frame_of 0 bs) (bounded-frame.go 0 bs) e
  where
    rest : (f : Frame) (n : ℕ) (cs : List ℕ) → n + length cs ≡ 0 + length bs → Reading.if_none_left f n cs ≡ Err at → at ≤ length bs
    rest f n [] s e = cc
    rest f n (c ∷ cs) s e = let same : n ≡ at = cc in omega arith

    pick : (res : Result (Reading.Read Frame) ℕ) → StaysWithin (0 + length bs) res → Reading.whole res ≡ Err at → at ≤ length bs
    pick (Err n) s e = let same : n ≡ at = cc in omega arith
    pick (Ok r) s e = rest r.value r.at r.rest s e

-- bytes that are few enough are read whole
pub read_few : (bs : List ℕ) (res : Result Frame ℕ) → length bs ≤ 60000 → Reading.whole (Reading.after Reading.read_version Reading.read_frame_of 0 bs) ≡ res → Reading.read bs ≡ res
read_few bs res h e = rw (le-ltb 60000 (length bs) h) e
