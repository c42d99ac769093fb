-- Bytes that are read are the spelling of what is read.
use Rattle.std.specs.Prelude.{◌≡◌, ◌≢◌, ℕ, zero, suc, ◌+◌, ◌-◌, ◌^◌, ◌<◌, ◌≤◌, ◌==◌, nat_lt, nat_le, Bool, true, false, not, ◌&&◌, ◌⊎◌, if◌then◌else◌, List, [], ◌∷◌, ◌++◌, map, length, take, drop, replicate, bytes_eq, flat_map, refl, Option, Some, None, Result, Ok, Err, IfSome}
use Rattle.std.specs.List.{AllByRecursion, concat}
use Rattle.std.specs.Int.{Width, w8, w16, w32, w64, byte_len, from_be_bytes, cast_unsigned, cast_signed}
use Rattle.std.specs.Str.{is_utf8}
use Rattle.std.proofs.Common.{sym, ◌∙◌, ap, subst, inl, inr, arith}
use Rattle.std.proofs.lemmas.Slice.Eq.{bytes_eq-Decides}
use Rattle.std.proofs.lemmas.List.{append_assoc, append-nil, take-append-drop, length-take-le, length-append}
use Rattle.std.proofs.Math.Facts.{sfits_to_z, Fits-of_lt}
use Rattle.std.proofs.lemmas.Int.{of_z-to_z}
use Rattle.std.proofs.Math.Seq.{take-append_seam, drop-append_seam}
use Rattle.std.proofs.lemmas.Bool.{leb-true, ltb-false, le-ltb, eq-eqb, cases_Bool, and_from, not-true}
use Rattle.std.proofs.lemmas.Nat.{be_bytes_2, be_bytes_4, be_bytes_8}
use Rattle.sg_model.specs.Last.{Map}
use Rattle.sg_model.specs.Lists.{rises_from, keys_of}
use Rattle.sg_model.specs.Names.{Name, is_name}
use Rattle.sg_model.specs.Bytes
use Rattle.sg_protocol.specs.Reading
use Rattle.sg_protocol.specs.Spelling
use Rattle.sg_protocol.specs.Frame
use Rattle.sg_model.specs.Values
use Rattle.sg_model.proofs.Small.{and_left, and_right, clash}

-- ---- bytes

abbrev pub Small : List ℕ → Type 0
Small bs = AllByRecursion (λ b. b < 256) bs

pub small-bytes : (bs : List ℕ) → Bytes.IsBytes bs → Small bs
small-bytes [] h = tt
small-bytes (b ∷ bs) h = (h 0, small-bytes bs (λ i. h (suc i)))

pub bytes-small : (bs : List ℕ) → Small bs → Bytes.IsBytes bs
bytes-small [] h i = omega arith
bytes-small (b ∷ bs) h zero = h.0
bytes-small (b ∷ bs) h (suc i) = bytes-small bs h.1 i

small_parts : (xs ys : List ℕ) → Small (xs ++ ys) → Small xs × Small ys
small_parts [] ys h = (tt, h)
small_parts (x ∷ xs) ys h = let both : Small xs × Small ys = small_parts xs ys h.1 in ((h.0, both.0), both.1)

-- ---- readings

-- what a reading of the bytes gave: its spelling, and the bytes that are left
pub record Took {A : Type 0} (bs : List ℕ) (o : Reading.Read A) (spelled : List ℕ) : Type 0 where
  pub begins : bs ≡ spelled ++ o.rest
  pub small : Small spelled
  pub rest : Small o.rest

ok_same : {A : Type 0} (x y : A) → (let r : Result A ℕ = Ok x in r ≡ Ok y) → x ≡ y
ok_same x y e = cc

err_ok : {A C : Type 0} (e : ℕ) (x : A) → (let r : Result A ℕ = Err e in r ≡ Ok x) → C
err_ok e x h = cc

on-inv : {A B : Type 0} (res : Result (Reading.Read A) ℕ) (next : A → Reading.Reader B) (o : Reading.Read B) → Reading.on res next ≡ Ok o → (r : Reading.Read A) × (res ≡ Ok r) × (next r.value r.at r.rest ≡ Ok o)
on-inv (Err at) next o h = err_ok at o h
on-inv (Ok r) next o h = (r, refl, h)

abbrev chosen_field : ℕ → ℕ → List ℕ → Bool → Result (Reading.Read (List ℕ)) ℕ
chosen_field n at bs b = if b then Ok (record { value = take n bs; at = at + n; rest = drop n bs }) else Err at

took-field : (n : ℕ) (test : List ℕ → Bool) (at : ℕ) (bs : List ℕ) (o : Reading.Read (List ℕ)) → Small bs → Reading.field n test at bs ≡ Ok o → Took bs o o.value × (length o.value ≡ n) × (test o.value ≡ true)
took-field n test at bs o s h = go (cases_Bool (nat_le n (length bs) && test (take n bs)))
  where
    go : ((nat_le n (length bs) && test (take n bs)) ≡ true) ⊎ ((nat_le n (length bs) && test (take n bs)) ≡ false) → Took bs o o.value × (length o.value ≡ n) × (test o.value ≡ true)
    go (inr e) = err_ok at o (subst (λ b. chosen_field n at bs b ≡ Ok o) e h)
    go (inl e) =
        let out : Reading.Read (List ℕ) = record { value = take n bs; at = at + n; rest = drop n bs } in
        let same : out ≡ o = ok_same out o (subst (λ b. chosen_field n at bs b ≡ Ok o) e h) in
        let parts : Small (take n bs) × Small (drop n bs) = small_parts (take n bs) (drop n bs) (subst Small (sym (take-append-drop n bs)) s) in
        subst (λ (r : Reading.Read (List ℕ)). Took bs r r.value × (length r.value ≡ n) × (test r.value ≡ true)) same (
          record { begins = sym (take-append-drop n bs); small = parts.0; rest = parts.1 },
          length-take-le n bs (leb-true n (length bs) (and_left (nat_le n (length bs)) _ e)),
          and_right (nat_le n (length bs)) _ e,
        )

took-cons : {A B : Type 0} (bs : List ℕ) (r : Reading.Read A) (o : Reading.Read B) (xs ys : List ℕ) → Took bs r xs → Took r.rest o ys → Took bs o (xs ++ ys)
took-cons bs r o xs ys t u = record {
  begins = t.begins ∙ ap (λ l. xs ++ l) u.begins ∙ sym (append_assoc xs ys o.rest);
  small = both xs ys t.small u.small;
  rest = u.rest;
}
  where
    both : (xs ys : List ℕ) → Small xs → Small ys → Small (xs ++ ys)
    both [] ys h k = k
    both (x ∷ xs) ys h k = (h.0, both xs ys h.1 k)

took-nil : {A : Type 0} (o : Reading.Read A) → Small o.rest → Took o.rest o []
took-nil o s = record { begins = refl; small = tt; rest = s }

give-inv : {A : Type 0} (x : A) (at : ℕ) (bs : List ℕ) (o : Reading.Read A) → Reading.give x at bs ≡ Ok o → record { value = x; at = at; rest = bs } ≡ o
give-inv x at bs o h = ok_same (record { value = x; at = at; rest = bs }) o h

took-any : (n at : ℕ) (bs : List ℕ) (o : Reading.Read (List ℕ)) → Small bs → Reading.any_bytes n at bs ≡ Ok o → Took bs o o.value × Bytes.AreBytes n o.value
took-any n at bs o s h =
    let t : Took bs o o.value × (length o.value ≡ n) × (true ≡ true) = took-field n (λ x. true) at bs o s h in
    (t.0, (t.1, bytes-small o.value (t.0).small))

-- ---- numbers

took-number : (w : Width) (low high at : ℕ) (bs : List ℕ) (o : Reading.Read ℕ) → Small bs → Reading.number w low high at bs ≡ Ok o →
    (x : List ℕ) × Took bs o x × (length x ≡ byte_len w) × (o.value ≡ from_be_bytes w x) × (low ≤ o.value) × (o.value ≤ high)
took-number w low high at bs o s h =
    let test : List ℕ → Bool = λ x. Reading.is_within low high (from_be_bytes w x) in
    let i : (r : Reading.Read (List ℕ)) × (Reading.field (byte_len w) test at bs ≡ Ok r) × (Reading.give (from_be_bytes w r.value) r.at r.rest ≡ Ok o) = on-inv (Reading.field (byte_len w) test at bs) (λ x. Reading.give (from_be_bytes w x)) o h in
    let r : Reading.Read (List ℕ) = i.0 in
    let t : Took bs r r.value × (length r.value ≡ byte_len w) × (test r.value ≡ true) = took-field (byte_len w) test at bs r s i.1 in
    subst (λ (o : Reading.Read ℕ). (x : List ℕ) × Took bs o x × (length x ≡ byte_len w) × (o.value ≡ from_be_bytes w x) × (low ≤ o.value) × (o.value ≤ high))
    (give-inv (from_be_bytes w r.value) r.at r.rest o i.2) (
      r.value,
      record { begins = (t.0).begins; small = (t.0).small; rest = (t.0).rest },
      t.1,
      refl,
      leb-true low (from_be_bytes w r.value) (and_left (nat_le low (from_be_bytes w r.value)) _ t.2),
      leb-true (from_be_bytes w r.value) high (and_right (nat_le low (from_be_bytes w r.value)) _ t.2),
    )

one_byte : (x : List ℕ) → length x ≡ 1 → from_be_bytes w8 x ∷ [] ≡ x
one_byte [] h = absurd (omega (arith, h))
one_byte (b ∷ []) h = refl
one_byte (b ∷ c ∷ x) h = absurd (omega (arith, h))

took-u8 : (low high at : ℕ) (bs : List ℕ) (o : Reading.Read ℕ) → Small bs → Reading.number w8 low high at bs ≡ Ok o → Took bs o (Spelling.u8 o.value) × (low ≤ o.value) × (o.value ≤ high)
took-u8 low high at bs o s h =
    let n : (x : List ℕ) × Took bs o x × (length x ≡ 1) × (o.value ≡ from_be_bytes w8 x) × (low ≤ o.value) × (o.value ≤ high) = took-number w8 low high at bs o s h in
    (subst (Took bs o) (sym (ap (λ v. v ∷ []) n.3 ∙ one_byte n.0 n.2)) n.1, n.4, n.5)

took-u16 : (low high at : ℕ) (bs : List ℕ) (o : Reading.Read ℕ) → Small bs → Reading.number w16 low high at bs ≡ Ok o → Took bs o (Spelling.u16 o.value) × (low ≤ o.value) × (o.value ≤ high)
took-u16 low high at bs o s h =
    let n : (x : List ℕ) × Took bs o x × (length x ≡ 2) × (o.value ≡ from_be_bytes w16 x) × (low ≤ o.value) × (o.value ≤ high) = took-number w16 low high at bs o s h in
    (subst (Took bs o) (sym (be_bytes_2 n.0 o.value n.2 (bytes-small n.0 (n.1).small) n.3)) n.1, n.4, n.5)

took-u32 : (low high at : ℕ) (bs : List ℕ) (o : Reading.Read ℕ) → Small bs → Reading.number w32 low high at bs ≡ Ok o → Took bs o (Spelling.u32 o.value) × (low ≤ o.value) × (o.value ≤ high)
took-u32 low high at bs o s h =
    let n : (x : List ℕ) × Took bs o x × (length x ≡ 4) × (o.value ≡ from_be_bytes w32 x) × (low ≤ o.value) × (o.value ≤ high) = took-number w32 low high at bs o s h in
    (subst (Took bs o) (sym (be_bytes_4 n.0 o.value n.2 (bytes-small n.0 (n.1).small) n.3)) n.1, n.4, n.5)

-- ---- lists

-- a reader that reads what is spelled so, with a fact
abbrev ReadsBack : {A : Type 0} → Reading.Reader A → (A → List ℕ) → (A → Type 0) → Type 0
ReadsBack {A} r spell P = (at : ℕ) (bs : List ℕ) (o : Reading.Read A) → Small bs → r at bs ≡ Ok o → Took bs o (spell o.value) × P o.value

took-times : {A : Type 0} (r : Reading.Reader A) (spell : A → List ℕ) (P : A → Type 0) → ReadsBack r spell P → (n at : ℕ) (bs : List ℕ) (o : Reading.Read (List A)) → Small bs → Reading.times n r at bs ≡ Ok o →
    Took bs o (flat_map spell o.value) × (length o.value ≡ n) × AllByRecursion P o.value
took-times {A = A} r spell P each zero at bs o s h =
    let out : Reading.Read (List A) = record { value = []; at = at; rest = bs } in
    subst (λ (o : Reading.Read (List A)). Took bs o (flat_map spell o.value) × (length o.value ≡ 0) × AllByRecursion P o.value) (give-inv [] at bs o h) (took-nil out s, refl, tt)
took-times {A = A} r spell P each (suc n) at bs o s h =
    let next : A → Reading.Reader (List A) = λ x. Reading.after (Reading.times n r) (λ xs. Reading.give (x ∷ xs)) in
    let i : (a : Reading.Read A) × (r at bs ≡ Ok a) × (next a.value a.at a.rest ≡ Ok o) = on-inv (r at bs) next o h in
    let a : Reading.Read A = i.0 in
    let t : Took bs a (spell a.value) × P a.value = each at bs a s i.1 in
    let j : (q : Reading.Read (List A)) × (Reading.times n r a.at a.rest ≡ Ok q) × (Reading.give (a.value ∷ q.value) q.at q.rest ≡ Ok o) = on-inv (Reading.times n r a.at a.rest) (λ xs. Reading.give (a.value ∷ xs)) o i.2 in
    let q : Reading.Read (List A) = j.0 in
    let u : Took a.rest q (flat_map spell q.value) × (length q.value ≡ n) × AllByRecursion P q.value = took-times r spell P each n a.at a.rest q (t.0).rest j.1 in
    let out : Reading.Read (List A) = record { value = a.value ∷ q.value; at = q.at; rest = q.rest } in
    subst (λ (o : Reading.Read (List A)). Took bs o (flat_map spell o.value) × (length o.value ≡ suc n) × AllByRecursion P o.value) (give-inv (a.value ∷ q.value) q.at q.rest o j.2)
    (took-cons bs a out (spell a.value) (flat_map spell q.value) t.0 (record { begins = (u.0).begins; small = (u.0).small; rest = (u.0).rest }), ap suc u.1, (t.1, u.2))

took-rising : {A : Type 0} (key : A → ℕ) (r : ℕ → Reading.Reader A) (spell : A → List ℕ) (P : A → Type 0) → ((least : ℕ) → ReadsBack (r least) spell (λ x. (least ≤ key x) × P x)) → (n least at : ℕ) (bs : List ℕ) (o : Reading.Read (List A)) → Small bs →
    Reading.rising_times key n least r at bs ≡ Ok o → Took bs o (flat_map spell o.value) × (length o.value ≡ n) × (rises_from least (map key o.value) ≡ true) × AllByRecursion P o.value
took-rising {A = A} key r spell P each zero least at bs o s h =
    let out : Reading.Read (List A) = record { value = []; at = at; rest = bs } in
    subst (λ (o : Reading.Read (List A)). Took bs o (flat_map spell o.value) × (length o.value ≡ 0) × (rises_from least (map key o.value) ≡ true) × AllByRecursion P o.value) (give-inv [] at bs o h) (took-nil out s, refl, refl, tt)
took-rising {A = A} key r spell P each (suc n) least at bs o s h =
    let next : A → Reading.Reader (List A) = λ x. Reading.after (Reading.rising_times key n (suc (key x)) r) (λ xs. Reading.give (x ∷ xs)) in
    let i : (a : Reading.Read A) × (r least at bs ≡ Ok a) × (next a.value a.at a.rest ≡ Ok o) = on-inv (r least at bs) next o h in
    let a : Reading.Read A = i.0 in
    let t : Took bs a (spell a.value) × ((least ≤ key a.value) × P a.value) = each least at bs a s i.1 in
    let j : (q : Reading.Read (List A)) × (Reading.rising_times key n (suc (key a.value)) r a.at a.rest ≡ Ok q) × (Reading.give (a.value ∷ q.value) q.at q.rest ≡ Ok o) = on-inv (Reading.rising_times key n (suc (key a.value)) r a.at a.rest) (λ xs. Reading.give (a.value ∷ xs)) o i.2 in
    let q : Reading.Read (List A) = j.0 in
    let u : Took a.rest q (flat_map spell q.value) × (length q.value ≡ n) × (rises_from (suc (key a.value)) (map key q.value) ≡ true) × AllByRecursion P q.value = took-rising key r spell P each n (suc (key a.value)) a.at a.rest q (t.0).rest j.1 in
    let out : Reading.Read (List A) = record { value = a.value ∷ q.value; at = q.at; rest = q.rest } in
    subst (λ (o : Reading.Read (List A)). Took bs o (flat_map spell o.value) × (length o.value ≡ suc n) × (rises_from least (map key o.value) ≡ true) × AllByRecursion P o.value) (give-inv (a.value ∷ q.value) q.at q.rest o j.2) (
      took-cons bs a out (spell a.value) (flat_map spell q.value) t.0 (record { begins = (u.0).begins; small = (u.0).small; rest = (u.0).rest }),
      ap suc u.1,
      and_from (not (nat_lt (key a.value) least)) (rises_from (suc (key a.value)) (map key q.value)) (rw (le-ltb (key a.value) least (t.1).0) refl) u.2,
      ((t.1).1, u.3),
    )

-- ---- tags, names, casts

tag_len_cases : (v : ℕ) → (Frame.tag_len v ≡ 16) ⊎ (Frame.tag_len v ≡ 32)
tag_len_cases v = go (v == 2)
  where
    go : (b : Bool) → (let n : ℕ = if b then 16 else 32 in (n ≡ 16) ⊎ (n ≡ 32))
    go true = inl refl
    go false = inr refl

filled : (v : ℕ) (t : List ℕ) → length t ≡ Frame.tag_len v → Small t →
    (take (Frame.tag_len v) (t ++ replicate (32 - Frame.tag_len v) 0) ≡ t) × Frame.IsTag v (t ++ replicate (32 - Frame.tag_len v) 0)
filled v t l s = subst (λ n. (take n (t ++ replicate (32 - n) 0) ≡ t) × Frame.IsTag v (t ++ replicate (32 - Frame.tag_len v) 0)) l
    (take-append_seam t (replicate (32 - length t) 0), record { bytes = (sized, bytes-small (t ++ replicate (32 - Frame.tag_len v) 0) (zeros t s)); zeros = subst (λ n. drop n (t ++ replicate (32 - n) 0) ≡ replicate (32 - n) 0) l (drop-append_seam t (replicate (32 - length t) 0)) })
  where
    zeros : (t : List ℕ) → Small t → Small (t ++ replicate (32 - Frame.tag_len v) 0)
    zeros [] h = all_zero (32 - Frame.tag_len v)
      where
        all_zero : (n : ℕ) → Small (replicate n 0)
        all_zero zero = tt
        all_zero (suc n) = (omega arith, all_zero n)
    zeros (b ∷ t) h = (h.0, zeros t h.1)

    sized : length (t ++ replicate (32 - Frame.tag_len v) 0) ≡ 32
    sized = elim (tag_len_cases v) [
      | inl e ↦ rw e (omega (arith, length-append t (replicate 16 0), l, e))
      | inr e ↦ rw e (omega (arith, length-append t (replicate 0 0), l, e))
    ]

took-tag : (v : ℕ) → ReadsBack (Reading.read_tag v) (take (Frame.tag_len v)) (Frame.IsTag v)
took-tag v at bs o s h =
    let i : (r : Reading.Read (List ℕ)) × (Reading.any_bytes (Frame.tag_len v) at bs ≡ Ok r) × (Reading.give (r.value ++ replicate (32 - Frame.tag_len v) 0) r.at r.rest ≡ Ok o) = on-inv (Reading.any_bytes (Frame.tag_len v) at bs) (λ t. Reading.give (t ++ replicate (32 - Frame.tag_len v) 0)) o h in
    let r : Reading.Read (List ℕ) = i.0 in
    let t : Took bs r r.value × Bytes.AreBytes (Frame.tag_len v) r.value = took-any (Frame.tag_len v) at bs r s i.1 in
    let f : (take (Frame.tag_len v) (r.value ++ replicate (32 - Frame.tag_len v) 0) ≡ r.value) × Frame.IsTag v (r.value ++ replicate (32 - Frame.tag_len v) 0) = filled v r.value (t.1).0 (t.0).small in
    let out : Reading.Read (List ℕ) = record { value = r.value ++ replicate (32 - Frame.tag_len v) 0; at = r.at; rest = r.rest } in
    subst (λ (o : Reading.Read (List ℕ)). Took bs o (take (Frame.tag_len v) o.value) × Frame.IsTag v o.value) (give-inv (r.value ++ replicate (32 - Frame.tag_len v) 0) r.at r.rest o i.2)
    (subst (Took bs out) (sym f.0) (record { begins = (t.0).begins; small = (t.0).small; rest = (t.0).rest }), f.1)

took-name : ReadsBack Reading.read_name Spelling.short_text (λ n. is_name n ≡ true)
took-name at bs o s h =
    let i : (r : Reading.Read ℕ) × (Reading.number w8 1 32 at bs ≡ Ok r) × (Reading.field r.value is_name r.at r.rest ≡ Ok o) = on-inv (Reading.number w8 1 32 at bs) (λ n. Reading.field n is_name) o h in
    let r : Reading.Read ℕ = i.0 in
    let t : Took bs r (Spelling.u8 r.value) × (1 ≤ r.value) × (r.value ≤ 32) = took-u8 1 32 at bs r s i.1 in
    let u : Took r.rest o o.value × (length o.value ≡ r.value) × (is_name o.value ≡ true) = took-field r.value is_name r.at r.rest o (t.0).rest i.2 in
    (took-cons bs r o (Spelling.u8 (length o.value)) o.value (subst (λ n. Took bs r (Spelling.u8 n)) (sym u.1) t.0) u.0, u.2)

took-cast : (v at : ℕ) (bs : List ℕ) (o : Reading.Read (Option Frame.Cast)) → Small bs → Reading.read_cast v at bs ≡ Ok o → Took bs o (Spelling.join_bytes o.value) × (IfSome o.value (Frame.IsCastOf v) × (Spelling.join_code o.value ≡ 0))
took-cast v at bs o s h =
    let build : List ℕ → List ℕ → List Name → Frame.Cast = λ graph nonce names. record { version = v; graph = graph; nonce = nonce; names = names } in
    let i1 : (r : Reading.Read (List ℕ)) × (Reading.any_bytes 32 at bs ≡ Ok r) × (Reading.after (Reading.any_bytes 16) (λ nonce. Reading.after (Reading.number w8 2 16) (λ count. Reading.after (Reading.times count Reading.read_name) (λ names. Reading.give (Some (build r.value nonce names))))) r.at r.rest ≡ Ok o) = on-inv (Reading.any_bytes 32 at bs) _ o h in
    let a : Reading.Read (List ℕ) = i1.0 in
    let ta : Took bs a a.value × Bytes.AreBytes 32 a.value = took-any 32 at bs a s i1.1 in
    let i2 : (r : Reading.Read (List ℕ)) × (Reading.any_bytes 16 a.at a.rest ≡ Ok r) × (Reading.after (Reading.number w8 2 16) (λ count. Reading.after (Reading.times count Reading.read_name) (λ names. Reading.give (Some (build a.value r.value names)))) r.at r.rest ≡ Ok o) = on-inv (Reading.any_bytes 16 a.at a.rest) _ o i1.2 in
    let b : Reading.Read (List ℕ) = i2.0 in
    let tb : Took a.rest b b.value × Bytes.AreBytes 16 b.value = took-any 16 a.at a.rest b (ta.0).rest i2.1 in
    let i3 : (r : Reading.Read ℕ) × (Reading.number w8 2 16 b.at b.rest ≡ Ok r) × (Reading.after (Reading.times r.value Reading.read_name) (λ names. Reading.give (Some (build a.value b.value names))) r.at r.rest ≡ Ok o) = on-inv (Reading.number w8 2 16 b.at b.rest) _ o i2.2 in
    let c : Reading.Read ℕ = i3.0 in
    let tc : Took b.rest c (Spelling.u8 c.value) × (2 ≤ c.value) × (c.value ≤ 16) = took-u8 2 16 b.at b.rest c (tb.0).rest i3.1 in
    let i4 : (r : Reading.Read (List Name)) × (Reading.times c.value Reading.read_name c.at c.rest ≡ Ok r) × (Reading.give (Some (build a.value b.value r.value)) r.at r.rest ≡ Ok o) = on-inv (Reading.times c.value Reading.read_name c.at c.rest) _ o i3.2 in
    let d : Reading.Read (List Name) = i4.0 in
    let td : Took c.rest d (flat_map Spelling.short_text d.value) × (length d.value ≡ c.value) × AllByRecursion (λ n. is_name n ≡ true) d.value = took-times Reading.read_name Spelling.short_text (λ n. is_name n ≡ true) took-name c.value c.at c.rest d (tc.0).rest i4.1 in
    let out : Reading.Read (Option Frame.Cast) = record { value = Some (build a.value b.value d.value); at = d.at; rest = d.rest } in
    subst (λ (o : Reading.Read (Option Frame.Cast)). Took bs o (Spelling.join_bytes o.value) × (IfSome o.value (Frame.IsCastOf v) × (Spelling.join_code o.value ≡ 0))) (give-inv (Some (build a.value b.value d.value)) d.at d.rest o i4.2) (
      took-cons bs a out a.value (b.value ++ (Spelling.u8 (length d.value) ++ (flat_map Spelling.short_text d.value ++ []))) ta.0
          (took-cons a.rest b out b.value (Spelling.u8 (length d.value) ++ (flat_map Spelling.short_text d.value ++ [])) tb.0
          (took-cons b.rest c out (Spelling.u8 (length d.value)) (flat_map Spelling.short_text d.value ++ []) (subst (λ n. Took b.rest c (Spelling.u8 n)) (sym td.1) tc.0)
          (took-cons c.rest d out (flat_map Spelling.short_text d.value) [] td.0 (took-nil out (td.0).rest)))),
      (record { version = refl; graph = ta.1; nonce = tb.1; count = (subst (λ n. 2 ≤ n) (sym td.1) tc.1, subst (λ n. n ≤ 16) (sym td.1) tc.2); names = td.2 }, refl),
    )

-- ---- items

took-pair : (high : ℕ) (r : Reading.Reader (List ℕ)) (spell : List ℕ → List ℕ) (P : List ℕ → Type 0) → ReadsBack r spell P → (least : ℕ) →
    ReadsBack (Reading.read_pair high r least) (Spelling.pair_bytes spell) (λ (p : ℕ × List ℕ). (least ≤ p.0) × ((p.0 ≤ high) × P p.1))
took-pair high r spell P each least at bs o s h =
    let i : (k : Reading.Read ℕ) × (Reading.number w8 least high at bs ≡ Ok k) × (Reading.after r (λ v. Reading.give (k.value, v)) k.at k.rest ≡ Ok o) = on-inv (Reading.number w8 least high at bs) (λ k. Reading.after r (λ v. Reading.give (k, v))) o h in
    let k : Reading.Read ℕ = i.0 in
    let tk : Took bs k (Spelling.u8 k.value) × (least ≤ k.value) × (k.value ≤ high) = took-u8 least high at bs k s i.1 in
    let j : (v : Reading.Read (List ℕ)) × (r k.at k.rest ≡ Ok v) × (Reading.give (k.value, v.value) v.at v.rest ≡ Ok o) = on-inv (r k.at k.rest) (λ v. Reading.give (k.value, v)) o i.2 in
    let v : Reading.Read (List ℕ) = j.0 in
    let tv : Took k.rest v (spell v.value) × P v.value = each k.at k.rest v (tk.0).rest j.1 in
    let out : Reading.Read (ℕ × List ℕ) = record { value = (k.value, v.value); at = v.at; rest = v.rest } in
    subst (λ (o : Reading.Read (ℕ × List ℕ)). Took bs o (Spelling.pair_bytes spell o.value) × ((least ≤ o.value.0) × ((o.value.0 ≤ high) × P o.value.1))) (give-inv (k.value, v.value) v.at v.rest o j.2)
    (took-cons bs k out (Spelling.u8 k.value) (spell v.value) tk.0 (record { begins = (tv.0).begins; small = (tv.0).small; rest = (tv.0).rest }), (tk.1, (tk.2, tv.1)))

took-map : (most high : ℕ) (r : Reading.Reader (List ℕ)) (spell : List ℕ → List ℕ) (P : List ℕ → Type 0) → ReadsBack r spell P →
    ReadsBack (Reading.read_map most high r) (Spelling.map_bytes spell) (λ m. (length m ≤ most) × (rises_from 0 (keys_of m) ≡ true) × AllByRecursion (λ (p : ℕ × List ℕ). (p.0 ≤ high) × P p.1) m)
took-map most high r spell P each at bs o s h =
    let key : ℕ × List ℕ → ℕ = λ p. p.0 in
    let i : (k : Reading.Read ℕ) × (Reading.number w8 0 most at bs ≡ Ok k) × (Reading.rising_times key k.value 0 (Reading.read_pair high r) k.at k.rest ≡ Ok o) = on-inv (Reading.number w8 0 most at bs) (λ count. Reading.rising_times key count 0 (Reading.read_pair high r)) o h in
    let k : Reading.Read ℕ = i.0 in
    let tk : Took bs k (Spelling.u8 k.value) × (0 ≤ k.value) × (k.value ≤ most) = took-u8 0 most at bs k s i.1 in
    let u : Took k.rest o (flat_map (Spelling.pair_bytes spell) o.value) × (length o.value ≡ k.value) × (rises_from 0 (map key o.value) ≡ true) × AllByRecursion (λ (p : ℕ × List ℕ). (p.0 ≤ high) × P p.1) o.value =
    took-rising key (Reading.read_pair high r) (Spelling.pair_bytes spell) (λ (p : ℕ × List ℕ). (p.0 ≤ high) × P p.1) (took-pair high r spell P each) k.value 0 k.at k.rest o (tk.0).rest i.2 in
    (took-cons bs k o (Spelling.u8 (length o.value)) (flat_map (Spelling.pair_bytes spell) o.value) (subst (λ n. Took bs k (Spelling.u8 n)) (sym u.1) tk.0) u.0, (subst (λ n. n ≤ most) (sym u.1) tk.2, u.2, u.3))

below_next : (Q : List ℕ → Type 0) (k : ℕ) (m : Map (List ℕ)) → AllByRecursion (λ (p : ℕ × List ℕ). (p.0 ≤ k) × Q p.1) m → AllByRecursion (λ (p : ℕ × List ℕ). (p.0 < k + 1) × Q p.1) m
below_next Q k [] h = tt
below_next Q k (p ∷ ps) h = ((omega (arith, (h.0).0), (h.0).1), below_next Q k ps h.1)

took-item : (v : ℕ) → ReadsBack (Reading.read_item v) (Spelling.item_bytes v) (Frame.IsItem v)
took-item v at bs o s h =
    let build : ℕ → ℕ → ℕ → Map (List ℕ) → Map (List ℕ) → Frame.Item = λ role label time delta tags. record { role = role; label = label; time = time; delta = delta; tags = tags } in
    let i1 : (r : Reading.Read ℕ) × (Reading.number w8 0 15 at bs ≡ Ok r) × (Reading.after (Reading.number w16 0 511) (λ label. Reading.after (Reading.number w32 1 1000000) (λ time. Reading.after (Reading.read_map 32 31 (Reading.any_bytes 32)) (λ delta. Reading.after (Reading.read_map 14 15 (Reading.read_tag v)) (λ tags. Reading.give (build r.value label time delta tags))))) r.at r.rest ≡ Ok o) = on-inv (Reading.number w8 0 15 at bs) _ o h in
    let a : Reading.Read ℕ = i1.0 in
    let ta : Took bs a (Spelling.u8 a.value) × (0 ≤ a.value) × (a.value ≤ 15) = took-u8 0 15 at bs a s i1.1 in
    let i2 : (r : Reading.Read ℕ) × (Reading.number w16 0 511 a.at a.rest ≡ Ok r) × (Reading.after (Reading.number w32 1 1000000) (λ time. Reading.after (Reading.read_map 32 31 (Reading.any_bytes 32)) (λ delta. Reading.after (Reading.read_map 14 15 (Reading.read_tag v)) (λ tags. Reading.give (build a.value r.value time delta tags)))) r.at r.rest ≡ Ok o) = on-inv (Reading.number w16 0 511 a.at a.rest) _ o i1.2 in
    let b : Reading.Read ℕ = i2.0 in
    let tb : Took a.rest b (Spelling.u16 b.value) × (0 ≤ b.value) × (b.value ≤ 511) = took-u16 0 511 a.at a.rest b (ta.0).rest i2.1 in
    let i3 : (r : Reading.Read ℕ) × (Reading.number w32 1 1000000 b.at b.rest ≡ Ok r) × (Reading.after (Reading.read_map 32 31 (Reading.any_bytes 32)) (λ delta. Reading.after (Reading.read_map 14 15 (Reading.read_tag v)) (λ tags. Reading.give (build a.value b.value r.value delta tags))) r.at r.rest ≡ Ok o) = on-inv (Reading.number w32 1 1000000 b.at b.rest) _ o i2.2 in
    let c : Reading.Read ℕ = i3.0 in
    let tc : Took b.rest c (Spelling.u32 c.value) × (1 ≤ c.value) × (c.value ≤ 1000000) = took-u32 1 1000000 b.at b.rest c (tb.0).rest i3.1 in
    let i4 : (r : Reading.Read (Map (List ℕ))) × (Reading.read_map 32 31 (Reading.any_bytes 32) c.at c.rest ≡ Ok r) × (Reading.after (Reading.read_map 14 15 (Reading.read_tag v)) (λ tags. Reading.give (build a.value b.value c.value r.value tags)) r.at r.rest ≡ Ok o) = on-inv (Reading.read_map 32 31 (Reading.any_bytes 32) c.at c.rest) _ o i3.2 in
    let d : Reading.Read (Map (List ℕ)) = i4.0 in
    let td : Took c.rest d (Spelling.map_bytes (λ x. x) d.value) × ((length d.value ≤ 32) × (rises_from 0 (keys_of d.value) ≡ true) × AllByRecursion (λ (p : ℕ × List ℕ). (p.0 ≤ 31) × Bytes.AreBytes 32 p.1) d.value) = took-map 32 31 (Reading.any_bytes 32) (λ x. x) (Bytes.AreBytes 32) (took-any 32) c.at c.rest d (tc.0).rest i4.1 in
    let i5 : (r : Reading.Read (Map (List ℕ))) × (Reading.read_map 14 15 (Reading.read_tag v) d.at d.rest ≡ Ok r) × (Reading.give (build a.value b.value c.value d.value r.value) r.at r.rest ≡ Ok o) = on-inv (Reading.read_map 14 15 (Reading.read_tag v) d.at d.rest) _ o i4.2 in
    let e : Reading.Read (Map (List ℕ)) = i5.0 in
    let te : Took d.rest e (Spelling.map_bytes (take (Frame.tag_len v)) e.value) × ((length e.value ≤ 14) × (rises_from 0 (keys_of e.value) ≡ true) × AllByRecursion (λ (p : ℕ × List ℕ). (p.0 ≤ 15) × Frame.IsTag v p.1) e.value) = took-map 14 15 (Reading.read_tag v) (take (Frame.tag_len v)) (Frame.IsTag v) (took-tag v) d.at d.rest e (td.0).rest i5.1 in
    let item : Frame.Item = build a.value b.value c.value d.value e.value in
    let out : Reading.Read Frame.Item = record { value = item; at = e.at; rest = e.rest } in
    let tags : List ℕ = Spelling.map_bytes (take (Frame.tag_len v)) e.value in
    let delta : List ℕ = Spelling.map_bytes (λ x. x) d.value in
    subst (λ (o : Reading.Read Frame.Item). Took bs o (Spelling.item_bytes v o.value) × Frame.IsItem v o.value) (give-inv item e.at e.rest o i5.2) (
      took-cons bs a out (Spelling.u8 a.value) (Spelling.u16 b.value ++ (Spelling.u32 c.value ++ (delta ++ (tags ++ [])))) ta.0
          (took-cons a.rest b out (Spelling.u16 b.value) (Spelling.u32 c.value ++ (delta ++ (tags ++ []))) tb.0
          (took-cons b.rest c out (Spelling.u32 c.value) (delta ++ (tags ++ [])) tc.0
          (took-cons c.rest d out delta (tags ++ []) td.0
          (took-cons d.rest e out tags [] te.0 (took-nil out (te.0).rest))))),
      record { role = omega (arith, ta.2); label = omega (arith, tb.2); time = (tc.1, tc.2); variables = ((td.1).0, (td.1).1); delta = below_next (Bytes.AreBytes 32) 31 d.value (td.1).2; roles = ((te.1).0, (te.1).1); tags = below_next (Frame.IsTag v) 15 e.value (te.1).2 },
    )

-- ---- openings

be_small : (x : List ℕ) → length x ≡ 8 → Bytes.IsBytes x → from_be_bytes w64 x < 2 ^ 64
be_small (a ∷ b ∷ c ∷ d ∷ e ∷ f ∷ g ∷ h ∷ []) l s = omega (arith, s 0, s 1, s 2, s 3, s 4, s 5, s 6, s 7)
be_small other l s = absurd (omega (arith, l))

took-int : ReadsBack Reading.read_int Spelling.sized (λ v. Frame.IsValue v × (Spelling.kind_code v ≡ 0))
took-int at bs o s h =
    let i1 : (r : Reading.Read ℕ) × (Reading.number w32 8 8 at bs ≡ Ok r) × (Reading.after (Reading.any_bytes 8) (λ x. Reading.give (Values.IntValue (cast_signed w64 (from_be_bytes w64 x)))) r.at r.rest ≡ Ok o) = on-inv (Reading.number w32 8 8 at bs) _ o h in
    let a : Reading.Read ℕ = i1.0 in
    let ta : Took bs a (Spelling.u32 a.value) × (8 ≤ a.value) × (a.value ≤ 8) = took-u32 8 8 at bs a s i1.1 in
    let i2 : (r : Reading.Read (List ℕ)) × (Reading.any_bytes 8 a.at a.rest ≡ Ok r) × (Reading.give (Values.IntValue (cast_signed w64 (from_be_bytes w64 r.value))) r.at r.rest ≡ Ok o) = on-inv (Reading.any_bytes 8 a.at a.rest) _ o i1.2 in
    let b : Reading.Read (List ℕ) = i2.0 in
    let tb : Took a.rest b b.value × Bytes.AreBytes 8 b.value = took-any 8 a.at a.rest b (ta.0).rest i2.1 in
    let n : ℕ = from_be_bytes w64 b.value in
    let out : Reading.Read Values.Value = record { value = Values.IntValue (cast_signed w64 n); at = b.at; rest = b.rest } in
    let eight : a.value ≡ 8 = omega (arith, ta.1, ta.2) in
    let small : n < 2 ^ 64 = be_small b.value (tb.1).0 (tb.1).1 in
    let again : Spelling.u64 (cast_unsigned w64 (cast_signed w64 n)) ≡ b.value = ap Spelling.u64 (of_z-to_z w64 n small) ∙ be_bytes_8 b.value n (tb.1).0 (tb.1).1 refl in
    subst (λ (o : Reading.Read Values.Value). Took bs o (Spelling.sized o.value) × (Frame.IsValue o.value × (Spelling.kind_code o.value ≡ 0))) (give-inv (Values.IntValue (cast_signed w64 n)) b.at b.rest o i2.2) (
      took-cons bs a out (Spelling.u32 8) (Spelling.u64 (cast_unsigned w64 (cast_signed w64 n))) (subst (λ k. Took bs a (Spelling.u32 k)) eight ta.0)
          (subst (Took a.rest out) (sym again) (record { begins = (tb.0).begins; small = (tb.0).small; rest = (tb.0).rest })),
      (sfits_to_z (Fits-of_lt small), refl),
    )

took-text : ReadsBack Reading.read_text Spelling.sized (λ v. Frame.IsValue v × (Spelling.kind_code v ≡ 1))
took-text at bs o s h =
    let i1 : (r : Reading.Read ℕ) × (Reading.number w32 0 1024 at bs ≡ Ok r) × (Reading.after (Reading.field r.value is_utf8) (λ x. Reading.give (Values.TextValue x)) r.at r.rest ≡ Ok o) = on-inv (Reading.number w32 0 1024 at bs) (λ n. Reading.after (Reading.field n is_utf8) (λ x. Reading.give (Values.TextValue x))) o h in
    let a : Reading.Read ℕ = i1.0 in
    let ta : Took bs a (Spelling.u32 a.value) × (0 ≤ a.value) × (a.value ≤ 1024) = took-u32 0 1024 at bs a s i1.1 in
    let i2 : (r : Reading.Read (List ℕ)) × (Reading.field a.value is_utf8 a.at a.rest ≡ Ok r) × (Reading.give (Values.TextValue r.value) r.at r.rest ≡ Ok o) = on-inv (Reading.field a.value is_utf8 a.at a.rest) _ o i1.2 in
    let b : Reading.Read (List ℕ) = i2.0 in
    let tb : Took a.rest b b.value × (length b.value ≡ a.value) × (is_utf8 b.value ≡ true) = took-field a.value is_utf8 a.at a.rest b (ta.0).rest i2.1 in
    let out : Reading.Read Values.Value = record { value = Values.TextValue b.value; at = b.at; rest = b.rest } in
    subst (λ (o : Reading.Read Values.Value). Took bs o (Spelling.sized o.value) × (Frame.IsValue o.value × (Spelling.kind_code o.value ≡ 1))) (give-inv (Values.TextValue b.value) b.at b.rest o i2.2) (
      took-cons bs a out (Spelling.u32 (length b.value)) b.value (subst (λ k. Took bs a (Spelling.u32 k)) (sym tb.1) ta.0) (record { begins = (tb.0).begins; small = (tb.0).small; rest = (tb.0).rest }),
      ((tb.2, subst (λ n. n ≤ 1024) (sym tb.1) ta.2, bytes-small b.value (tb.0).small), refl),
    )

took-value : (k : ℕ) → k ≤ 1 → ReadsBack (if k == 0 then Reading.read_int else Reading.read_text) Spelling.sized (λ v. Frame.IsValue v × (Spelling.kind_code v ≡ k))
took-value zero l = took-int
took-value (suc zero) l = took-text
took-value (suc (suc k)) l = absurd (omega (arith, l))

took-opening : (least : ℕ) → ReadsBack (Reading.read_opening least) Spelling.opening_bytes (λ o. (least ≤ o.variable) × Frame.IsOpening o)
took-opening least at bs o s h =
    let build : ℕ → List ℕ → Values.Value → Values.Opening = λ x confounder value. record { variable = x; confounder = confounder; value = value } in
    let i1 : (r : Reading.Read ℕ) × (Reading.number w8 least 31 at bs ≡ Ok r) × (Reading.after (Reading.any_bytes 16) (λ confounder. Reading.after (Reading.number w8 0 1) (λ kind. Reading.after (if kind == 0 then Reading.read_int else Reading.read_text) (λ value. Reading.give (build r.value confounder value)))) r.at r.rest ≡ Ok o) = on-inv (Reading.number w8 least 31 at bs) _ o h in
    let a : Reading.Read ℕ = i1.0 in
    let ta : Took bs a (Spelling.u8 a.value) × (least ≤ a.value) × (a.value ≤ 31) = took-u8 least 31 at bs a s i1.1 in
    let i2 : (r : Reading.Read (List ℕ)) × (Reading.any_bytes 16 a.at a.rest ≡ Ok r) × (Reading.after (Reading.number w8 0 1) (λ kind. Reading.after (if kind == 0 then Reading.read_int else Reading.read_text) (λ value. Reading.give (build a.value r.value value))) r.at r.rest ≡ Ok o) = on-inv (Reading.any_bytes 16 a.at a.rest) _ o i1.2 in
    let b : Reading.Read (List ℕ) = i2.0 in
    let tb : Took a.rest b b.value × Bytes.AreBytes 16 b.value = took-any 16 a.at a.rest b (ta.0).rest i2.1 in
    let i3 : (r : Reading.Read ℕ) × (Reading.number w8 0 1 b.at b.rest ≡ Ok r) × (Reading.after (if r.value == 0 then Reading.read_int else Reading.read_text) (λ value. Reading.give (build a.value b.value value)) r.at r.rest ≡ Ok o) = on-inv (Reading.number w8 0 1 b.at b.rest) _ o i2.2 in
    let c : Reading.Read ℕ = i3.0 in
    let tc : Took b.rest c (Spelling.u8 c.value) × (0 ≤ c.value) × (c.value ≤ 1) = took-u8 0 1 b.at b.rest c (tb.0).rest i3.1 in
    let i4 : (r : Reading.Read Values.Value) × ((if c.value == 0 then Reading.read_int else Reading.read_text) c.at c.rest ≡ Ok r) × (Reading.give (build a.value b.value r.value) r.at r.rest ≡ Ok o) = on-inv ((if c.value == 0 then Reading.read_int else Reading.read_text) c.at c.rest) _ o i3.2 in
    let d : Reading.Read Values.Value = i4.0 in
    let td : Took c.rest d (Spelling.sized d.value) × (Frame.IsValue d.value × (Spelling.kind_code d.value ≡ c.value)) = took-value c.value tc.2 c.at c.rest d (tc.0).rest i4.1 in
    let opening : Values.Opening = build a.value b.value d.value in
    let out : Reading.Read Values.Opening = record { value = opening; at = d.at; rest = d.rest } in
    subst (λ (o : Reading.Read Values.Opening). Took bs o (Spelling.opening_bytes o.value) × ((least ≤ o.value.variable) × Frame.IsOpening o.value)) (give-inv opening d.at d.rest o i4.2) (
      took-cons bs a out (Spelling.u8 a.value) (b.value ++ (Spelling.u8 (Spelling.kind_code d.value) ++ (Spelling.sized d.value ++ []))) ta.0
          (took-cons a.rest b out b.value (Spelling.u8 (Spelling.kind_code d.value) ++ (Spelling.sized d.value ++ [])) tb.0
          (took-cons b.rest c out (Spelling.u8 (Spelling.kind_code d.value)) (Spelling.sized d.value ++ []) (subst (λ n. Took b.rest c (Spelling.u8 n)) (sym (td.1).1) tc.0)
          (took-cons c.rest d out (Spelling.sized d.value) [] td.0 (took-nil out (td.0).rest)))),
      (ta.1, record { variable = omega (arith, ta.2); confounder = tb.1; value = (td.1).0 }),
    )

-- ---- frames

took-join : (v k : ℕ) → k ≤ 1 → ReadsBack (if k == 0 then Reading.read_cast v else Reading.give None) Spelling.join_bytes (λ c. IfSome c (Frame.IsCastOf v) × (Spelling.join_code c ≡ k))
took-join v zero l at bs o s h = took-cast v at bs o s h
took-join v (suc zero) l at bs o s h =
    let out : Reading.Read (Option Frame.Cast) = record { value = None; at = at; rest = bs } in
    subst (λ (o : Reading.Read (Option Frame.Cast)). Took bs o (Spelling.join_bytes o.value) × (IfSome o.value (Frame.IsCastOf v) × (Spelling.join_code o.value ≡ 1))) (give-inv None at bs o h) (took-nil out s, (tt, refl))
took-join v (suc (suc k)) l at bs o s h = absurd (omega (arith, l))

versions : (x : List ℕ) → (if bytes_eq x (Spelling.magic 1) then true else bytes_eq x (Spelling.magic 2)) ≡ true →
    (let v : ℕ = if bytes_eq x (Spelling.magic 2) then 2 else 1 in (Spelling.magic v ≡ x) × ((v ≡ 1) ⊎ (v ≡ 2)))
versions x h = elim (cases_Bool (bytes_eq x (Spelling.magic 2))) [
  | inl e ↦ rw e (sym ((bytes_eq-Decides x (Spelling.magic 2)).0 e), inr refl)
  | inr e ↦ rw e (sym ((bytes_eq-Decides x (Spelling.magic 1)).0 (first (cases_Bool (bytes_eq x (Spelling.magic 1))) e)), inl refl)
]
  where
    first : ((bytes_eq x (Spelling.magic 1)) ≡ true) ⊎ ((bytes_eq x (Spelling.magic 1)) ≡ false) → bytes_eq x (Spelling.magic 2) ≡ false → bytes_eq x (Spelling.magic 1) ≡ true
    first (inl e) f = e
    first (inr e) f = absurd (true_false (sym h ∙ ap (λ b. if b then true else bytes_eq x (Spelling.magic 2)) e ∙ f))
      where
        true_false : true ≡ false → ⊥
        true_false e = cc

not_same : (m n : ℕ) → not (m == n) ≡ true → m ≡ n → ⊥
not_same m n h e = clash (m == n) (eq-eqb m n e) (not-true (m == n) h)

took-version : ReadsBack Reading.read_version Spelling.magic (λ v. (v ≡ 1) ⊎ (v ≡ 2))
took-version at bs o s h =
    let test : List ℕ → Bool = λ x. if bytes_eq x (Spelling.magic 1) then true else bytes_eq x (Spelling.magic 2) in
    let i : (r : Reading.Read (List ℕ)) × (Reading.field 4 test at bs ≡ Ok r) × (Reading.give (if bytes_eq r.value (Spelling.magic 2) then 2 else 1) r.at r.rest ≡ Ok o) = on-inv (Reading.field 4 test at bs) (λ x. Reading.give (if bytes_eq x (Spelling.magic 2) then 2 else 1)) o h in
    let r : Reading.Read (List ℕ) = i.0 in
    let t : Took bs r r.value × (length r.value ≡ 4) × (test r.value ≡ true) = took-field 4 test at bs r s i.1 in
    let out : Reading.Read ℕ = record { value = if bytes_eq r.value (Spelling.magic 2) then 2 else 1; at = r.at; rest = r.rest } in
    subst (λ (o : Reading.Read ℕ). Took bs o (Spelling.magic o.value) × ((o.value ≡ 1) ⊎ (o.value ≡ 2))) (give-inv (if bytes_eq r.value (Spelling.magic 2) then 2 else 1) r.at r.rest o i.2)
    (let v : (Spelling.magic (if bytes_eq r.value (Spelling.magic 2) then 2 else 1) ≡ r.value) × (((if bytes_eq r.value (Spelling.magic 2) then 2 else 1) ≡ 1) ⊎ ((if bytes_eq r.value (Spelling.magic 2) then 2 else 1) ≡ 2)) = versions r.value t.2 in
    (subst (Took bs out) (sym v.0) (record { begins = (t.0).begins; small = (t.0).small; rest = (t.0).rest }), v.1))

took-receiver : (sender at : ℕ) (bs : List ℕ) (o : Reading.Read (List ℕ)) → Small bs → Reading.field 1 (λ x. Reading.is_within 0 15 (from_be_bytes w8 x) && not (from_be_bytes w8 x == sender)) at bs ≡ Ok o →
    Took bs o (Spelling.u8 (from_be_bytes w8 o.value)) × (from_be_bytes w8 o.value ≤ 15) × (from_be_bytes w8 o.value ≢ sender)
took-receiver sender at bs o s h =
    let test : List ℕ → Bool = λ x. Reading.is_within 0 15 (from_be_bytes w8 x) && not (from_be_bytes w8 x == sender) in
    let t : Took bs o o.value × (length o.value ≡ 1) × (test o.value ≡ true) = took-field 1 test at bs o s h in
    let n : ℕ = from_be_bytes w8 o.value in (
      subst (Took bs o) (sym (one_byte o.value t.1)) t.0,
      leb-true n 15 (and_right (nat_le 0 n) _ (and_left (Reading.is_within 0 15 n) _ t.2)),
      λ e. not_same n sender (and_right (Reading.is_within 0 15 n) _ t.2) e,
    )

-- the rest of the readings of a frame, after each field
abbrev rest_9 : ℕ → List ℕ → ℕ → ℕ → Option Frame.Cast → List Frame.Item → List Values.Opening → Reading.Reader Frame.Frame
rest_9 v sid sender receiver join items openings = Reading.after (Reading.read_tag v) λ tag. Reading.give (record { version = v; sid = sid; sender = sender; receiver = receiver; join = join; items = items; openings = openings; tag = tag })

abbrev rest_7 : ℕ → List ℕ → ℕ → ℕ → Option Frame.Cast → List Frame.Item → Reading.Reader Frame.Frame
rest_7 v sid sender receiver join items = Reading.after (Reading.number w8 0 32) λ opened. Reading.after (Reading.rising_times (λ o. o.variable) opened 0 Reading.read_opening) λ openings. rest_9 v sid sender receiver join items openings

abbrev rest_5 : ℕ → List ℕ → ℕ → ℕ → Option Frame.Cast → Reading.Reader Frame.Frame
rest_5 v sid sender receiver join = Reading.after (Reading.number w16 1 65535) λ count. Reading.after (Reading.times count (Reading.read_item v)) λ items. rest_7 v sid sender receiver join items

abbrev rest_3 : ℕ → ℕ → List ℕ → ℕ → Reading.Reader Frame.Frame
rest_3 v kind sid sender =
    Reading.after (Reading.field 1 (λ bs. Reading.is_within 0 15 (from_be_bytes w8 bs) && not (from_be_bytes w8 bs == sender))) λ receiver.
    Reading.after (if kind == 0 then Reading.read_cast v else Reading.give None) λ join. rest_5 v sid sender (from_be_bytes w8 receiver) join

took-9 : (v : ℕ) (sid : List ℕ) (sender receiver : ℕ) (join : Option Frame.Cast) (items : List Frame.Item) (openings : List Values.Opening) (at : ℕ) (bs : List ℕ) (o : Reading.Read Frame.Frame) → Small bs → rest_9 v sid sender receiver join items openings at bs ≡ Ok o →
    (tag : List ℕ) × Took bs o (take (Frame.tag_len v) tag) × Frame.IsTag v tag × (record { version = v; sid = sid; sender = sender; receiver = receiver; join = join; items = items; openings = openings; tag = tag } ≡ o.value)
took-9 v sid sender receiver join items openings at bs o s h =
    let build : List ℕ → Frame.Frame = λ tag. record { version = v; sid = sid; sender = sender; receiver = receiver; join = join; items = items; openings = openings; tag = tag } in
    let i : (r : Reading.Read (List ℕ)) × (Reading.read_tag v at bs ≡ Ok r) × (Reading.give (build r.value) r.at r.rest ≡ Ok o) = on-inv (Reading.read_tag v at bs) (λ tag. Reading.give (build tag)) o h in
    let r : Reading.Read (List ℕ) = i.0 in
    let t : Took bs r (take (Frame.tag_len v) r.value) × Frame.IsTag v r.value = took-tag v at bs r s i.1 in
    subst (λ (o : Reading.Read Frame.Frame). (tag : List ℕ) × Took bs o (take (Frame.tag_len v) tag) × Frame.IsTag v tag × (build tag ≡ o.value)) (give-inv (build r.value) r.at r.rest o i.2)
    (r.value, record { begins = (t.0).begins; small = (t.0).small; rest = (t.0).rest }, t.1, refl)

took-7 : (v : ℕ) (sid : List ℕ) (sender receiver : ℕ) (join : Option Frame.Cast) (items : List Frame.Item) (at : ℕ) (bs : List ℕ) (o : Reading.Read Frame.Frame) → Small bs → rest_7 v sid sender receiver join items at bs ≡ Ok o →
    (os : List Values.Opening) × (tag : List ℕ) × Took bs o (Spelling.u8 (length os) ++ (flat_map Spelling.opening_bytes os ++ take (Frame.tag_len v) tag))
    × ((length os ≤ 32) × (rises_from 0 (map (λ o. o.variable) os) ≡ true)) × AllByRecursion Frame.IsOpening os × Frame.IsTag v tag
    × (record { version = v; sid = sid; sender = sender; receiver = receiver; join = join; items = items; openings = os; tag = tag } ≡ o.value)
took-7 v sid sender receiver join items at bs o s h =
    let key : Values.Opening → ℕ = λ o. o.variable in
    let i : (r : Reading.Read ℕ) × (Reading.number w8 0 32 at bs ≡ Ok r) × (Reading.after (Reading.rising_times key r.value 0 Reading.read_opening) (λ openings. rest_9 v sid sender receiver join items openings) r.at r.rest ≡ Ok o) = on-inv (Reading.number w8 0 32 at bs) _ o h in
    let a : Reading.Read ℕ = i.0 in
    let ta : Took bs a (Spelling.u8 a.value) × (0 ≤ a.value) × (a.value ≤ 32) = took-u8 0 32 at bs a s i.1 in
    let j : (r : Reading.Read (List Values.Opening)) × (Reading.rising_times key a.value 0 Reading.read_opening a.at a.rest ≡ Ok r) × (rest_9 v sid sender receiver join items r.value r.at r.rest ≡ Ok o) = on-inv (Reading.rising_times key a.value 0 Reading.read_opening a.at a.rest) _ o i.2 in
    let b : Reading.Read (List Values.Opening) = j.0 in
    let tb : Took a.rest b (flat_map Spelling.opening_bytes b.value) × (length b.value ≡ a.value) × (rises_from 0 (map key b.value) ≡ true) × AllByRecursion Frame.IsOpening b.value = took-rising key Reading.read_opening Spelling.opening_bytes Frame.IsOpening took-opening a.value 0 a.at a.rest b (ta.0).rest j.1 in
    let n : (tag : List ℕ) × Took b.rest o (take (Frame.tag_len v) tag) × Frame.IsTag v tag × (record { version = v; sid = sid; sender = sender; receiver = receiver; join = join; items = items; openings = b.value; tag = tag } ≡ o.value) = took-9 v sid sender receiver join items b.value b.at b.rest o (tb.0).rest j.2 in (
      b.value,
      n.0,
      took-cons bs a o (Spelling.u8 (length b.value)) (flat_map Spelling.opening_bytes b.value ++ take (Frame.tag_len v) n.0) (subst (λ k. Took bs a (Spelling.u8 k)) (sym tb.1) ta.0)
          (took-cons a.rest b o (flat_map Spelling.opening_bytes b.value) (take (Frame.tag_len v) n.0) tb.0 n.1),
      (subst (λ k. k ≤ 32) (sym tb.1) ta.2, tb.2),
      tb.3,
      n.2,
      n.3,
    )

-- the fields of a frame from its items on
abbrev end_bytes : Frame.Frame → List ℕ
end_bytes f = Spelling.u16 (length f.items) ++ (flat_map (Spelling.item_bytes f.version) f.items ++ (Spelling.u8 (length f.openings) ++ (flat_map Spelling.opening_bytes f.openings ++ take (Frame.tag_len f.version) f.tag)))

-- what was read of a frame from its items on
record Ended (v : ℕ) (i : List ℕ) (a b : ℕ) (c : Option Frame.Cast) (bs : List ℕ) (at : ℕ) (rest : List ℕ) (f : Frame.Frame) : Type 0 where
  begins : bs ≡ end_bytes f ++ rest
  version : f.version ≡ v
  sid : f.sid ≡ i
  sender : f.sender ≡ a
  receiver : f.receiver ≡ b
  join : f.join ≡ c
  count : (1 ≤ length f.items) × (length f.items ≤ 65535)
  items : AllByRecursion (Frame.IsItem f.version) f.items
  variables : (length f.openings ≤ 32) × (rises_from 0 (map (λ x. x.variable) f.openings) ≡ true)
  openings : AllByRecursion Frame.IsOpening f.openings
  tag : Frame.IsTag f.version f.tag

took-5 : (v : ℕ) (sid : List ℕ) (sender receiver : ℕ) (join : Option Frame.Cast) (at : ℕ) (bs : List ℕ) (o : Reading.Read Frame.Frame) → Small bs → rest_5 v sid sender receiver join at bs ≡ Ok o → Ended v sid sender receiver join bs o.at o.rest o.value
took-5 v sid sender receiver join at bs o s h =
    let i : (r : Reading.Read ℕ) × (Reading.number w16 1 65535 at bs ≡ Ok r) × (Reading.after (Reading.times r.value (Reading.read_item v)) (λ items. rest_7 v sid sender receiver join items) r.at r.rest ≡ Ok o) = on-inv (Reading.number w16 1 65535 at bs) _ o h in
    let a : Reading.Read ℕ = i.0 in
    let ta : Took bs a (Spelling.u16 a.value) × (1 ≤ a.value) × (a.value ≤ 65535) = took-u16 1 65535 at bs a s i.1 in
    let j : (r : Reading.Read (List Frame.Item)) × (Reading.times a.value (Reading.read_item v) a.at a.rest ≡ Ok r) × (rest_7 v sid sender receiver join r.value r.at r.rest ≡ Ok o) = on-inv (Reading.times a.value (Reading.read_item v) a.at a.rest) _ o i.2 in
    let b : Reading.Read (List Frame.Item) = j.0 in
    let tb : Took a.rest b (flat_map (Spelling.item_bytes v) b.value) × (length b.value ≡ a.value) × AllByRecursion (Frame.IsItem v) b.value = took-times (Reading.read_item v) (Spelling.item_bytes v) (Frame.IsItem v) (took-item v) a.value a.at a.rest b (ta.0).rest j.1 in
    let n : (os : List Values.Opening) × (tag : List ℕ) × Took b.rest o (Spelling.u8 (length os) ++ (flat_map Spelling.opening_bytes os ++ take (Frame.tag_len v) tag))
    × ((length os ≤ 32) × (rises_from 0 (map (λ o. o.variable) os) ≡ true)) × AllByRecursion Frame.IsOpening os × Frame.IsTag v tag
    × (record { version = v; sid = sid; sender = sender; receiver = receiver; join = join; items = b.value; openings = os; tag = tag } ≡ o.value) = took-7 v sid sender receiver join b.value b.at b.rest o (tb.0).rest j.2 in
    let tail : List ℕ = Spelling.u8 (length n.0) ++ (flat_map Spelling.opening_bytes n.0 ++ take (Frame.tag_len v) n.1) in
    subst (λ f. Ended v sid sender receiver join bs o.at o.rest f) n.6
    (record {
      begins = (took-cons bs a o (Spelling.u16 (length b.value)) (flat_map (Spelling.item_bytes v) b.value ++ tail) (subst (λ k. Took bs a (Spelling.u16 k)) (sym tb.1) ta.0)
          (took-cons a.rest b o (flat_map (Spelling.item_bytes v) b.value) tail tb.0 n.2)).begins;
      version = refl;
      sid = refl;
      sender = refl;
      receiver = refl;
      join = refl;
      count = (subst (λ k. 1 ≤ k) (sym tb.1) ta.1, subst (λ k. k ≤ 65535) (sym tb.1) ta.2);
      items = tb.2;
      variables = n.3;
      openings = n.4;
      tag = n.5;
    })

-- the fields, each before what follows it
abbrev nested : List (List ℕ) → List ℕ → List ℕ
nested [] t = t
nested (x ∷ xs) t = x ++ nested xs t

concat-nested : (xss : List (List ℕ)) (t : List ℕ) → concat xss ++ t ≡ nested xss t
concat-nested [] t = refl
concat-nested (x ∷ xss) t = append_assoc x (concat xss) t ∙ ap (λ l. x ++ l) (concat-nested xss t)

spelled : (f : Frame.Frame) → Spelling.spelling f ≡ Spelling.magic f.version ++ (Spelling.u8 (Spelling.join_code f.join) ++ (f.sid ++ (Spelling.u8 f.sender ++ (Spelling.u8 f.receiver ++ (Spelling.join_bytes f.join ++ end_bytes f)))))
spelled f = concat-nested (Spelling.magic f.version ∷ Spelling.u8 (Spelling.join_code f.join) ∷ f.sid ∷ Spelling.u8 f.sender ∷ Spelling.u8 f.receiver ∷ Spelling.join_bytes f.join
    ∷ Spelling.u16 (length f.items) ∷ flat_map (Spelling.item_bytes f.version) f.items ∷ Spelling.u8 (length f.openings) ∷ flat_map Spelling.opening_bytes f.openings ∷ []) (take (Frame.tag_len f.version) f.tag)

-- what was read of a frame, all of it
record Framed (bs : List ℕ) (rest : List ℕ) (f : Frame.Frame) : Type 0 where
  begins : bs ≡ Spelling.spelling f ++ rest
  version : (f.version ≡ 1) ⊎ (f.version ≡ 2)
  sid : Bytes.AreBytes 32 f.sid
  roles : (f.sender < 16) × (f.receiver < 16) × (f.receiver ≢ f.sender)
  join : IfSome f.join (Frame.IsCastOf f.version)
  count : (1 ≤ length f.items) × (length f.items ≤ 65535)
  items : AllByRecursion (Frame.IsItem f.version) f.items
  variables : (length f.openings ≤ 32) × (rises_from 0 (map (λ x. x.variable) f.openings) ≡ true)
  openings : AllByRecursion Frame.IsOpening f.openings
  tag : Frame.IsTag f.version f.tag

assoc_6 : (a b c d e g t : List ℕ) (rest : List ℕ) → a ++ (b ++ (c ++ (d ++ (e ++ (g ++ (t ++ rest)))))) ≡ (a ++ (b ++ (c ++ (d ++ (e ++ (g ++ t)))))) ++ rest
assoc_6 a b c d e g t rest = sym (append_assoc a (b ++ (c ++ (d ++ (e ++ (g ++ t))))) rest ∙ ap (λ l. a ++ l) (append_assoc b (c ++ (d ++ (e ++ (g ++ t)))) rest
    ∙ ap (λ l. b ++ l) (append_assoc c (d ++ (e ++ (g ++ t))) rest ∙ ap (λ l. c ++ l) (append_assoc d (e ++ (g ++ t)) rest ∙ ap (λ l. d ++ l) (append_assoc e (g ++ t) rest ∙ ap (λ l. e ++ l) (append_assoc g t rest))))))

took-frame : (at : ℕ) (bs : List ℕ) (o : Reading.Read Frame.Frame) → Small bs → Reading.after Reading.read_version Reading.read_frame_of at bs ≡ Ok o → Framed bs o.rest o.value
took-frame at bs o s h =
    let i1 : (r : Reading.Read ℕ) × (Reading.read_version at bs ≡ Ok r) × (Reading.read_frame_of r.value r.at r.rest ≡ Ok o) = on-inv (Reading.read_version at bs) Reading.read_frame_of o h in
    let v : Reading.Read ℕ = i1.0 in
    let tv : Took bs v (Spelling.magic v.value) × ((v.value ≡ 1) ⊎ (v.value ≡ 2)) = took-version at bs v s i1.1 in
    let i2 : (r : Reading.Read ℕ) × (Reading.number w8 0 1 v.at v.rest ≡ Ok r) × (Reading.after (Reading.any_bytes 32) (λ sid. Reading.after (Reading.number w8 0 15) (λ sender. rest_3 v.value r.value sid sender)) r.at r.rest ≡ Ok o) = on-inv (Reading.number w8 0 1 v.at v.rest) _ o i1.2 in
    let k : Reading.Read ℕ = i2.0 in
    let tk : Took v.rest k (Spelling.u8 k.value) × (0 ≤ k.value) × (k.value ≤ 1) = took-u8 0 1 v.at v.rest k (tv.0).rest i2.1 in
    let i3 : (r : Reading.Read (List ℕ)) × (Reading.any_bytes 32 k.at k.rest ≡ Ok r) × (Reading.after (Reading.number w8 0 15) (λ sender. rest_3 v.value k.value r.value sender) r.at r.rest ≡ Ok o) = on-inv (Reading.any_bytes 32 k.at k.rest) _ o i2.2 in
    let d : Reading.Read (List ℕ) = i3.0 in
    let td : Took k.rest d d.value × Bytes.AreBytes 32 d.value = took-any 32 k.at k.rest d (tk.0).rest i3.1 in
    let i4 : (r : Reading.Read ℕ) × (Reading.number w8 0 15 d.at d.rest ≡ Ok r) × (rest_3 v.value k.value d.value r.value r.at r.rest ≡ Ok o) = on-inv (Reading.number w8 0 15 d.at d.rest) _ o i3.2 in
    let a : Reading.Read ℕ = i4.0 in
    let ta : Took d.rest a (Spelling.u8 a.value) × (0 ≤ a.value) × (a.value ≤ 15) = took-u8 0 15 d.at d.rest a (td.0).rest i4.1 in
    let test : List ℕ → Bool = λ x. Reading.is_within 0 15 (from_be_bytes w8 x) && not (from_be_bytes w8 x == a.value) in
    let i5 : (r : Reading.Read (List ℕ)) × (Reading.field 1 test a.at a.rest ≡ Ok r) × (Reading.after (if k.value == 0 then Reading.read_cast v.value else Reading.give None) (λ join. rest_5 v.value d.value a.value (from_be_bytes w8 r.value) join) r.at r.rest ≡ Ok o) = on-inv (Reading.field 1 test a.at a.rest) _ o i4.2 in
    let b : Reading.Read (List ℕ) = i5.0 in
    let tb : Took a.rest b (Spelling.u8 (from_be_bytes w8 b.value)) × (from_be_bytes w8 b.value ≤ 15) × (from_be_bytes w8 b.value ≢ a.value) = took-receiver a.value a.at a.rest b (ta.0).rest i5.1 in
    let i6 : (r : Reading.Read (Option Frame.Cast)) × ((if k.value == 0 then Reading.read_cast v.value else Reading.give None) b.at b.rest ≡ Ok r) × (rest_5 v.value d.value a.value (from_be_bytes w8 b.value) r.value r.at r.rest ≡ Ok o) = on-inv ((if k.value == 0 then Reading.read_cast v.value else Reading.give None) b.at b.rest) _ o i5.2 in
    let c : Reading.Read (Option Frame.Cast) = i6.0 in
    let tc : Took b.rest c (Spelling.join_bytes c.value) × (IfSome c.value (Frame.IsCastOf v.value) × (Spelling.join_code c.value ≡ k.value)) = took-join v.value k.value tk.2 b.at b.rest c (tb.0).rest i6.1 in
    let e : Ended v.value d.value a.value (from_be_bytes w8 b.value) c.value c.rest o.at o.rest o.value = took-5 v.value d.value a.value (from_be_bytes w8 b.value) c.value c.at c.rest o (tc.0).rest i6.2 in
    let f : Frame.Frame = o.value in
    record {
      begins = (tv.0).begins ∙ ap (λ l. Spelling.magic v.value ++ l) ((tk.0).begins ∙ ap (λ l. Spelling.u8 k.value ++ l) ((td.0).begins ∙ ap (λ l. d.value ++ l) ((ta.0).begins ∙ ap (λ l. Spelling.u8 a.value ++ l)
          ((tb.0).begins ∙ ap (λ l. Spelling.u8 (from_be_bytes w8 b.value) ++ l) ((tc.0).begins ∙ ap (λ l. Spelling.join_bytes c.value ++ l) e.begins)))))
          ∙ ap (λ x. Spelling.magic x ++ (Spelling.u8 k.value ++ (d.value ++ (Spelling.u8 a.value ++ (Spelling.u8 (from_be_bytes w8 b.value) ++ (Spelling.join_bytes c.value ++ (end_bytes f ++ o.rest))))))) (sym e.version)
          ∙ ap (λ x. Spelling.magic f.version ++ (Spelling.u8 x ++ (d.value ++ (Spelling.u8 a.value ++ (Spelling.u8 (from_be_bytes w8 b.value) ++ (Spelling.join_bytes c.value ++ (end_bytes f ++ o.rest))))))) (sym (tc.1).1 ∙ ap Spelling.join_code (sym e.join))
          ∙ ap (λ x. Spelling.magic f.version ++ (Spelling.u8 (Spelling.join_code f.join) ++ (x ++ (Spelling.u8 a.value ++ (Spelling.u8 (from_be_bytes w8 b.value) ++ (Spelling.join_bytes c.value ++ (end_bytes f ++ o.rest))))))) (sym e.sid)
          ∙ ap (λ x. Spelling.magic f.version ++ (Spelling.u8 (Spelling.join_code f.join) ++ (f.sid ++ (Spelling.u8 x ++ (Spelling.u8 (from_be_bytes w8 b.value) ++ (Spelling.join_bytes c.value ++ (end_bytes f ++ o.rest))))))) (sym e.sender)
          ∙ ap (λ x. Spelling.magic f.version ++ (Spelling.u8 (Spelling.join_code f.join) ++ (f.sid ++ (Spelling.u8 f.sender ++ (Spelling.u8 x ++ (Spelling.join_bytes c.value ++ (end_bytes f ++ o.rest))))))) (sym e.receiver)
          ∙ ap (λ x. Spelling.magic f.version ++ (Spelling.u8 (Spelling.join_code f.join) ++ (f.sid ++ (Spelling.u8 f.sender ++ (Spelling.u8 f.receiver ++ (Spelling.join_bytes x ++ (end_bytes f ++ o.rest))))))) (sym e.join)
          ∙ assoc_6 (Spelling.magic f.version) (Spelling.u8 (Spelling.join_code f.join)) f.sid (Spelling.u8 f.sender) (Spelling.u8 f.receiver) (Spelling.join_bytes f.join) (end_bytes f) o.rest
          ∙ ap (λ l. l ++ o.rest) (sym (spelled f));
      version = subst (λ x. (x ≡ 1) ⊎ (x ≡ 2)) (sym e.version) tv.1;
      sid = subst (Bytes.AreBytes 32) (sym e.sid) td.1;
      roles = (omega (arith, e.sender, ta.2), omega (arith, e.receiver, tb.1), λ x. tb.2 (sym e.receiver ∙ x ∙ e.sender));
      join = subst (λ x. IfSome x (Frame.IsCastOf f.version)) (sym e.join) (subst (λ x. IfSome c.value (Frame.IsCastOf x)) (sym e.version) (tc.1).0);
      count = e.count;
      items = e.items;
      variables = e.variables;
      openings = e.openings;
      tag = e.tag;
    }

whole-inv : (r : Result (Reading.Read Frame.Frame) ℕ) (f : Frame.Frame) → Reading.whole r ≡ Ok f → (o : Reading.Read Frame.Frame) × (r ≡ Ok o) × (o.rest ≡ []) × (o.value ≡ f)
whole-inv (Err at) f h = cc
whole-inv (Ok o) f h = ended o.rest refl
  where
    ended : (l : List ℕ) → o.rest ≡ l → (let r : Result (Reading.Read Frame.Frame) ℕ = Ok o in (o' : Reading.Read Frame.Frame) × (r ≡ Ok o') × (o'.rest ≡ []) × (o'.value ≡ f))
    ended [] e = (o, refl, e, ok_same o.value f (subst (λ l. Reading.if_none_left o.value o.at l ≡ Ok f) e h))
    ended (b ∷ bs) e = err_ok o.at f (subst (λ l. Reading.if_none_left o.value o.at l ≡ Ok f) e h)

-- bytes that are read as a frame are its spelling
pub read-SpellsFrame : (bs : List ℕ) (f : Frame.Frame) → Bytes.IsBytes bs → Reading.read bs ≡ Ok f → Spelling.SpellsFrame bs f
read-SpellsFrame bs f b h = go (cases_Bool (nat_lt 60000 (length bs)))
  where
    go : (nat_lt 60000 (length bs) ≡ true) ⊎ (nat_lt 60000 (length bs) ≡ false) → Spelling.SpellsFrame bs f
    go (inl e) = err_ok 60000 f (subst (λ x. (if x then Err 60000 else Reading.whole (Reading.after Reading.read_version Reading.read_frame_of 0 bs)) ≡ Ok f) e h)
    go (inr e) =
        let w : (o : Reading.Read Frame.Frame) × (Reading.after Reading.read_version Reading.read_frame_of 0 bs ≡ Ok o) × (o.rest ≡ []) × (o.value ≡ f) =
        whole-inv (Reading.after Reading.read_version Reading.read_frame_of 0 bs) f (subst (λ x. (if x then Err 60000 else Reading.whole (Reading.after Reading.read_version Reading.read_frame_of 0 bs)) ≡ Ok f) e h) in
        let t : Framed bs [] f = subst (λ x. Framed bs [] x) w.3 (subst (λ l. Framed bs l (w.0).value) w.2 (took-frame 0 bs w.0 (small-bytes bs b) w.1)) in
        let same : Spelling.spelling f ≡ bs = sym (t.begins ∙ append-nil (Spelling.spelling f)) in
        record {
          is_frame = record {
            fields = record {
              version = t.version;
              sid = t.sid;
              roles = t.roles;
              join = t.join;
              count = t.count;
              items = t.items;
              variables = t.variables;
              openings = t.openings;
              tag = t.tag;
            };
            short = subst (λ x. length x ≤ 60000) (sym same) (ltb-false 60000 (length bs) e);
          };
          spelled = same;
        }
