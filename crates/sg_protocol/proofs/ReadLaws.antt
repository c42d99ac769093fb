-- A frame that has a spelling is read from it.
use Rattle.std.specs.Prelude.{Result, ◌≡◌, ◌≢◌, ℕ, suc, ◌+◌, ◌-◌, ◌^◌, ◌<◌, ◌≤◌, ◌==◌, nat_lt, nat_le, Bool, true, false, not, ◌&&◌, ◌⊎◌, if◌then◌else◌, List, [], ◌∷◌, ◌++◌, map, length, take, replicate, codes, bytes_eq, flat_map, refl, Option, Some, None, Ok, ℤ, FitsSigned, IfSome}
use Rattle.std.specs.List.{AllByRecursion, concat, list_all}
use Rattle.std.specs.Int.{Width, w8, w16, w32, w64, byte_len, from_be_bytes, cast_unsigned, cast_signed}
use Rattle.std.specs.Str.{is_utf8}
use Rattle.std.proofs.Common.{sym, ◌∙◌, ap, subst, inl, inr, arith, add-zero, lit<}
use Rattle.std.proofs.Math.Facts.{Fits-lt-pow, Fits-of_z}
use Rattle.std.proofs.lemmas.Int.{to_z-of_z}
use Rattle.std.proofs.Math.Seq.{take-append_seam, drop-append_seam}
use Rattle.std.proofs.lemmas.List.{append_assoc, length-append, append-nil, take-append-drop, length-take-le}
use Rattle.std.proofs.lemmas.Bool.{le-leb, leb-true, ltb-false, le-ltb, eqb-true, and_from, not-true}
use Rattle.std.proofs.lemmas.Nat.{from_be_bytes-to_be_bytes_2, from_be_bytes-to_be_bytes_4, from_be_bytes-to_be_bytes_8}
use Rattle.sg_model.specs.Last.{Map}
use Rattle.sg_model.specs.Lists.{rises_from, keys_of}
use Rattle.sg_model.specs.Names.{is_name, is_letter, is_name_byte}
use Rattle.sg_protocol.specs.Reading
use Rattle.sg_protocol.specs.Spelling
use Rattle.sg_protocol.specs.Frame
use Rattle.sg_model.specs.Bytes
use Rattle.sg_model.specs.Values
use Rattle.sg_model.proofs.Small.{and_left, and_right}

-- the reader reads x from these bytes, wherever they stand and whatever follows
pub record Reads {A : Type 0} (r : Reading.Reader A) (bs : List ℕ) (x : A) : Type 0 where
  pub go : (at : ℕ) (rest : List ℕ) → r at (bs ++ rest) ≡ Ok (record { value = x; at = at + length bs; rest = rest })

reads-field : (test : List ℕ → Bool) (bs : List ℕ) → test bs ≡ true → Reads (Reading.field (length bs) test) bs bs
reads-field test bs t = record { go = λ at rest. rw (take-append_seam bs rest, drop-append_seam bs rest, le-leb (length bs) (length (bs ++ rest)) (omega (arith, length-append bs rest)), t) refl }

reads-field_of : (n : ℕ) (test : List ℕ → Bool) (bs : List ℕ) → length bs ≡ n → test bs ≡ true → Reads (Reading.field n test) bs bs
reads-field_of n test bs l t = subst (λ k. Reads (Reading.field k test) bs bs) l (reads-field test bs t)

reads-give : {A : Type 0} (x : A) → Reads (Reading.give x) [] x
reads-give x = record { go = λ at rest. rw (add-zero at) refl }

reads-after : {A B : Type 0} (r : Reading.Reader A) (k : A → Reading.Reader B) (bs cs : List ℕ) (x : A) (y : B) → Reads r bs x → Reads (k x) cs y → Reads (Reading.after r k) (bs ++ cs) y
reads-after r k bs cs x y a b = record {
  go = λ at rest.
      rw (append_assoc bs cs rest, a.go at (cs ++ rest), b.go (at + length bs) rest, length-append bs cs) (ap (λ n. Ok (record { value = y; at = n; rest = rest })) (omega arith));
}

reads-map : {A B : Type 0} (r : Reading.Reader A) (h : A → B) (bs : List ℕ) (x : A) → Reads r bs x → Reads (Reading.after r (λ v. Reading.give (h v))) bs (h x)
reads-map r h bs x a = record { go = λ at rest. rw (a.go at rest) refl }

reads-times : {A : Type 0} (r : Reading.Reader A) (spell : A → List ℕ) (xs : List A) → AllByRecursion (λ x. Reads r (spell x) x) xs → Reads (Reading.times (length xs) r) (flat_map spell xs) xs
reads-times r spell [] h = reads-give []
reads-times r spell (x ∷ xs) h =
    reads-after r (λ y. Reading.after (Reading.times (length xs) r) (λ ys. Reading.give (y ∷ ys))) (spell x) (flat_map spell xs) x (x ∷ xs) h.0
    (reads-map (Reading.times (length xs) r) (λ ys. x ∷ ys) (flat_map spell xs) xs (reads-times r spell xs h.1))

reads-rising : {A : Type 0} (key : A → ℕ) (r : ℕ → Reading.Reader A) (spell : A → List ℕ) (least : ℕ) (xs : List A) → rises_from least (map key xs) ≡ true →
    AllByRecursion (λ x. (n : ℕ) → n ≤ key x → Reads (r n) (spell x) x) xs → Reads (Reading.rising_times key (length xs) least r) (flat_map spell xs) xs
reads-rising key r spell least [] up h = reads-give []
reads-rising key r spell least (x ∷ xs) up h =
    reads-after (r least) (λ y. Reading.after (Reading.rising_times key (length xs) (suc (key y)) r) (λ ys. Reading.give (y ∷ ys))) (spell x) (flat_map spell xs) x (x ∷ xs)
    (h.0 least (ltb-false (key x) least (not-true (nat_lt (key x) least) (and_left _ _ up))))
    (reads-map (Reading.rising_times key (length xs) (suc (key x)) r) (λ ys. x ∷ ys) (flat_map spell xs) xs (reads-rising key r spell (suc (key x)) xs (and_right (not (nat_lt (key x) least)) _ up) h.1))

within : (low high n : ℕ) → low ≤ n → n ≤ high → Reading.is_within low high n ≡ true
within low high n l h = and_from (nat_le low n) (nat_le n high) (le-leb low n l) (le-leb n high h)

reads-number : (w : Width) (low high n : ℕ) (bs : List ℕ) → length bs ≡ byte_len w → from_be_bytes w bs ≡ n → low ≤ n → n ≤ high → Reads (Reading.number w low high) bs n
reads-number w low high n bs l e a b =
    subst (λ v. Reads (Reading.number w low high) bs v) e
    (reads-map (Reading.field (byte_len w) (λ x. Reading.is_within low high (from_be_bytes w x))) (from_be_bytes w) bs bs
    (reads-field_of (byte_len w) (λ x. Reading.is_within low high (from_be_bytes w x)) bs l (subst (λ v. Reading.is_within low high v ≡ true) (sym e) (within low high n a b))))

reads-u8 : (low high n : ℕ) → low ≤ n → n ≤ high → Reads (Reading.number w8 low high) (Spelling.u8 n) n
reads-u8 low high n a b = reads-number w8 low high n (Spelling.u8 n) refl refl a b

reads-u16 : (low high n : ℕ) → low ≤ n → n ≤ high → high < 2 ^ 16 → Reads (Reading.number w16 low high) (Spelling.u16 n) n
reads-u16 low high n a b c = reads-number w16 low high n (Spelling.u16 n) refl (from_be_bytes-to_be_bytes_2 n (omega (arith, b, c))) a b

reads-u32 : (low high n : ℕ) → low ≤ n → n ≤ high → high < 2 ^ 32 → Reads (Reading.number w32 low high) (Spelling.u32 n) n
reads-u32 low high n a b c = reads-number w32 low high n (Spelling.u32 n) refl (from_be_bytes-to_be_bytes_4 n (omega (arith, b, c))) a b

reads-any : (n : ℕ) (bs : List ℕ) → length bs ≡ n → Reads (Reading.any_bytes n) bs bs
reads-any n bs l = reads-field_of n (λ x. true) bs l refl

-- ---- tags, names and casts

tag_len_le : (v : ℕ) → Frame.tag_len v ≤ 32
tag_len_le v = go (v == 2)
  where
    go : (b : Bool) → (if b then 16 else 32) ≤ 32
    go true = omega arith
    go false = omega arith

reads-tag : (v : ℕ) (t : List ℕ) → Frame.IsTag v t → Reads (Reading.read_tag v) (take (Frame.tag_len v) t) t
reads-tag v t h = subst (λ x. Reads (Reading.read_tag v) (take (Frame.tag_len v) t) x) whole
    (reads-map (Reading.any_bytes (Frame.tag_len v)) (λ x. x ++ replicate (32 - Frame.tag_len v) 0) (take (Frame.tag_len v) t) (take (Frame.tag_len v) t)
    (reads-any (Frame.tag_len v) (take (Frame.tag_len v) t) (length-take-le (Frame.tag_len v) t (omega (arith, tag_len_le v, h.bytes.0)))))
  where
    whole : take (Frame.tag_len v) t ++ replicate (32 - Frame.tag_len v) 0 ≡ t
    whole = ap (λ x. take (Frame.tag_len v) t ++ x) (sym h.zeros) ∙ take-append-drop (Frame.tag_len v) t

name_len : (n : List ℕ) → is_name n ≡ true → (1 ≤ length n) × (length n ≤ 32)
name_len [] h = cc
name_len (c ∷ cs) h = (omega arith, omega (arith, leb-true (length cs) 31 (and_right (is_letter c && list_all is_name_byte cs) _ h)))

reads-name : (n : List ℕ) → is_name n ≡ true → Reads Reading.read_name (Spelling.short_text n) n
reads-name n h = reads-after (Reading.number w8 1 32) (λ k. Reading.field k is_name) (Spelling.u8 (length n)) n (length n) n
    (reads-u8 1 32 (length n) (name_len n h).0 (name_len n h).1) (reads-field is_name n h)

names-read : (ns : List (List ℕ)) → AllByRecursion (λ n. is_name n ≡ true) ns → AllByRecursion (λ n. Reads Reading.read_name (Spelling.short_text n) n) ns
names-read [] h = tt
names-read (n ∷ ns) h = (reads-name n h.0, names-read ns h.1)

reads-cast : (v : ℕ) (c : Frame.Cast) → Frame.IsCastOf v c → Reads (Reading.read_cast v) (Spelling.join_bytes (Some c)) (Some c)
reads-cast v c h =
    reads-after _ _ c.graph (c.nonce ++ (Spelling.u8 (length c.names) ++ (flat_map Spelling.short_text c.names ++ []))) c.graph (Some c) (reads-any 32 c.graph h.graph.0)
    (reads-after _ _ c.nonce (Spelling.u8 (length c.names) ++ (flat_map Spelling.short_text c.names ++ [])) c.nonce (Some c) (reads-any 16 c.nonce h.nonce.0)
    (reads-after _ _ (Spelling.u8 (length c.names)) (flat_map Spelling.short_text c.names ++ []) (length c.names) (Some c) (reads-u8 2 16 (length c.names) h.count.0 h.count.1)
    (reads-after _ _ (flat_map Spelling.short_text c.names) [] c.names (Some c) (reads-times Reading.read_name Spelling.short_text c.names (names-read c.names h.names))
    (subst (λ x. Reads (Reading.give (Some (record { version = x; graph = c.graph; nonce = c.nonce; names = c.names }))) [] (Some c)) h.version (reads-give (Some c))))))

-- ---- items

reads-map_bytes : (most high : ℕ) (r : Reading.Reader (List ℕ)) (spell : List ℕ → List ℕ) (m : Map (List ℕ)) → most ≤ 255 → length m ≤ most → rises_from 0 (keys_of m) ≡ true →
    AllByRecursion (λ (p : ℕ × List ℕ). (p.0 ≤ high) × Reads r (spell p.1) p.1) m → Reads (Reading.read_map most high r) (Spelling.map_bytes spell m) m
reads-map_bytes most high r spell m small l up h =
    reads-after (Reading.number w8 0 most) (λ count. Reading.rising_times (λ (p : ℕ × List ℕ). p.0) count 0 (Reading.read_pair high r)) (Spelling.u8 (length m)) (flat_map (Spelling.pair_bytes spell) m) (length m) m
    (reads-u8 0 most (length m) (omega arith) l)
    (reads-rising (λ (p : ℕ × List ℕ). p.0) (Reading.read_pair high r) (Spelling.pair_bytes spell) 0 m up (pairs m h))
  where
    pair : (p : ℕ × List ℕ) → (p.0 ≤ high) × Reads r (spell p.1) p.1 → (n : ℕ) → n ≤ p.0 → Reads (Reading.read_pair high r n) (Spelling.u8 p.0 ++ spell p.1) p
    pair p h n l = reads-after (Reading.number w8 n high) (λ k. Reading.after r λ v. Reading.give (k, v)) (Spelling.u8 p.0) (spell p.1) p.0 p (reads-u8 n high p.0 l h.0)
        (reads-map r (λ v. (p.0, v)) (spell p.1) p.1 h.1)

    pairs : (m : Map (List ℕ)) → AllByRecursion (λ (p : ℕ × List ℕ). (p.0 ≤ high) × Reads r (spell p.1) p.1) m → AllByRecursion (λ p. (n : ℕ) → n ≤ p.0 → Reads (Reading.read_pair high r n) (Spelling.pair_bytes spell p) p) m
    pairs [] h = tt
    pairs (p ∷ ps) h = (pair p h.0, pairs ps h.1)

delta-read : (m : Map (List ℕ)) → AllByRecursion (λ (d : ℕ × List ℕ). (d.0 < 32) × Bytes.AreBytes 32 d.1) m → AllByRecursion (λ (p : ℕ × List ℕ). (p.0 ≤ 31) × Reads (Reading.any_bytes 32) p.1 p.1) m
delta-read [] h = tt
delta-read (d ∷ ds) h = ((omega (arith, (h.0).0), reads-any 32 d.1 ((h.0).1).0), delta-read ds h.1)

tags-read : (v : ℕ) (m : Map (List ℕ)) → AllByRecursion (λ (t : ℕ × List ℕ). (t.0 < 16) × Frame.IsTag v t.1) m → AllByRecursion (λ (p : ℕ × List ℕ). (p.0 ≤ 15) × Reads (Reading.read_tag v) (take (Frame.tag_len v) p.1) p.1) m
tags-read v [] h = tt
tags-read v (t ∷ ts) h = ((omega (arith, (h.0).0), reads-tag v t.1 (h.0).1), tags-read v ts h.1)

reads-item : (v : ℕ) (i : Frame.Item) → Frame.IsItem v i → Reads (Reading.read_item v) (Spelling.item_bytes v i) i
reads-item v i h =
    let tags : List ℕ = Spelling.map_bytes (take (Frame.tag_len v)) i.tags in
    let delta : List ℕ = Spelling.map_bytes (λ c. c) i.delta in
    reads-after _ _ (Spelling.u8 i.role) (Spelling.u16 i.label ++ (Spelling.u32 i.time ++ (delta ++ (tags ++ [])))) i.role i (reads-u8 0 15 i.role (omega arith) (omega (arith, h.role)))
    (reads-after _ _ (Spelling.u16 i.label) (Spelling.u32 i.time ++ (delta ++ (tags ++ []))) i.label i (reads-u16 0 511 i.label (omega arith) (omega (arith, h.label)) (lit< tt))
    (reads-after _ _ (Spelling.u32 i.time) (delta ++ (tags ++ [])) i.time i (reads-u32 1 1000000 i.time h.time.0 h.time.1 (lit< tt))
    (reads-after _ _ delta (tags ++ []) i.delta i (reads-map_bytes 32 31 (Reading.any_bytes 32) (λ c. c) i.delta (omega arith) h.variables.0 h.variables.1 (delta-read i.delta h.delta))
    (reads-after _ _ tags [] i.tags i (reads-map_bytes 14 15 (Reading.read_tag v) (take (Frame.tag_len v)) i.tags (omega arith) h.roles.0 h.roles.1 (tags-read v i.tags h.tags))
    (reads-give i)))))

items-read : (v : ℕ) (is : List Frame.Item) → AllByRecursion (Frame.IsItem v) is → AllByRecursion (λ i. Reads (Reading.read_item v) (Spelling.item_bytes v i) i) is
items-read v [] h = tt
items-read v (i ∷ is) h = (reads-item v i h.0, items-read v is h.1)

-- ---- openings

reads-int : (z : ℤ) → FitsSigned w64 z → Reads Reading.read_int (Spelling.sized (Values.IntValue z)) (Values.IntValue z)
reads-int z h =
    reads-after _ _ (Spelling.u32 8) (Spelling.u64 (cast_unsigned w64 z)) 8 (Values.IntValue z) (reads-u32 8 8 8 (omega arith) (omega arith) (lit< tt))
    (subst (λ x. Reads (Reading.after (Reading.any_bytes 8) λ bs. Reading.give (Values.IntValue (cast_signed w64 (from_be_bytes w64 bs)))) (Spelling.u64 (cast_unsigned w64 z)) (Values.IntValue x)) again
    (reads-map (Reading.any_bytes 8) (λ bs. Values.IntValue (cast_signed w64 (from_be_bytes w64 bs))) (Spelling.u64 (cast_unsigned w64 z)) (Spelling.u64 (cast_unsigned w64 z)) (reads-any 8 (Spelling.u64 (cast_unsigned w64 z)) refl)))
  where
    again : cast_signed w64 (from_be_bytes w64 (Spelling.u64 (cast_unsigned w64 z))) ≡ z
    again = ap (cast_signed w64) (from_be_bytes-to_be_bytes_8 (cast_unsigned w64 z) (Fits-lt-pow (Fits-of_z h))) ∙ to_z-of_z w64 z h

reads-text : (t : List ℕ) → is_utf8 t ≡ true → length t ≤ 1024 → Reads Reading.read_text (Spelling.sized (Values.TextValue t)) (Values.TextValue t)
reads-text t u l =
    reads-after _ _ (Spelling.u32 (length t)) t (length t) (Values.TextValue t) (reads-u32 0 1024 (length t) (omega arith) l (lit< tt))
    (reads-map (Reading.field (length t) is_utf8) (λ bs. Values.TextValue bs) t t (reads-field is_utf8 t u))

code_le : (v : Values.Value) → Spelling.kind_code v ≤ 1
code_le (Values.IntValue z) = omega arith
code_le (Values.TextValue t) = omega arith

reads-value : (v : Values.Value) → Frame.IsValue v → Reads (if Spelling.kind_code v == 0 then Reading.read_int else Reading.read_text) (Spelling.sized v) v
reads-value (Values.IntValue z) h = reads-int z h
reads-value (Values.TextValue t) h = reads-text t h.0 h.1

reads-opening : (o : Values.Opening) → Frame.IsOpening o → (n : ℕ) → n ≤ o.variable → Reads (Reading.read_opening n) (Spelling.opening_bytes o) o
reads-opening o h n l =
    reads-after _ _ (Spelling.u8 o.variable) (o.confounder ++ (Spelling.u8 (Spelling.kind_code o.value) ++ (Spelling.sized o.value ++ []))) o.variable o (reads-u8 n 31 o.variable l (omega (arith, h.variable)))
    (reads-after _ _ o.confounder (Spelling.u8 (Spelling.kind_code o.value) ++ (Spelling.sized o.value ++ [])) o.confounder o (reads-any 16 o.confounder h.confounder.0)
    (reads-after _ _ (Spelling.u8 (Spelling.kind_code o.value)) (Spelling.sized o.value ++ []) (Spelling.kind_code o.value) o (reads-u8 0 1 (Spelling.kind_code o.value) (omega arith) (code_le o.value))
    (reads-after _ _ (Spelling.sized o.value) [] o.value o (reads-value o.value h.value)
    (reads-give o))))

openings-read : (os : List Values.Opening) → AllByRecursion Frame.IsOpening os → AllByRecursion (λ o. (n : ℕ) → n ≤ o.variable → Reads (Reading.read_opening n) (Spelling.opening_bytes o) o) os
openings-read [] h = tt
openings-read (o ∷ os) h = (reads-opening o h.0, openings-read os h.1)

-- ---- frames

reads-join : (v : ℕ) (o : Option Frame.Cast) → IfSome o (Frame.IsCastOf v) → Reads (if Spelling.join_code o == 0 then Reading.read_cast v else Reading.give None) (Spelling.join_bytes o) o
reads-join v None h = reads-give None
reads-join v (Some c) h = reads-cast v c h

join_code_le : (o : Option Frame.Cast) → Spelling.join_code o ≤ 1
join_code_le None = omega arith
join_code_le (Some c) = omega arith

reads-version : (v : ℕ) → (v ≡ 1) ⊎ (v ≡ 2) → Reads Reading.read_version (Spelling.magic v) v
reads-version v (inl e) = subst (λ x. Reads Reading.read_version (Spelling.magic x) x) (sym e) (reads-map (Reading.field 4 (λ bs. if bytes_eq bs (Spelling.magic 1) then true else bytes_eq bs (Spelling.magic 2))) (λ bs. if bytes_eq bs (Spelling.magic 2) then 2 else 1) (codes "SGF1") (codes "SGF1") (reads-field_of 4 (λ bs. if bytes_eq bs (Spelling.magic 1) then true else bytes_eq bs (Spelling.magic 2)) (codes "SGF1") refl refl))
reads-version v (inr e) = subst (λ x. Reads Reading.read_version (Spelling.magic x) x) (sym e) (reads-map (Reading.field 4 (λ bs. if bytes_eq bs (Spelling.magic 1) then true else bytes_eq bs (Spelling.magic 2))) (λ bs. if bytes_eq bs (Spelling.magic 2) then 2 else 1) (codes "SGF2") (codes "SGF2") (reads-field_of 4 (λ bs. if bytes_eq bs (Spelling.magic 1) then true else bytes_eq bs (Spelling.magic 2)) (codes "SGF2") refl refl))

differ : (m n : ℕ) → m ≢ n → not (m == n) ≡ true
differ m n h = go (m == n) refl
  where
    go : (b : Bool) → (m == n) ≡ b → not b ≡ true
    go true e = absurd (h (eqb-true m n e))
    go false e = refl

-- the fields, and the tag
abbrev all_of : Frame.Frame → List ℕ
all_of f = concat (Spelling.u8 (Spelling.join_code f.join) ∷ f.sid ∷ Spelling.u8 f.sender ∷ Spelling.u8 f.receiver ∷ Spelling.join_bytes f.join
    ∷ Spelling.u16 (length f.items) ∷ flat_map (Spelling.item_bytes f.version) f.items
    ∷ Spelling.u8 (length f.openings) ∷ flat_map Spelling.opening_bytes f.openings ∷ take (Frame.tag_len f.version) f.tag ∷ [])

reads-frame : (f : Frame.Frame) → Spelling.HasSpelling f → Reads (Reading.read_frame_of f.version) (all_of f) f
reads-frame f h =
    let tag : List ℕ = take (Frame.tag_len f.version) f.tag in
    let openings : List ℕ = flat_map Spelling.opening_bytes f.openings ++ (tag ++ []) in
    let items : List ℕ = flat_map (Spelling.item_bytes f.version) f.items ++ (Spelling.u8 (length f.openings) ++ openings) in
    let join : List ℕ = Spelling.join_bytes f.join ++ (Spelling.u16 (length f.items) ++ items) in
    reads-after _ _ (Spelling.u8 (Spelling.join_code f.join)) (f.sid ++ (Spelling.u8 f.sender ++ (Spelling.u8 f.receiver ++ join))) (Spelling.join_code f.join) f (reads-u8 0 1 (Spelling.join_code f.join) (omega arith) (join_code_le f.join))
    (reads-after _ _ f.sid (Spelling.u8 f.sender ++ (Spelling.u8 f.receiver ++ join)) f.sid f (reads-any 32 f.sid h.fields.sid.0)
    (reads-after _ _ (Spelling.u8 f.sender) (Spelling.u8 f.receiver ++ join) f.sender f (reads-u8 0 15 f.sender (omega arith) (omega (arith, h.fields.roles.0)))
    (reads-after _ _ (Spelling.u8 f.receiver) join (Spelling.u8 f.receiver) f
    (reads-field_of 1 (λ bs. Reading.is_within 0 15 (from_be_bytes w8 bs) && not (from_be_bytes w8 bs == f.sender)) (Spelling.u8 f.receiver) refl
    (and_from (Reading.is_within 0 15 f.receiver) (not (f.receiver == f.sender)) (within 0 15 f.receiver (omega arith) (omega (arith, h.fields.roles.1))) (differ f.receiver f.sender h.fields.roles.2)))
    (reads-after _ _ (Spelling.join_bytes f.join) (Spelling.u16 (length f.items) ++ items) f.join f (reads-join f.version f.join h.fields.join)
    (reads-after _ _ (Spelling.u16 (length f.items)) items (length f.items) f (reads-u16 1 65535 (length f.items) h.fields.count.0 h.fields.count.1 (lit< tt))
    (reads-after _ _ (flat_map (Spelling.item_bytes f.version) f.items) (Spelling.u8 (length f.openings) ++ openings) f.items f (reads-times (Reading.read_item f.version) (Spelling.item_bytes f.version) f.items (items-read f.version f.items h.fields.items))
    (reads-after _ _ (Spelling.u8 (length f.openings)) openings (length f.openings) f (reads-u8 0 32 (length f.openings) (omega arith) h.fields.variables.0)
    (reads-after _ _ (flat_map Spelling.opening_bytes f.openings) (tag ++ []) f.openings f (reads-rising (λ o. o.variable) Reading.read_opening Spelling.opening_bytes 0 f.openings h.fields.variables.1 (openings-read f.openings h.fields.openings))
    (reads-after _ _ tag [] f.tag f (reads-tag f.version f.tag h.fields.tag)
    (reads-give f))))))))))

concat-snoc : (xss : List (List ℕ)) (t : List ℕ) → concat xss ++ t ≡ concat (xss ++ t ∷ [])
concat-snoc [] t = sym (append-nil t)
concat-snoc (xs ∷ xss) t = append_assoc xs (concat xss) t ∙ ap (λ l. xs ++ l) (concat-snoc xss t)

-- the version and the fields are the spelling
fields_spelled : (f : Frame.Frame) → Spelling.spelling f ≡ (Spelling.magic f.version ++ all_of f) ++ []
fields_spelled f = concat-snoc (Spelling.magic f.version ∷ Spelling.u8 (Spelling.join_code f.join) ∷ f.sid ∷ Spelling.u8 f.sender ∷ Spelling.u8 f.receiver ∷ Spelling.join_bytes f.join
    ∷ Spelling.u16 (length f.items) ∷ flat_map (Spelling.item_bytes f.version) f.items
    ∷ Spelling.u8 (length f.openings) ∷ flat_map Spelling.opening_bytes f.openings ∷ []) (take (Frame.tag_len f.version) f.tag)
    ∙ sym (append-nil (Spelling.magic f.version ++ all_of f))

reads-spelling : (f : Frame.Frame) → Spelling.HasSpelling f → Reads (Reading.after Reading.read_version Reading.read_frame_of) (Spelling.magic f.version ++ all_of f) f
reads-spelling f h = reads-after Reading.read_version Reading.read_frame_of (Spelling.magic f.version) (all_of f) f.version f (reads-version f.version h.fields.version) (reads-frame f h)

-- a frame that has a spelling is what is read from it
pub read-spelling : (f : Frame.Frame) → Spelling.HasSpelling f → Reading.read (Spelling.spelling f) ≡ Ok f
read-spelling f h =
    rw (le-ltb 60000 (length (Spelling.spelling f)) h.short) (
    ap (λ bs. Reading.whole (Reading.after Reading.read_version Reading.read_frame_of 0 bs)) (fields_spelled f)
    ∙ ap Reading.whole ((reads-spelling f h).go 0 []))

-- a spelling is the beginning of no other
pub spelling-alone : (f g : Frame.Frame) (rest : List ℕ) → Spelling.HasSpelling f → Spelling.HasSpelling g → Spelling.spelling f ++ rest ≡ Spelling.spelling g → rest ≡ []
spelling-alone f g rest h k e = left (sym ((reads-spelling f h).go 0 rest) ∙ ap (Reading.after Reading.read_version Reading.read_frame_of 0) bytes ∙ (reads-spelling g k).go 0 [])
  where
    bytes : (Spelling.magic f.version ++ all_of f) ++ rest ≡ (Spelling.magic g.version ++ all_of g) ++ []
    bytes = ap (λ bs. bs ++ rest) (sym (append-nil (Spelling.magic f.version ++ all_of f)) ∙ sym (fields_spelled f)) ∙ e ∙ fields_spelled g

    read_frame : Reading.Read Frame.Frame → Result (Reading.Read Frame.Frame) ℕ
    read_frame r = Ok r

    left : {a b : Reading.Read Frame.Frame} → read_frame a ≡ read_frame b → a.rest ≡ b.rest
    left e = cc
