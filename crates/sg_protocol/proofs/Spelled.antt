-- The bytes of frames.
use Rattle.std.specs.Prelude.{◌≡◌, ℕ, zero, suc, ◌+◌, ◌<◌, ◌≤◌, ◌==◌, nat_lt, nat_le, ◌&&◌, Bool, true, false, List, [], ◌∷◌, ◌++◌, flat_map, length, refl, Option, Some, None, IfSome}
use Rattle.std.specs.List.{list_all, AllByRecursion}
use Rattle.std.specs.Option.{option_map_or}
use Rattle.std.proofs.Common.{subst, inl, inr, arith}
use Rattle.std.proofs.lemmas.Bool.{eqb-true, cases_Bool, and_parts}
use Rattle.std.proofs.lemmas.Bool.Decides.{nat_tests}
use Rattle.sg_model.specs.Last.{Map}
use Rattle.sg_model.specs.Lists.{below, range_from}
use Rattle.sg_model.specs.Values.{Value, Opening}
use Rattle.sg_protocol.specs.Frame.{Cast, Item, Frame, IsItem, IsTag, IsValue, IsOpening, IsCastOf, tag_len}
use Rattle.sg_protocol.specs.Spelling.{spelling, magic, join_code, HasSpelling, body, u64, u8, u16, u32, item_bytes, pair_bytes, map_bytes, join_bytes, short_text, opening_bytes, sized, value_bytes, kind_code}
use Rattle.sg_model.specs.Bytes.{AreBytes}
use Rattle.sg_model.specs.Bytes.{IsBytes}
use Rattle.std.specs.Prelude.{slice_get, IsTrue}
use Rattle.sg_model.specs.Values.{IntValue, TextValue}
use Rattle.sg_protocol.specs.World as World'
use Rattle.sg_model.specs.Names.{is_name, is_name_byte, is_letter}
use Rattle.sg_model.specs.Lists.{below}
use Rattle.sg_model.proofs.Small.{and_false, lt_of}
use Rattle.std.specs.Prelude.{replicate, take, set, bit_xor, ◌%◌, ◌/◌}
use Rattle.std.specs.List.{concat}

-- the list is of bytes, by recursion
abbrev pub Bytes_ : List ℕ → Type 0
Bytes_ bs = AllByRecursion (λ b. b < 256) bs

pub to_bytes : (bs : List ℕ) → Bytes_ bs → IsBytes bs
to_bytes [] a i = omega arith
to_bytes (b ∷ bs) a zero = a.0
to_bytes (b ∷ bs) a (suc i) = to_bytes bs a.1 i

pub from_bytes : (bs : List ℕ) → IsBytes bs → Bytes_ bs
from_bytes [] a = tt
from_bytes (b ∷ bs) a = (a 0, from_bytes bs (λ i. a (suc i)))

pub bytes-append : (xs ys : List ℕ) → Bytes_ xs → Bytes_ ys → Bytes_ (xs ++ ys)
bytes-append [] ys a b = b
bytes-append (x ∷ xs) ys a b = (a.0, bytes-append xs ys a.1 b)

pub bytes-take : (n : ℕ) (xs : List ℕ) → Bytes_ xs → Bytes_ (take n xs)
bytes-take zero xs a = tt
bytes-take (suc n) [] a = tt
bytes-take (suc n) (x ∷ xs) a = (a.0, bytes-take n xs a.1)

pub bytes-zeros : (n : ℕ) → Bytes_ (replicate n 0)
bytes-zeros zero = tt
bytes-zeros (suc n) = (omega arith, bytes-zeros n)

mod_byte : (n : ℕ) → n % 256 < 256
mod_byte n = omega arith

pub u16_bytes : (n : ℕ) → Bytes_ (u16 n)
u16_bytes n = (mod_byte (n / 256), (mod_byte n, tt))

pub u32_bytes : (n : ℕ) → Bytes_ (u32 n)
u32_bytes n = (mod_byte (n / 16777216), (mod_byte (n / 65536), (mod_byte (n / 256), (mod_byte n, tt))))

pub u64_bytes : (n : ℕ) → Bytes_ (u64 n)
u64_bytes n = (mod_byte (n / 72057594037927936), (mod_byte (n / 281474976710656), (mod_byte (n / 1099511627776), (mod_byte (n / 4294967296), (mod_byte (n / 16777216), (mod_byte (n / 65536), (mod_byte (n / 256), (mod_byte n, tt))))))))

all_flips : list_all (λ b. nat_lt (bit_xor b 1) 256) (below 256) ≡ true
all_flips = refl

pub range_all : (p : ℕ → Bool) (k j : ℕ) → list_all p (range_from k j) ≡ true → (x : ℕ) → k ≤ x → x < k + j → p x ≡ true
range_all p k zero h x l u = absurd (omega arith)
range_all p k (suc j) h x l u = elim (cases_Bool (k == x)) [
  | inl e ↦ subst (λ z. p z ≡ true) (eqb-true k x e) (and_parts (p k) (list_all p (range_from (suc k) j)) h).0
  | inr e ↦ range_all p (suc k) j (and_parts (p k) (list_all p (range_from (suc k) j)) h).1 x (grind (arith, nat_tests)) (omega arith)
]

flip_byte : (b : ℕ) → b < 256 → bit_xor b 1 < 256
flip_byte b l = lt_of (bit_xor b 1) 256 (range_all (λ b. nat_lt (bit_xor b 1) 256) 0 256 all_flips b (omega arith) (omega arith))

pub bytes-set : (bs : List ℕ) (at v : ℕ) → Bytes_ bs → v < 256 → Bytes_ (set bs at v)
bytes-set [] at v a l = tt
bytes-set (b ∷ bs) zero v a l = (l, a.1)
bytes-set (b ∷ bs) (suc at) v a l = (a.0, bytes-set bs at v a.1 l)

get_byte : (bs : List ℕ) (at b : ℕ) → Bytes_ bs → slice_get bs at ≡ Some b → b < 256
get_byte [] at b a e = absurd (cc)
get_byte (x ∷ bs) zero b a e = (let q : x ≡ b = cc in subst (λ z. z < 256) q a.0)
get_byte (x ∷ bs) (suc at) b a e = get_byte bs at b a.1 e

pub bytes-flipped : (bs : List ℕ) (at : ℕ) → Bytes_ bs → Bytes_ (World'.flipped at bs)
bytes-flipped bs at a = go (slice_get bs at) refl
  where
    go : (o : Option ℕ) → slice_get bs at ≡ o → Bytes_ (option_map_or (λ b. set bs at (bit_xor b 1)) o bs)
    go None e = a
    go (Some b) e = bytes-set bs at (bit_xor b 1) a (flip_byte b (get_byte bs at b a e))

-- ---- what has a spelling is spelled in bytes

bytes-flat : {A : Type 0} (f : A → List ℕ) (xs : List A) → AllByRecursion (λ x. Bytes_ (f x)) xs → Bytes_ (flat_map f xs)
bytes-flat f [] a = tt
bytes-flat f (x ∷ xs) a = bytes-append (f x) (flat_map f xs) a.0 (bytes-flat f xs a.1)

pub record BytesItem (i : Item) : Type 0 where
  pub role : i.role < 256
  pub delta_len : length i.delta < 256
  pub delta : AllByRecursion (λ (d : ℕ × List ℕ). (d.0 < 256) × Bytes_ d.1) i.delta
  pub tags_len : length i.tags < 256
  pub tags : AllByRecursion (λ (d : ℕ × List ℕ). (d.0 < 256) × Bytes_ d.1) i.tags

pub record BytesFrame (f : Frame) : Type 0 where
  pub sid : Bytes_ f.sid
  pub roles : (f.sender < 256) × (f.receiver < 256)
  pub join : Bytes_ (join_bytes f.join)
  pub items : AllByRecursion BytesItem f.items
  pub count : length f.openings < 256
  pub openings : AllByRecursion (λ (o : Opening). Bytes_ (opening_bytes o)) f.openings
  pub tag : Bytes_ f.tag

pairs_bytes : (spell : List ℕ → List ℕ) → ((t : List ℕ) → Bytes_ t → Bytes_ (spell t)) → (m : Map (List ℕ)) → length m < 256 → AllByRecursion (λ (d : ℕ × List ℕ). (d.0 < 256) × Bytes_ d.1) m → Bytes_ (map_bytes spell m)
pairs_bytes spell k m l a = (l, go m a)
  where
    go : (m : Map (List ℕ)) → AllByRecursion (λ (d : ℕ × List ℕ). (d.0 < 256) × Bytes_ d.1) m → Bytes_ (flat_map (pair_bytes spell) m)
    go [] a = tt
    go (d ∷ m) a = (a.0.0, bytes-append (spell d.1) (flat_map (pair_bytes spell) m) (k d.1 a.0.1) (go m a.1))

bytes-concat : (ps : List (List ℕ)) → AllByRecursion Bytes_ ps → Bytes_ (concat ps)
bytes-concat [] a = tt
bytes-concat (p ∷ ps) a = bytes-append p (concat ps) a.0 (bytes-concat ps a.1)

item_spelled : (v : ℕ) (i : Item) → BytesItem i → Bytes_ (item_bytes v i)
item_spelled v i b = bytes-concat (u8 i.role ∷ u16 i.label ∷ u32 i.time ∷ map_bytes (λ c. c) i.delta ∷ map_bytes (take (tag_len v)) i.tags ∷ [])
    ((b.role, tt), (u16_bytes i.label, (u32_bytes i.time, (pairs_bytes (λ c. c) (λ t h. h) i.delta b.delta_len b.delta, (pairs_bytes (take (tag_len v)) (λ t h. bytes-take (tag_len v) t h) i.tags b.tags_len b.tags, tt)))))

magic_bytes : (v : ℕ) → Bytes_ (magic v)
magic_bytes v = elim (cases_Bool (v == 2)) [ inl e ↦ rw e (omega arith, (omega arith, (omega arith, (omega arith, tt)))) | inr e ↦ rw e (omega arith, (omega arith, (omega arith, (omega arith, tt)))) ]

code_byte : (o : Option Cast) → join_code o < 256
code_byte None = omega arith
code_byte (Some c) = omega arith

items_spelled : (v : ℕ) (is : List Item) → AllByRecursion BytesItem is → AllByRecursion (λ i. Bytes_ (item_bytes v i)) is
items_spelled v [] a = tt
items_spelled v (i ∷ is) a = (item_spelled v i a.0, items_spelled v is a.1)

pub spelling_bytes : (f : Frame) → BytesFrame f → Bytes_ (spelling f)
spelling_bytes f b = bytes-append (body f) (take (tag_len f.version) f.tag)
    (bytes-concat (magic f.version ∷ u8 (join_code f.join) ∷ f.sid ∷ u8 f.sender ∷ u8 f.receiver ∷ join_bytes f.join ∷ u16 (length f.items) ∷ flat_map (item_bytes f.version) f.items ∷ u8 (length f.openings) ∷ flat_map opening_bytes f.openings ∷ [])
    (magic_bytes f.version, ((code_byte f.join, tt), (b.sid, ((b.roles.0, tt), ((b.roles.1, tt), (b.join, (u16_bytes (length f.items), (bytes-flat (item_bytes f.version) f.items (items_spelled f.version f.items b.items), ((b.count, tt), (bytes-flat opening_bytes f.openings b.openings, tt)))))))))))
    (bytes-take (tag_len f.version) f.tag b.tag)

letter_byte : (c : ℕ) → is_name_byte c ≡ true → c < 256
letter_byte c h = elim (cases_Bool (nat_lt c 256)) [
  | inl e ↦ lt_of c 256 e
  | inr e ↦ absurd (no c e h)
]
  where
    high : (c k : ℕ) → k < 256 → nat_lt c 256 ≡ false → nat_le c k ≡ false
    high c k l e = grind (arith, nat_tests)

    high_lt : (c k : ℕ) → k ≤ 256 → nat_lt c 256 ≡ false → nat_lt c k ≡ false
    high_lt c k l e = grind (arith, nat_tests)

    no : (c : ℕ) → nat_lt c 256 ≡ false → is_name_byte c ≡ true → ⊥
    no c e h =
        let a : nat_le c 57 ≡ false = high c 57 (omega arith) e in
        let b : nat_le c 95 ≡ false = high c 95 (omega arith) e in
        let d : nat_le c 122 ≡ false = high c 122 (omega arith) e in
        let f : nat_lt c 97 ≡ false = high_lt c 97 (omega arith) e in
        let g : is_name_byte c ≡ false = rw (a, and_false, b, and_false, f) d in
        absurd (cc)

pub name_bytes_ : (n : List ℕ) → is_name n ≡ true → (length n < 256) × Bytes_ n
name_bytes_ [] h = (omega arith, tt)
name_bytes_ (c ∷ cs) h =
    let p = and_parts (is_letter c && list_all is_name_byte cs) (nat_le (length cs) 31) h in
    let q = and_parts (is_letter c) (list_all is_name_byte cs) p.0 in
    (le_len (length cs) p.1, (letter_byte c (as_byte c q.0), go cs q.1))
  where
    le_len : (k : ℕ) → nat_le k 31 ≡ true → suc k < 256
    le_len k h = grind (arith, nat_tests)

    as_byte : (c : ℕ) → is_letter c ≡ true → is_name_byte c ≡ true
    as_byte c h = elim (cases_Bool (nat_le 48 c && nat_le c 57)) [
      | inl e ↦ rw e refl
      | inr e ↦ elim (cases_Bool (nat_le 95 c && nat_le c 95)) [ inl e' ↦ rw (e, e') refl | inr e' ↦ rw (e, e') h ]
    ]

    go : (cs : List ℕ) → list_all is_name_byte cs ≡ true → Bytes_ cs
    go [] h = tt
    go (c ∷ cs) h = let q = and_parts (is_name_byte c) (list_all is_name_byte cs) h in (letter_byte c q.0, go cs q.1)

cast_bytes : (v : ℕ) (c : Cast) → IsCastOf v c → Bytes_ (join_bytes (Some c))
cast_bytes v c h = bytes-concat (c.graph ∷ c.nonce ∷ u8 (length c.names) ∷ flat_map short_text c.names ∷ []) (from_bytes c.graph h.graph.1, (from_bytes c.nonce h.nonce.1, (((let l = h.count.1 in omega (arith, l)), tt), (bytes-flat short_text c.names (go c.names h.names), tt))))
  where
    go : (ns : List (List ℕ)) → AllByRecursion (λ n. IsTrue (is_name n)) ns → AllByRecursion (λ n. Bytes_ (short_text n)) ns
    go [] a = tt
    go (n ∷ ns) a = let r = name_bytes_ n a.0 in ((r.0, r.1), go ns a.1)

value_spelled : (v : Value) → IsValue v → Bytes_ (value_bytes v)
value_spelled (IntValue z) h = u64_bytes _
value_spelled (TextValue t) h = from_bytes t h.2

code_of_kind : (v : Value) → kind_code v < 256
code_of_kind (IntValue z) = omega arith
code_of_kind (TextValue t) = omega arith

opening_spelled : (o : Opening) → IsOpening o → Bytes_ (opening_bytes o)
opening_spelled o h = bytes-concat (u8 o.variable ∷ o.confounder ∷ u8 (kind_code o.value) ∷ sized o.value ∷ [])
    (((let l = h.variable in omega (arith, l)), tt), (from_bytes o.confounder h.confounder.1, ((code_of_kind o.value, tt), (bytes-append (u32 (length (value_bytes o.value))) (value_bytes o.value) (u32_bytes (length (value_bytes o.value))) (value_spelled o.value h.value), tt))))

pub item_has_bytes : (v : ℕ) (i : Item) → IsItem v i → BytesItem i
item_has_bytes v i h = record {
  role = (let l = h.role in omega (arith, l));
  delta_len = (let l = h.variables.0 in omega (arith, l));
  delta = go32 i.delta h.delta;
  tags_len = (let l = h.roles.0 in omega (arith, l));
  tags = go16 i.tags h.tags;
}
  where
    go32 : (m : Map (List ℕ)) → AllByRecursion (λ (d : ℕ × List ℕ). (d.0 < 32) × AreBytes 32 d.1) m → AllByRecursion (λ (d : ℕ × List ℕ). (d.0 < 256) × Bytes_ d.1) m
    go32 [] a = tt
    go32 (d ∷ m) a = (((let l = a.0.0 in omega (arith, l)), from_bytes d.1 a.0.1.1), go32 m a.1)

    go16 : (m : Map (List ℕ)) → AllByRecursion (λ (t : ℕ × List ℕ). (t.0 < 16) × IsTag v t.1) m → AllByRecursion (λ (d : ℕ × List ℕ). (d.0 < 256) × Bytes_ d.1) m
    go16 [] a = tt
    go16 (d ∷ m) a = (((let l = a.0.0 in omega (arith, l)), from_bytes d.1 a.0.1.bytes.1), go16 m a.1)

pub has_bytes : (f : Frame) → HasSpelling f → BytesFrame f
has_bytes f h = record {
  sid = from_bytes f.sid h.fields.sid.1;
  roles = ((let l = h.fields.roles.0 in omega (arith, l)), (let l = h.fields.roles.1 in omega (arith, l)));
  join = joined_ f.join h.fields.join;
  items = go f.items h.fields.items;
  count = (let l = h.fields.variables.0 in omega (arith, l));
  openings = opens f.openings h.fields.openings;
  tag = from_bytes f.tag h.fields.tag.bytes.1;
}
  where
    joined_ : (o : Option Cast) → IfSome o (IsCastOf f.version) → Bytes_ (join_bytes o)
    joined_ None k = tt
    joined_ (Some c) k = cast_bytes f.version c k

    go : (is : List Item) → AllByRecursion (IsItem f.version) is → AllByRecursion BytesItem is
    go [] a = tt
    go (i ∷ is) a = (item_has_bytes f.version i a.0, go is a.1)

    opens : (os : List Opening) → AllByRecursion IsOpening os → AllByRecursion (λ (o : Opening). Bytes_ (opening_bytes o)) os
    opens [] a = tt
    opens (o ∷ os) a = (opening_spelled o a.0, opens os a.1)
