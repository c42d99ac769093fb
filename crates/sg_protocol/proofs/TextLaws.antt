-- The texts that are hashed or tagged are read back in one way only.
use Rattle.std.specs.Prelude.{FitsSigned, ◌≡◌, ◌≢◌, ℕ, ◌<◌, ◌≤◌, ◌^◌, ◌==◌, Bool, true, false, if◌then◌else◌, List, [], ◌∷◌, ◌++◌, map, length, take, drop, get_or, codes, flat_map, refl, Option, Some, None, Result, Ok, ℤ, IfSome}
use Rattle.std.specs.List.{AllByRecursion, concat}
use Rattle.std.specs.Int.{w16, w32, w64, from_be_bytes, cast_unsigned, cast_signed}
use Rattle.std.proofs.Common.{sym, ◌∙◌, ap, subst, inl, inr, arith}
use Rattle.std.proofs.Math.Facts.{Fits-lt-pow, Fits-of_z}
use Rattle.std.proofs.lemmas.Int.{to_z-of_z}
use Rattle.std.proofs.lemmas.List.{append_assoc, append-nil, append_cancel_left, append_cancel_right}
use Rattle.std.proofs.lemmas.Nat.{from_be_bytes-to_be_bytes_2, from_be_bytes-to_be_bytes_4, from_be_bytes-to_be_bytes_8}
use Rattle.std.proofs.lemmas.Bool.{cases_Bool}
use Rattle.sg_protocol.specs.Graph.{Graph, canonical}
use Rattle.sg_protocol.specs.Spelling
use Rattle.sg_protocol.specs.Frame
use Rattle.sg_model.specs.Values
use Rattle.sg_protocol.specs.Reading
use Rattle.sg_protocol.specs.Texts.{graph_text_of, session_text_of, commitment_text_of, item_text_of, frame_text_of, maybe_commitment}
use Rattle.sg_protocol.specs.TextLaws.{IsVersion, ValueFits, CastFits, OpeningFits, untagged, OneCast, OneOpening, OneItem, OneBody, OneFrame, OneCanonical, KindsDiffer, VersionsDiffer}
use Rattle.sg_protocol.proofs.ReadLaws.{read-spelling}

-- ---- fields, one after another

-- two prefixes of one length
pub parts : (a b s t : List ℕ) → length a ≡ length b → a ++ s ≡ b ++ t → (a ≡ b) × (s ≡ t)
parts [] [] s t l e = (refl, e)
parts [] (y ∷ b) s t l e = absurd (omega arith)
parts (x ∷ a) [] s t l e = absurd (omega arith)
parts (x ∷ a) (y ∷ b) s t l e = let r : (a ≡ b) × (s ≡ t) = parts a b s t (omega arith) (cc) in let f : a ≡ b = r.0 in let h : x ≡ y = cc in (cc, r.1)

-- the words that texts begin with
pub magic_long : (v : ℕ) → length (Spelling.magic v) ≡ 4
magic_long v = elim (cases_Bool (v == 2)) [ inl e ↦ rw e refl | inr e ↦ rw e refl ]

pub item_word : (v : ℕ) → length (if v == 2 then codes "sg-item-2" else codes "sg-item-1") ≡ 9
item_word v = elim (cases_Bool (v == 2)) [ inl e ↦ rw e refl | inr e ↦ rw e refl ]

pub frame_word : (v : ℕ) → length (if v == 2 then codes "sg-frame-2" else codes "sg-frame-1") ≡ 10
frame_word v = elim (cases_Bool (v == 2)) [ inl e ↦ rw e refl | inr e ↦ rw e refl ]

-- the fields, and what follows them
abbrev pub fields : List (List ℕ) → List ℕ → List ℕ
fields [] t = t
fields (x ∷ xs) t = x ++ fields xs t

-- fields of the same lengths
pub fields_same : (xs ys : List (List ℕ)) (s t : List ℕ) → map length xs ≡ map length ys → fields xs s ≡ fields ys t → (xs ≡ ys) × (s ≡ t)
fields_same [] [] s t l e = (refl, e)
fields_same [] (b ∷ ys) s t l e = cc
fields_same (a ∷ xs) [] s t l e = cc
fields_same (a ∷ xs) (b ∷ ys) s t l e =
    let m : length a ≡ length b = cc in
    let n : map length xs ≡ map length ys = cc in
    let first : (a ≡ b) × (fields xs s ≡ fields ys t) = parts a b (fields xs s) (fields ys t) m e in
    let others : (xs ≡ ys) × (s ≡ t) = fields_same xs ys s t n first.1 in
    (cc (first.0, others.0), others.1)

-- what is spelled ends by itself: whatever follows, two spellings that agree are of one thing
pub record Ends {A : Type 0} (P : A → Type 0) (spell : A → List ℕ) : Type 0 where
  pub same : (x y : A) (s t : List ℕ) → P x → P y → spell x ++ s ≡ spell y ++ t → (x ≡ y) × (s ≡ t)

-- lists of one length, one after another
pub all_same : {A : Type 0} (P : A → Type 0) (spell : A → List ℕ) → Ends P spell → (xs ys : List A) (s t : List ℕ) → AllByRecursion P xs → AllByRecursion P ys →
    length xs ≡ length ys → flat_map spell xs ++ s ≡ flat_map spell ys ++ t → (xs ≡ ys) × (s ≡ t)
all_same P spell d [] [] s t h k l e = (refl, e)
all_same P spell d [] (y ∷ ys) s t h k l e = absurd (omega arith)
all_same P spell d (x ∷ xs) [] s t h k l e = absurd (omega arith)
all_same P spell d (x ∷ xs) (y ∷ ys) s t h k l e =
    let first : (x ≡ y) × (flat_map spell xs ++ s ≡ flat_map spell ys ++ t) =
    d.same x y (flat_map spell xs ++ s) (flat_map spell ys ++ t) h.0 k.0 (sym (append_assoc (spell x) (flat_map spell xs) s) ∙ e ∙ append_assoc (spell y) (flat_map spell ys) t) in
    let others : (xs ≡ ys) × (s ≡ t) = all_same P spell d xs ys s t h.1 k.1 (omega arith) first.1 in
    (cc (first.0, others.0), others.1)

empty : (a b : List ℕ) → 0 < length a → a ++ b ≡ [] → ⊥
empty [] b h e = omega arith
empty (x ∷ a) b h e = cc

-- lists of any length, to the end, if nothing is spelled by no bytes
pub all_to_end : {A : Type 0} (P : A → Type 0) (spell : A → List ℕ) → Ends P spell → ((x : A) → 0 < length (spell x)) → (xs ys : List A) → AllByRecursion P xs → AllByRecursion P ys →
    flat_map spell xs ≡ flat_map spell ys → xs ≡ ys
all_to_end P spell d more [] [] h k e = refl
all_to_end P spell d more [] (y ∷ ys) h k e = absurd (empty (spell y) (flat_map spell ys) (more y) (sym e))
all_to_end P spell d more (x ∷ xs) [] h k e = absurd (empty (spell x) (flat_map spell xs) (more x) e)
all_to_end P spell d more (x ∷ xs) (y ∷ ys) h k e =
    let first : (x ≡ y) × (flat_map spell xs ≡ flat_map spell ys) = d.same x y (flat_map spell xs) (flat_map spell ys) h.0 k.0 e in
    cc (first.0, all_to_end P spell d more xs ys h.1 k.1 first.1)

-- ---- numbers

u16_same : (m n : ℕ) → m < 2 ^ 16 → n < 2 ^ 16 → Spelling.u16 m ≡ Spelling.u16 n → m ≡ n
u16_same m n h k e = sym (from_be_bytes-to_be_bytes_2 m h) ∙ ap (from_be_bytes w16) e ∙ from_be_bytes-to_be_bytes_2 n k

u32_same : (m n : ℕ) → m < 2 ^ 32 → n < 2 ^ 32 → Spelling.u32 m ≡ Spelling.u32 n → m ≡ n
u32_same m n h k e = sym (from_be_bytes-to_be_bytes_4 m h) ∙ ap (from_be_bytes w32) e ∙ from_be_bytes-to_be_bytes_4 n k

int_same : (y z : ℤ) → FitsSigned w64 y → FitsSigned w64 z → Spelling.u64 (cast_unsigned w64 y) ≡ Spelling.u64 (cast_unsigned w64 z) → y ≡ z
int_same y z h k e = sym (again y h) ∙ ap (λ bs. cast_signed w64 (from_be_bytes w64 bs)) e ∙ again z k
  where
    again : (x : ℤ) → FitsSigned w64 x → cast_signed w64 (from_be_bytes w64 (Spelling.u64 (cast_unsigned w64 x))) ≡ x
    again x h = ap (cast_signed w64) (from_be_bytes-to_be_bytes_8 (cast_unsigned w64 x) (Fits-lt-pow (Fits-of_z h))) ∙ to_z-of_z w64 x h

-- ---- words

-- the word for version 2 or the one for version 1
abbrev word : List ℕ → List ℕ → ℕ → List ℕ
word a b v = if v == 2 then a else b

word_length : (a b : List ℕ) (v : ℕ) → length a ≡ length b → length (word a b v) ≡ length a
word_length a b v l = go (v == 2)
  where
    go : (x : Bool) → length (if x then a else b) ≡ length a
    go true = refl
    go false = sym l

-- two words of one length, which say the version, 2 or 1, at index i
versions_same : (i : ℕ) (a b s t : List ℕ) (v w : ℕ) → length a ≡ length b → get_or a i 0 ≡ 50 → get_or b i 0 ≡ 49 → IsVersion v → IsVersion w → word a b v ++ s ≡ word a b w ++ t → (v ≡ w) × (s ≡ t)
versions_same i a b s t v w l m n h k e =
    let p : (word a b v ≡ word a b w) × (s ≡ t) = parts (word a b v) (word a b w) s t (word_length a b v l ∙ sym (word_length a b w l)) e in
    let f : get_or (word a b v) i 0 ≡ get_or (word a b w) i 0 = ap (λ x. get_or x i 0) p.0 in
    (says h k f, p.1)
  where
    says : IsVersion v → IsVersion w → get_or (word a b v) i 0 ≡ get_or (word a b w) i 0 → v ≡ w
    says (inl p) (inl q) f = p ∙ sym q
    says (inl p) (inr q) f = let g : get_or b i 0 ≡ get_or a i 0 = rw (p, q) at f in absurd (omega arith)
    says (inr p) (inl q) f = let g : get_or a i 0 ≡ get_or b i 0 = rw (p, q) at f in absurd (omega arith)
    says (inr p) (inr q) f = p ∙ sym q

-- two words of one length, whatever they say
rest_same : (a b s t : List ℕ) (v w : ℕ) → length a ≡ length b → word a b v ++ s ≡ word a b w ++ t → s ≡ t
rest_same a b s t v w l e = (parts (word a b v) (word a b w) s t (word_length a b v l ∙ sym (word_length a b w l)) e).1

-- ---- sessions

name_ends : Ends (λ (n : List ℕ). Unit {0}) Spelling.short_text
name_ends = record { same = λ x y s t h k e. parts x y s t (ap (λ l. get_or l 0 0) e) (ap (drop 1) e) }

all_names : (ns : List (List ℕ)) → AllByRecursion (λ (n : List ℕ). Unit {0}) ns
all_names [] = tt
all_names (n ∷ ns) = (tt, all_names ns)

abbrev cast_fields : Frame.Cast → List (List ℕ)
cast_fields c = c.graph ∷ c.nonce ∷ Spelling.u8 (length c.names) ∷ []

abbrev cast_rest : Frame.Cast → List ℕ
cast_rest c = flat_map Spelling.short_text c.names ++ []

pub one_cast : OneCast
one_cast c d h k e =
    let v : (c.version ≡ d.version) × (fields (cast_fields c) (cast_rest c) ≡ fields (cast_fields d) (cast_rest d)) =
    versions_same 11 (codes "sg-session-2") (codes "sg-session-1") _ _ c.version d.version refl refl refl h.version k.version e in
    let f : (cast_fields c ≡ cast_fields d) × (cast_rest c ≡ cast_rest d) = fields_same (cast_fields c) (cast_fields d) (cast_rest c) (cast_rest d) (cc (h.graph, k.graph, h.nonce, k.nonce)) v.1 in
    let same_count : length c.names ≡ length d.names = cc (f.0) in
    let same_names : c.names ≡ d.names = (all_same (λ (n : List ℕ). Unit {0}) Spelling.short_text name_ends c.names d.names [] [] (all_names c.names) (all_names d.names) same_count f.1).0 in
    let same : made c.version c.graph c.nonce c.names ≡ made d.version d.graph d.nonce d.names = cc (v.0, f.0, same_names) in
    same
  where
    made : ℕ → List ℕ → List ℕ → List (List ℕ) → Frame.Cast
    made v g n ns = record { version = v; graph = g; nonce = n; names = ns }

-- ---- commitments

value_same : (v w : Values.Value) → ValueFits v → ValueFits w → Spelling.kind_code v ≡ Spelling.kind_code w → Spelling.sized v ++ [] ≡ Spelling.sized w ++ [] → v ≡ w
value_same (Values.IntValue y) (Values.IntValue z) h k c e =
    ap Values.IntValue (int_same y z h k (append_cancel_right (Spelling.u64 (cast_unsigned w64 y)) (Spelling.u64 (cast_unsigned w64 z)) [] (append_cancel_left (Spelling.u32 8) _ _ e)))
value_same (Values.IntValue y) (Values.TextValue u) h k c e = absurd (omega arith)
value_same (Values.TextValue t) (Values.IntValue z) h k c e = absurd (omega arith)
value_same (Values.TextValue t) (Values.TextValue u) h k c e = ap Values.TextValue (append_cancel_right t u [] (parts (Spelling.u32 (length t)) (Spelling.u32 (length u)) _ _ refl e).1)

abbrev opening_fields : List ℕ → Values.Opening → List (List ℕ)
opening_fields s o = s ∷ Spelling.u8 o.variable ∷ o.confounder ∷ Spelling.u8 (Spelling.kind_code o.value) ∷ []

pub one_opening : OneOpening
one_opening s t o p l m h k e =
    let f : (opening_fields s o ≡ opening_fields t p) × (Spelling.sized o.value ++ [] ≡ Spelling.sized p.value ++ []) =
    fields_same (opening_fields s o) (opening_fields t p) _ _ (cc (l, m, h.confounder, k.confounder)) (sym (spelled s o) ∙ append_cancel_left (codes "sg-commit-1") _ _ e ∙ spelled t p) in
    let same_kind : Spelling.kind_code o.value ≡ Spelling.kind_code p.value = cc (f.0) in
    let same : made o.variable o.confounder o.value ≡ made p.variable p.confounder p.value = cc (f.0, value_same o.value p.value h.value k.value same_kind f.1) in
    (cc (f.0), same)
  where
    spelled : (s : List ℕ) (o : Values.Opening) → s ++ (Spelling.opening_bytes o ++ []) ≡ fields (opening_fields s o) (Spelling.sized o.value ++ [])
    spelled s o = ap (λ l. s ++ l) (append-nil (Spelling.opening_bytes o))

    made : ℕ → List ℕ → Values.Value → Values.Opening
    made x c v = record { variable = x; confounder = c; value = v }

-- ---- items

held_ends : Ends (λ o. IfSome o (λ c. length c ≡ 32)) maybe_commitment
held_ends = record { same = held_same }
  where
    held_same : (x y : Option (List ℕ)) (s t : List ℕ) → IfSome x (λ c. length c ≡ 32) → IfSome y (λ c. length c ≡ 32) → maybe_commitment x ++ s ≡ maybe_commitment y ++ t → (x ≡ y) × (s ≡ t)
    held_same None None s t h k e = (refl, cc)
    held_same None (Some c) s t h k e = cc
    held_same (Some b) None s t h k e = cc
    held_same (Some b) (Some c) s t h k e = let f : b ++ s ≡ c ++ t = cc in let r : (b ≡ c) × (s ≡ t) = parts b c s t (h ∙ sym k) f in (ap Some r.0, r.1)

held_some : (o : Option (List ℕ)) → 0 < length (maybe_commitment o)
held_some None = omega arith
held_some (Some c) = omega arith

abbrev item_fields : List ℕ → ℕ → ℕ → ℕ → ℕ → List (List ℕ)
item_fields s a c l i = s ∷ Spelling.u8 a ∷ Spelling.u8 c ∷ Spelling.u16 l ∷ Spelling.u32 i ∷ []

pub one_item : OneItem
one_item v w s t a b c d l m i j h k f g e =
    let p : (v ≡ w) × (fields (item_fields s a c l i) (flat_map maybe_commitment h ++ []) ≡ fields (item_fields t b d m j) (flat_map maybe_commitment k ++ [])) =
    versions_same 8 (codes "sg-item-2") (codes "sg-item-1") _ _ v w refl refl refl f.version g.version e in
    let q : (item_fields s a c l i ≡ item_fields t b d m j) × (flat_map maybe_commitment h ++ [] ≡ flat_map maybe_commitment k ++ []) =
    fields_same (item_fields s a c l i) (item_fields t b d m j) _ _ (cc (f.sid, g.sid)) p.1 in
    record {
      version = p.0;
      sid = ap (λ x. get_or x 0 []) q.0;
      sender = ap (λ x. get_or (get_or x 1 []) 0 0) q.0;
      target = ap (λ x. get_or (get_or x 2 []) 0 0) q.0;
      label = u16_same l m f.label g.label (ap (λ x. get_or x 3 []) q.0);
      time = u32_same i j f.time g.time (ap (λ x. get_or x 4 []) q.0);
      held = all_to_end (λ o. IfSome o (λ c. length c ≡ 32)) maybe_commitment held_ends held_some h k f.held g.held (append_cancel_right (flat_map maybe_commitment h) (flat_map maybe_commitment k) [] q.1);
    }

-- ---- frames and graphs

pub one_body : OneBody
one_body v w b c h k e = versions_same 9 (codes "sg-frame-2") (codes "sg-frame-1") b c v w refl refl refl h k e

-- two frames with one spelling before their tags
pub body_same : (f g : Frame.Frame) → Spelling.HasSpelling f → Spelling.HasSpelling g → Spelling.body f ≡ Spelling.body g → untagged f ≡ untagged g
body_same f g h k e = ap untagged (ok_same f (with_tag f.tag g) (sym (read-spelling f h) ∙ ap Reading.read spelled ∙ read-spelling (with_tag f.tag g) fits))
  where
    with_tag : List ℕ → Frame.Frame → Frame.Frame
    with_tag t f = record { version = f.version; sid = f.sid; sender = f.sender; receiver = f.receiver; join = f.join; items = f.items; openings = f.openings; tag = t }

    after_magic : Frame.Frame → List ℕ
    after_magic f = concat (Spelling.u8 (Spelling.join_code f.join) ∷ f.sid ∷ Spelling.u8 f.sender ∷ Spelling.u8 f.receiver ∷ Spelling.join_bytes f.join
        ∷ Spelling.u16 (length f.items) ∷ flat_map (Spelling.item_bytes f.version) f.items ∷ Spelling.u8 (length f.openings) ∷ flat_map Spelling.opening_bytes f.openings ∷ [])

    version : f.version ≡ g.version
    version = (versions_same 3 (codes "SGF2") (codes "SGF1") (after_magic f) (after_magic g) f.version g.version refl refl refl h.fields.version k.fields.version e).0

    spelled : Spelling.spelling f ≡ Spelling.spelling (with_tag f.tag g)
    spelled = ap (λ v. Spelling.body f ++ take (Frame.tag_len v) f.tag) version ∙ ap (λ bs. bs ++ take (Frame.tag_len g.version) f.tag) e

    ok_same : (x y : Frame.Frame) → (let r : Result Frame.Frame ℕ = Ok x in r ≡ Ok y) → x ≡ y
    ok_same x y e = cc

    fits : Spelling.HasSpelling (with_tag f.tag g)
    fits = record {
      fields = record {
        version = k.fields.version;
        sid = k.fields.sid;
        roles = k.fields.roles;
        join = k.fields.join;
        count = k.fields.count;
        items = k.fields.items;
        variables = k.fields.variables;
        openings = k.fields.openings;
        tag = subst (λ v. Frame.IsTag v f.tag) version h.fields.tag;
      };
      short = subst (λ bs. length bs ≤ 60000) spelled h.short;
    }

pub one_frame : OneFrame
one_frame v w f g h k e = body_same f g h k (rest_same (codes "sg-frame-2") (codes "sg-frame-1") (Spelling.body f) (Spelling.body g) v w refl e)

pub one_canonical : OneCanonical
one_canonical g h e = append_cancel_left (codes "sg-graph-1") (canonical g) (canonical h) e

-- ---- kinds

-- the fourth byte, which says the kind
kind : List ℕ → ℕ
kind text = get_or text 3 0

head_kind : (x : Bool) (a b s : List ℕ) (k : ℕ) → get_or (a ++ s) 3 0 ≡ k → get_or (b ++ s) 3 0 ≡ k → get_or ((if x then a else b) ++ s) 3 0 ≡ k
head_kind true a b s k h j = h
head_kind false a b s k h j = j

kind_graph : (g : Graph) → kind (graph_text_of g) ≡ 103
unfolding kind
kind_graph g = refl

kind_session : (c : Frame.Cast) → kind (session_text_of c) ≡ 115
unfolding kind
kind_session c = head_kind (c.version == 2) (codes "sg-session-2") (codes "sg-session-1") _ 115 refl refl

kind_commitment : (s : List ℕ) (o : Values.Opening) → kind (commitment_text_of s o) ≡ 99
unfolding kind
kind_commitment s o = refl

kind_item : (v : ℕ) (s : List ℕ) (a b l i : ℕ) (h : List (Option (List ℕ))) → kind (item_text_of v s a b l i h) ≡ 105
unfolding kind
kind_item v s a b l i h = head_kind (v == 2) (codes "sg-item-2") (codes "sg-item-1") _ 105 refl refl

kind_frame : (w : ℕ) (bs : List ℕ) → kind (frame_text_of w bs) ≡ 102
unfolding kind
kind_frame w bs = head_kind (w == 2) (codes "sg-frame-2") (codes "sg-frame-1") bs 102 refl refl

apart : (a b : List ℕ) (m n : ℕ) → kind a ≡ m → kind b ≡ n → m ≢ n → a ≢ b
apart a b m n p q d e = d (sym p ∙ ap kind e ∙ q)

pub kinds_differ : KindsDiffer
kinds_differ = record {
  graph_session = λ g c. apart _ _ 103 115 (kind_graph g) (kind_session c) (λ e. omega arith);
  graph_commitment = λ g s o. apart _ _ 103 99 (kind_graph g) (kind_commitment s o) (λ e. omega arith);
  graph_item = λ g v s a b l i h. apart _ _ 103 105 (kind_graph g) (kind_item v s a b l i h) (λ e. omega arith);
  graph_frame = λ g w bs. apart _ _ 103 102 (kind_graph g) (kind_frame w bs) (λ e. omega arith);
  session_commitment = λ c s o. apart _ _ 115 99 (kind_session c) (kind_commitment s o) (λ e. omega arith);
  session_item = λ c v s a b l i h. apart _ _ 115 105 (kind_session c) (kind_item v s a b l i h) (λ e. omega arith);
  session_frame = λ c w bs. apart _ _ 115 102 (kind_session c) (kind_frame w bs) (λ e. omega arith);
  commitment_item = λ s o v t a b l i h. apart _ _ 99 105 (kind_commitment s o) (kind_item v t a b l i h) (λ e. omega arith);
  commitment_frame = λ s o w bs. apart _ _ 99 102 (kind_commitment s o) (kind_frame w bs) (λ e. omega arith);
  item_frame = λ v s a b l i h w bs. apart _ _ 105 102 (kind_item v s a b l i h) (kind_frame w bs) (λ e. omega arith);
}

pub versions_differ : VersionsDiffer
versions_differ = record {
  session = λ c d h k e. (versions_same 11 (codes "sg-session-2") (codes "sg-session-1") _ _ c.version d.version refl refl refl h k e).0;
  item = λ v w s t a b c d l m i j x y h k e. (versions_same 8 (codes "sg-item-2") (codes "sg-item-1") _ _ v w refl refl refl h k e).0;
  frame = λ v w b c h k e. (one_body v w b c h k e).0;
}

-- ---- from the ranges of frames

-- a cast of a version that there is
pub cast_fits : (c : Frame.Cast) → IsVersion c.version → Frame.IsCastOf c.version c → CastFits c
cast_fits c v h = record { version = v; graph = h.graph.0; nonce = h.nonce.0 }

value_fits : (v : Values.Value) → Frame.IsValue v → ValueFits v
value_fits (Values.IntValue z) h = h
value_fits (Values.TextValue t) h = below (length t) h.1
  where
    below : (n : ℕ) → n ≤ 1024 → n < 2 ^ 32
    below n h = omega arith

-- an opening that a frame may have
pub opening_fits : (o : Values.Opening) → Frame.IsOpening o → OpeningFits o
opening_fits o h = record { confounder = h.confounder.0; value = value_fits o.value h.value }
