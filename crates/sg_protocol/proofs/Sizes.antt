-- How many bytes a step adds to the record.
use Rattle.std.specs.Prelude.{◌≡◌, ℕ, suc, ◌+◌, ◌*◌, ◌<◌, ◌≤◌, ◌==◌, nat_lt, ◌&&◌, Bool, true, false, not, if◌then◌else◌, List, [], ◌∷◌, ◌++◌, map, flat_map, length, codes, sum_by, take, take_while, bytes_eq, refl, Option, Some, None, option_map, option_and_then, IfSome, IsSomeAnd, slice_get, Result, Ok, Err}
use Rattle.std.specs.List.{AllByRecursion, list_all, prefix_len}
use Rattle.std.specs.Option.{option_or, option_map_or}
use Rattle.std.proofs.Common.{sym, ◌∙◌, ap, subst, inl, inr, arith}
use Rattle.std.proofs.lemmas.Bool.{cases_Bool, and_parts}
use Rattle.std.proofs.lemmas.Bool.Decides.{nat_tests}
use Rattle.std.proofs.lemmas.List.Sums.{sum_by-append}
use Rattle.sg_model.specs.Last.{Map, last, last_or, has, up_to_last}
use Rattle.sg_model.specs.Lists.{below, rises_from, value_at, same_text, first_some, all_differ}
use Rattle.sg_model.specs.Names.{Name, is_name}
use Rattle.sg_model.specs.Values.{Value, Opening}
use Rattle.sg_model.specs.Bytes.{IsBytes, AreBytes}
use Rattle.sg_model.proofs.Small.{all-append, take_most, length_map, length-flat, tests_all}
use Rattle.sg_model.proofs.Numbers.{length-range_from}
use Rattle.sg_model.proofs.Members.{in_from_Contains, rec_in}
use Rattle.sg_model.proofs.Finding.{find_all}
use Rattle.std.proofs.lemmas.List.{length-append, length-take-le}
use Rattle.std.proofs.lemmas.List.Elements.{recursion_from_All}
use Rattle.sg_protocol.specs.Graph.{Graph, IsGraph, writes}
use Rattle.sg_protocol.specs.Frame.{Cast, Item, Frame, IsValue, IsItem, IsTag, IsOpening, IsCastOf, tag_len}
use Rattle.sg_protocol.specs.Spelling.{spelling, body, u8, u16, u32, short_text, item_bytes, map_bytes, pair_bytes, opening_bytes, join_bytes, join_code, magic, HasSpelling}
use Rattle.sg_protocol.specs.Texts.{Hash, IsHash, cut, session_id, graph_text_of, session_text_of, commitment_text_of, maybe_commitment}
use Rattle.sg_protocol.specs.Session.{Session, new_session, transcript, own_part, committed, commitments, principal}
use Rattle.sg_protocol.specs.Keyring.{Keyring, Program, targets_of}
use Rattle.sg_protocol.specs.Sending.{text_to, text_of}
use Rattle.sg_protocol.specs.Verdict.{has_item_tag, is_right, has_kind, rows}
use Rattle.sg_protocol.specs.Node.{Node, is_for, program_for, session_for}
use Rattle.sg_protocol.specs.Calls.{StartFault, Call, Start, Act, Abandon, Deliver, Answer, Sends, NotStarted}
use Rattle.sg_protocol.specs.Past.{Past, node_of}
use Rattle.sg_protocol.specs.Reading.{read}
use Rattle.sg_protocol.specs.Acting.{answer, openings_for}
use Rattle.sg_protocol.specs.Schedule.{Schedule, Source, Craft, CraftItem, NamedSession, Step, StartStep, ActStep, AbandonStep, DeliverStep, CraftStep, confounder, cast_of, sid_at, graph_with}
use Rattle.sg_protocol.specs.World.{World, Logged, Answered, Crafted, NoFrame, past_of, new_world, call_of, bytes_of}
use Rattle.sg_protocol.specs.Crafted.{tag_by, crafted_item, crafted_items, known_item, crafted_frame, crafted}
use Rattle.sg_protocol.specs.Run.{frame_in, recorded, called_if, world_after, world_after_all, run}
use Rattle.sg_protocol.specs.Steps.{logged_size, record_size, StepsAddLittle}
use Rattle.sg_protocol.specs.IsSchedule.{IsProgram, AreCompiled, IsDeclared, IsStep, IsSchedule}
use Rattle.sg_protocol.specs.Checks.{checked_texts, texts_checked}
use Rattle.sg_protocol.specs.Notes.{Note, Notes, note_of, hashed_openings, notes_in_session, notes_of_sent, notes_of_act, notes_of_read, hashed_of_join, session_of_frame, row_number, no_notes, notes_of_start, notes}
use Rattle.sg_protocol.proofs.Moves.{writes_below, note_text}
use Rattle.sg_protocol.proofs.Paths.{writes_rise}
use Rattle.sg_protocol.proofs.Fits.{Fit, fit_new, fit_next, fit_bytes, fit_sends, declared_in, ActSent, act_sends, act_fit}
use Rattle.sg_protocol.proofs.ReadBack.{read-SpellsFrame}
use Rattle.sg_protocol.proofs.Sent.{FitSession, len_concat, opening_len, short_name}
use Rattle.sg_protocol.proofs.TextLaws.{item_word, frame_word}

-- ---- sums

sum_cons : {A : Type 0} (f : A → ℕ) (x : A) (xs : List A) → sum_by f (x ∷ xs) ≡ f x + sum_by f xs
sum_cons f x xs = sum_by-append f (x ∷ []) xs ∙ ap (λ k. k + sum_by f xs) (let e : 0 + f x ≡ f x = omega arith in e)

while_true : {A : Type 0} (p : A → Bool) (x : A) (xs : List A) → p x ≡ true → take_while p (x ∷ xs) ≡ x ∷ take_while p xs
while_true p x xs e = rw e (ap (λ k. take k (x ∷ xs)) (let q : 1 + prefix_len p xs ≡ suc (prefix_len p xs) = omega arith in q))

while_false : {A : Type 0} (p : A → Bool) (x : A) (xs : List A) → p x ≡ false → take_while p (x ∷ xs) ≡ []
while_false p x xs e = rw e refl

-- ---- commitments

abbrev Short : ℕ × List ℕ → Type 0
Short d = length d.1 ≤ 32

abbrev Sized : Item → Type 0
Sized i = AllByRecursion Short i.delta

sized_item : (v : ℕ) (i : Item) → IsItem v i → Sized i
sized_item v i h = go i.delta h.delta
  where
    go : (m : Map (List ℕ)) → AllByRecursion (λ (d : ℕ × List ℕ). (d.0 < 32) × AreBytes 32 d.1) m → AllByRecursion Short m
    go [] a = tt
    go (d ∷ m) a = ((let l = a.0.1.0 in omega (arith, l)), go m a.1)

sized_items : (v : ℕ) (is : List Item) → AllByRecursion (IsItem v) is → AllByRecursion Sized is
sized_items v [] a = tt
sized_items v (i ∷ is) a = (sized_item v i a.0, sized_items v is a.1)

abbrev Fits32 : Option (List ℕ) → Type 0
Fits32 o = IfSome o (λ c. length c ≤ 32)

or_fits : (a b : Option (List ℕ)) → Fits32 a → Fits32 b → Fits32 (option_or a b)
or_fits None b h k = k
or_fits (Some c) b h k = h

at_fits : (m : Map (List ℕ)) (x : ℕ) → AllByRecursion Short m → Fits32 (value_at m x)
at_fits [] x a = tt
at_fits (d ∷ m) x a = elim (cases_Bool (d.0 == x)) [ inl e ↦ rw e a.0 | inr e ↦ rw e (at_fits m x a.1) ]

committed_fits : (x : ℕ) (is : List Item) → AllByRecursion Sized is → Fits32 (committed x is)
committed_fits x [] a = tt
committed_fits x (i ∷ is) a = or_fits (committed x is) (value_at i.delta x) (committed_fits x is a.1) (at_fits i.delta x a.0)

maybe_len : (o : Option (List ℕ)) → Fits32 o → length (maybe_commitment o) ≤ 33
maybe_len None h = omega arith
maybe_len (Some c) h = omega (arith, h)

commits_len : (is : List Item) → AllByRecursion Sized is → (xs : List ℕ) → AllByRecursion (λ o. length (maybe_commitment o) ≤ 33) (map (λ x. committed x is) xs)
commits_len is a [] = tt
commits_len is a (x ∷ xs) = (maybe_len (committed x is) (committed_fits x is a), commits_len is a xs)

-- ---- texts

text_len : (g : Graph) → length g.variables ≤ 32 → (x : Session) → length x.sid ≡ 32 → (before : List Item) (i : Item) (t : ℕ) → AllByRecursion Sized (before ++ i ∷ []) → length (text_to g x before i t) ≤ 1105
text_len g few x long before i t a =
    let c = len_concat ((if x.cast.version == 2 then codes "sg-item-2" else codes "sg-item-1") ∷ x.sid ∷ u8 i.role ∷ u8 t ∷ u16 i.label ∷ u32 i.time ∷ flat_map maybe_commitment (commitments g (before ++ i ∷ [])) ∷ []) in
    let h = item_word x.cast.version in
    let f = length-flat 33 maybe_commitment (commitments g (before ++ i ∷ [])) (commits_len (before ++ i ∷ []) a (below (length g.variables))) in
    let m = length_map (λ y. committed y (before ++ i ∷ [])) (below (length g.variables)) in
    let r = length-range_from 0 (length g.variables) in
    omega (arith, c, h, f, m, r, few, long)

frame_len : (f : Frame) → HasSpelling f → length (text_of f) ≤ 60010
frame_len f h =
    let a = length-append (if f.version == 2 then codes "sg-frame-2" else codes "sg-frame-1") (body f) in
    let b = length-append (body f) (take (tag_len f.version) f.tag) in
    let c = frame_word f.version in
    let d = h.short in
    omega (arith, a, b, c, d)

opened_len : (sid : List ℕ) → length sid ≡ 32 → (o : Opening) → IsOpening o → length (commitment_text_of sid o) ≤ 1089
opened_len sid long o h =
    let c = len_concat (codes "sg-commit-1" ∷ sid ∷ opening_bytes o ∷ []) in
    let d = opening_len o h in
    omega (arith, c, d, long)

cast_len : (c : Cast) → length c.graph ≡ 32 → length c.nonce ≡ 16 → length c.names ≤ 16 → list_all is_name c.names ≡ true → length (session_text_of c) ≤ 589
cast_len c a b d e =
    let h = len_concat ((if c.version == 2 then codes "sg-session-2" else codes "sg-session-1") ∷ c.graph ∷ c.nonce ∷ u8 (length c.names) ∷ flat_map short_text c.names ∷ []) in
    let f = length-flat 33 short_text c.names (go c.names e) in
    let k = head c.version in
    omega (arith, h, f, k, a, b, d)
  where
    head : (v : ℕ) → length (if v == 2 then codes "sg-session-2" else codes "sg-session-1") ≡ 12
    head v = elim (cases_Bool (v == 2)) [ inl e ↦ rw e refl | inr e ↦ rw e refl ]

    go : (ns : List Name) → list_all is_name ns ≡ true → AllByRecursion (λ n. length (short_text n) ≤ 33) ns
    go [] a = tt
    go (n ∷ ns) a = let p = and_parts (is_name n) (list_all is_name ns) a in (short_name n p.0, go ns p.1)

session_len : (v : ℕ) (c : Cast) → IsCastOf v c → length (session_text_of c) ≤ 589
session_len v c h = cast_len c h.graph.0 h.nonce.0 h.count.1 (tests_all is_name c.names h.names)

-- ---- the texts of item tags that were checked

-- an item with a tag has at least 26 bytes
tagged_len : (v : ℕ) (i : Item) (r : ℕ) (text : List ℕ) → IsItem v i → same_text (value_at i.tags r) text ≡ true → 26 ≤ length (item_bytes v i)
tagged_len v i r text h s =
    let c = len_concat (u8 i.role ∷ u16 i.label ∷ u32 i.time ∷ map_bytes (λ c. c) i.delta ∷ map_bytes (take (tag_len v)) i.tags ∷ []) in
    let d = go i.tags h.tags s in
    let e = length-append (u8 (length i.delta)) (flat_map (pair_bytes (λ c. c)) i.delta) in
    omega (arith, c, d, e)
  where
    least : 16 ≤ tag_len v
    least = elim (cases_Bool (v == 2)) [ inl e ↦ rw e (omega arith) | inr e ↦ rw e (omega arith) ]

    most : tag_len v ≤ 32
    most = elim (cases_Bool (v == 2)) [ inl e ↦ rw e (omega arith) | inr e ↦ rw e (omega arith) ]

    go : (m : Map (List ℕ)) → AllByRecursion (λ (t : ℕ × List ℕ). (t.0 < 16) × IsTag v t.1) m → same_text (value_at m r) text ≡ true → 18 ≤ length (map_bytes (take (tag_len v)) m)
    go [] a q = absurd (let z : false ≡ true = q in cc)
    go (d ∷ m) a q =
        let b = length-append (pair_bytes (take (tag_len v)) d) (flat_map (pair_bytes (take (tag_len v))) m) in
        let t = length-take-le (tag_len v) d.1 (let l = a.0.1.bytes.0 in let k = most in omega (arith, l, k)) in
        let k = least in
        omega (arith, b, t, k)

-- 26 bytes of a frame for each text of at most 1,105
seen_len : (sha : Hash) (keys : Keyring) (g : Graph) → length g.variables ≤ 32 → (x : Session) → length x.sid ≡ 32 → (v : ℕ) (before is : List Item) → AllByRecursion Sized before → AllByRecursion (IsItem v) is →
    26 * sum_by (λ (c : Item × List ℕ). length c.1) (take_while (has_item_tag sha keys x) (checked_texts g x before is)) ≤ 1105 * length (flat_map (item_bytes v) is)
seen_len sha keys g few x long v before [] b a = omega arith
seen_len sha keys g few x long v before (i ∷ []) b a = omega arith
seen_len sha keys g few x long v before (i ∷ j ∷ is) b a = elim (cases_Bool (has_item_tag sha keys x (i, text_to g x before i x.role))) [
  | inr e ↦
      let z = ap (sum_by (λ (c : Item × List ℕ). length c.1)) (while_false (has_item_tag sha keys x) (i, text_to g x before i x.role) (checked_texts g x (before ++ i ∷ []) (j ∷ is)) e) in
      let y : sum_by (λ (c : Item × List ℕ). length c.1) [] ≡ 0 = refl in
      omega (arith, z, y)
  | inl e ↦
      let now : AllByRecursion Sized (before ++ i ∷ []) = all-append Sized before (i ∷ []) b (sized_item v i a.0, tt) in
      let t = text_len g few x long before i x.role now in
      let m = tagged_len v i x.role _ a.0 e in
      let r = seen_len sha keys g few x long v (before ++ i ∷ []) (j ∷ is) now a.1 in
      let l = length-append (item_bytes v i) (flat_map (item_bytes v) (j ∷ is)) in
      let s = sum_cons (λ (c : Item × List ℕ). length c.1) (i, text_to g x before i x.role) (take_while (has_item_tag sha keys x) (checked_texts g x (before ++ i ∷ []) (j ∷ is))) in
      let z = ap (sum_by (λ (c : Item × List ℕ). length c.1)) (while_true (has_item_tag sha keys x) (i, text_to g x before i x.role) (checked_texts g x (before ++ i ∷ []) (j ∷ is)) e) in
      omega (arith, t, m, r, l, s, z)
]

-- ---- what is noted

abbrev note_bytes : List Note → ℕ
note_bytes ns = sum_by (λ n. length n.text) ns

abbrev text_bytes : List (List ℕ) → ℕ
text_bytes ts = sum_by (λ t. length t) ts

note_cons : (n : Note) (ns : List Note) → note_bytes (n ∷ ns) ≡ length n.text + note_bytes ns
note_cons n ns = sum_cons (λ n. length n.text) n ns

notes_sum : {A : Type 0} (F : A → Note) (T : A → List ℕ) → ((x : A) → (F x).text ≡ T x) → (xs : List A) → note_bytes (map F xs) ≡ sum_by (λ x. length (T x)) xs
notes_sum F T h [] = refl
notes_sum F T h (x ∷ xs) =
    let a = note_cons (F x) (map F xs) in
    let b = sum_cons (λ x. length (T x)) x xs in
    let c = notes_sum F T h xs in
    let d = ap (λ t. length t) (h x) in
    omega (arith, a, b, c, d)

if_notes : (b : Bool) (xs : List Note) → note_bytes (if b then xs else []) ≤ note_bytes xs
if_notes true xs = omega arith
if_notes false xs = omega arith

if_texts : (b : Bool) (xs : List (List ℕ)) → text_bytes (if b then xs else []) ≤ text_bytes xs
if_texts true xs = omega arith
if_texts false xs = omega arith

opens_bytes : (sha : Hash) (g : Graph) (x : Session) (f : Frame) → length x.sid ≡ 32 → (os : List Opening) → AllByRecursion IsOpening os → text_bytes (map (commitment_text_of x.sid) (hashed_openings sha g x f os)) ≤ 1089 * length os
opens_bytes sha g x f long [] a = omega arith
opens_bytes sha g x f long (o ∷ os) a = elim (cases_Bool (is_right sha g x f o)) [
  | inl e ↦
      let q = ap (λ l. text_bytes (map (commitment_text_of x.sid) l)) (right e) in
      let c = sum_cons (λ (t : List ℕ). length t) (commitment_text_of x.sid o) (map (commitment_text_of x.sid) (hashed_openings sha g x f os)) in
      let i = opens_bytes sha g x f long os a.1 in
      let l = opened_len x.sid long o a.0 in
      omega (arith, q, c, i, l)
  | inr e ↦ elim (cases_Bool (has_kind g o)) [
    | inl k ↦
        let q = ap (λ l. text_bytes (map (commitment_text_of x.sid) l)) (wrong e k) in
        let c = sum_cons (λ (t : List ℕ). length t) (commitment_text_of x.sid o) [] in
        let l = opened_len x.sid long o a.0 in
        omega (arith, q, c, l)
    | inr k ↦ let q = ap (λ l. text_bytes (map (commitment_text_of x.sid) l)) (other e k) in omega (arith, q)
  ]
]
  where
    right : is_right sha g x f o ≡ true → hashed_openings sha g x f (o ∷ os) ≡ o ∷ hashed_openings sha g x f os
    right e = ap (λ b. if b then (o ∷ hashed_openings sha g x f os) else (if has_kind g o then o ∷ [] else [])) e

    wrong : is_right sha g x f o ≡ false → has_kind g o ≡ true → hashed_openings sha g x f (o ∷ os) ≡ o ∷ []
    wrong e k = ap (λ b. if b then (o ∷ hashed_openings sha g x f os) else (if has_kind g o then o ∷ [] else [])) e ∙ ap (λ b. if b then o ∷ [] else []) k

    other : is_right sha g x f o ≡ false → has_kind g o ≡ false → hashed_openings sha g x f (o ∷ os) ≡ []
    other e k = ap (λ b. if b then (o ∷ hashed_openings sha g x f os) else (if has_kind g o then o ∷ [] else [])) e ∙ ap (λ b. if b then o ∷ [] else []) k

-- how much is noted of a call
abbrev notes_bytes : Notes → ℕ
notes_bytes nt = note_bytes nt.made + note_bytes nt.found + text_bytes nt.hashed

-- what a session must be for its texts to be bounded
record Bounded (p : Program) (x : Session) : Type 0 where
  few : length p.graph.variables ≤ 32
  long : length x.sid ≡ 32
  held : AllByRecursion Sized (own_part x)

items_bytes : (f : Frame) → HasSpelling f → length (flat_map (item_bytes f.version) f.items) ≤ 60000
items_bytes f h =
    let c = len_concat (magic f.version ∷ u8 (join_code f.join) ∷ f.sid ∷ u8 f.sender ∷ u8 f.receiver ∷ join_bytes f.join ∷ u16 (length f.items) ∷ flat_map (item_bytes f.version) f.items ∷ u8 (length f.openings) ∷ flat_map opening_bytes f.openings ∷ []) in
    let d = length-append (body f) (take (tag_len f.version) f.tag) in
    let e = h.short in
    omega (arith, c, d, e)

in_session_bytes : (sha : Hash) (keys : Keyring) (p : Program) (x : Session) (f : Frame) (k : ℕ) → HasSpelling f → Bounded p x → notes_bytes (notes_in_session sha keys p x f k) ≤ 2700000
in_session_bytes sha keys p x f k h b =
    let fr : List Note = note_of keys.me (principal x.cast f.sender) (text_of f) ∷ [] in
    let its : List Note = map (λ (c : Item × List ℕ). note_of keys.me (principal x.cast (c.0).role) c.1) (take_while (has_item_tag sha keys x) (texts_checked p.graph x f)) in
    let one = sum_by-append (λ (n : Note). length n.text) (if nat_lt 11 k then fr else []) (if nat_lt 13 k then its else []) in
    let two = if_notes (nat_lt 11 k) fr in
    let three = if_notes (nat_lt 13 k) its in
    let four = note_cons (note_of keys.me (principal x.cast f.sender) (text_of f)) [] in
    let five = ap (λ t. length t) (note_text keys.me (principal x.cast f.sender) (text_of f)) in
    let six = frame_len f h in
    let seven = notes_sum (λ (c : Item × List ℕ). note_of keys.me (principal x.cast (c.0).role) c.1) (λ (c : Item × List ℕ). c.1) (λ c. note_text keys.me (principal x.cast (c.0).role) c.1) (take_while (has_item_tag sha keys x) (texts_checked p.graph x f)) in
    let eight = seen_len sha keys p.graph b.few x b.long f.version (own_part x) f.items b.held h.fields.items in
    let nine = items_bytes f h in
    let ten = if_texts (nat_lt 14 k) (map (commitment_text_of x.sid) (hashed_openings sha p.graph x f f.openings)) in
    let eleven = opens_bytes sha p.graph x f b.long f.openings h.fields.openings in
    let twelve = h.fields.variables.0 in
    omega (arith, one, two, three, four, five, six, seven, eight, nine, ten, eleven, twelve)

read_bytes : (f : Frame) (k : ℕ) (rest : Notes) → HasSpelling f → notes_bytes rest ≤ 2700000 → notes_bytes (record rest { hashed = hashed_of_join f k ++ rest.hashed }) ≤ 2800000
read_bytes f k rest h b =
    let a = sum_by-append (λ (t : List ℕ). length t) (hashed_of_join f k) rest.hashed in
    let c = joined f.join h.fields.join in
    omega (arith, a, b, c)
  where
    joined : (o : Option Cast) → IfSome o (IsCastOf f.version) → text_bytes (option_map_or (λ c. if nat_lt 4 k then session_text_of c ∷ [] else []) o []) ≤ 589
    joined None i = omega arith
    joined (Some c) i =
        let x = if_texts (nat_lt 4 k) (session_text_of c ∷ []) in
        let y = sum_cons (λ (t : List ℕ). length t) (session_text_of c) [] in
        let z = session_len f.version c i in
        omega (arith, x, y, z)

-- ---- rising numbers are few

rising_len : (m : ℕ) (xs : List ℕ) (n : ℕ) → rises_from n xs ≡ true → list_all (λ k. nat_lt k m) xs ≡ true → n ≤ m → length xs + n ≤ m
rising_len m [] n r b l = omega (arith, l)
rising_len m (x ∷ xs) n r b l =
    let p = and_parts (not (nat_lt x n)) (rises_from (suc x) xs) r in
    let q = and_parts (nat_lt x m) (list_all (λ k. nat_lt k m) xs) b in
    let lo : n ≤ x = least x n p.0 in
    let hi : suc x ≤ m = most x q.0 in
    let i = rising_len m xs (suc x) p.1 q.1 hi in
    omega (arith, lo, i)
  where
    least : (x n : ℕ) → not (nat_lt x n) ≡ true → n ≤ x
    least x n h = grind (arith, nat_tests)

    most : (x : ℕ) → nat_lt x m ≡ true → suc x ≤ m
    most x h = grind (arith, nat_tests)

targets_few : (sha : Hash) (p : Program) → IsProgram sha p → (e : ℕ) → length (targets_of p e) ≤ 16
targets_few sha p ip e =
    let q = and_parts (rises_from 0 (targets_of p e)) (list_all (λ k. nat_lt k (length p.graph.roles)) (targets_of p e)) (ip.targets.rising e) in
    let a = rising_len (length p.graph.roles) (targets_of p e) 0 q.0 q.1 (omega arith) in
    let b = ip.is_graph.sizes.0 in
    omega (arith, a, b)

-- ---- what is noted of a step that was sent

made_bytes : (me : Name) (g : Graph) → length g.variables ≤ 32 → (x : Session) → length x.sid ≡ 32 → (i : Item) → AllByRecursion Sized (transcript x ++ i ∷ []) → (ts : List ℕ) → note_bytes (map (λ t. note_of me (principal x.cast t) (text_to g x (transcript x) i t)) ts) ≤ 1105 * length ts
made_bytes me g few x long i a [] = omega arith
made_bytes me g few x long i a (t ∷ ts) =
    let c = note_cons (note_of me (principal x.cast t) (text_to g x (transcript x) i t)) (map (λ t. note_of me (principal x.cast t) (text_to g x (transcript x) i t)) ts) in
    let d = ap (λ z. length z) (note_text me (principal x.cast t) (text_to g x (transcript x) i t)) in
    let e = text_len g few x long (transcript x) i t a in
    let r = made_bytes me g few x long i a ts in
    omega (arith, c, d, e, r)

written_bytes : (sid : List ℕ) → length sid ≡ 32 → (os : List Opening) → AllByRecursion IsOpening os → text_bytes (map (commitment_text_of sid) os) ≤ 1089 * length os
written_bytes sid long [] a = omega arith
written_bytes sid long (o ∷ os) a =
    let c = sum_cons (λ (t : List ℕ). length t) (commitment_text_of sid o) (map (commitment_text_of sid) os) in
    let l = opened_len sid long o a.0 in
    let r = written_bytes sid long os a.1 in
    omega (arith, c, l, r)

last_fits : (P : Item → Type 0) (is : List Item) (i : Item) → AllByRecursion P is → last is ≡ Some i → P i
last_fits P [] i a e = absurd (let z : None ≡ Some i = e in cc)
last_fits P (x ∷ xs) i a e = (let z : last_or x xs ≡ i = cc in subst P z (go x xs a))
  where
    go : (x : Item) (xs : List Item) → AllByRecursion P (x ∷ xs) → P (last_or x xs)
    go x [] a = a.0
    go x (y ∷ ys) a = go y ys a.1

sent_bytes : (sha : Hash) (keys : Keyring) (p : Program) → IsProgram sha p → (x : Session) → FitSession x → (f : Frame) → HasSpelling f → (os : List Opening) → AllByRecursion IsOpening os → length os ≤ 32 → notes_bytes (notes_of_sent keys p x f os) ≤ 200000
sent_bytes sha keys p ip x fx f h os a few_ =
    let fr : Note = note_of keys.me (principal x.cast f.receiver) (text_of f) in
    let one = sum_by-append (λ (n : Note). length n.text) (option_map_or (λ i. map (λ t. note_of keys.me (principal x.cast t) (text_to p.graph x (transcript x) i t)) (targets_of p i.label)) (last f.items) []) (fr ∷ []) in
    let two = by_last (last f.items) refl in
    let three = note_cons fr [] in
    let four = ap (λ t. length t) (note_text keys.me (principal x.cast f.receiver) (text_of f)) in
    let five = frame_len f h in
    let six = written_bytes x.sid fx.sid.0 os a in
    omega (arith, one, two, three, four, five, six, few_)
  where
    by_last : (o : Option Item) → last f.items ≡ o → note_bytes (option_map_or (λ i. map (λ t. note_of keys.me (principal x.cast t) (text_to p.graph x (transcript x) i t)) (targets_of p i.label)) o []) ≤ 17680
    by_last None e = omega arith
    by_last (Some i) e =
        let z : Sized i = sized_item f.version i (last_fits (IsItem f.version) f.items i h.fields.items e) in
        let m = made_bytes keys.me p.graph ip.is_graph.sizes.1 x fx.sid.0 i (all-append Sized (transcript x) (i ∷ []) (sized_items x.cast.version (transcript x) fx.items) (z, tt)) (targets_of p i.label) in
        let t = targets_few sha p ip i.label in
        omega (arith, m, t)

-- ---- what is noted of a call

up_to_fits : (P : Item → Type 0) (r : ℕ) (is : List Item) → AllByRecursion P is → AllByRecursion P (up_to_last (λ (i : Item). i.role) r is)
up_to_fits P r [] a = tt
up_to_fits P r (i ∷ is) a = elim (cases_Bool (has (λ (i : Item). i.role) r is)) [
  | inl e ↦ rw e (a.0, up_to_fits P r is a.1)
  | inr e ↦ rw e (elim (cases_Bool (i.role == r)) [ inl k ↦ rw k (a.0, tt) | inr k ↦ rw k tt ])
]

module _ (sha : Hash) (hash : IsHash sha) (programs : List Program) (s : Schedule) (compiled : AreCompiled sha s.graphs programs) (sched : IsSchedule sha s) where
  module _ (n : Node) (ps : n.programs ≡ programs) (live : AllByRecursion FitSession n.live) where
    its_program : (d : List ℕ) (r : ℕ) (p : Program) → program_for n.programs d r ≡ Some p → IsProgram sha p
    its_program d r p e = find_all (λ (p : Program). bytes_eq p.digest d && (p.role == r)) (IsProgram sha) programs p (recursion_from_All (IsProgram sha) programs compiled.each) (subst (λ z. program_for z d r ≡ Some p) ps e)

    deliver_bytes : (r : Result Frame ℕ) → ((f : Frame) → r ≡ Ok f → HasSpelling f) → notes_bytes (notes_of_read sha n r) ≤ 2800000
    deliver_bytes (Err at) h = omega arith
    deliver_bytes (Ok f) h =
        read_bytes f (row_number (first_some (rows sha n f))) (option_map_or (λ (x : Program × Session). notes_in_session sha n.keys x.0 x.1 f (row_number (first_some (rows sha n f)))) (session_of_frame n f) no_notes) (h f refl)
        (by_found (row_number (first_some (rows sha n f))) (session_of_frame n f) (by_join f.join))
      where
        sp : HasSpelling f
        sp = h f refl

        by_found : (k : ℕ) (o : Option (Program × Session)) → IfSome o (λ (x : Program × Session). Bounded x.0 x.1) → notes_bytes (option_map_or (λ (x : Program × Session). notes_in_session sha n.keys x.0 x.1 f k) o no_notes) ≤ 2700000
        by_found k None g = omega arith
        by_found k (Some x) g = in_session_bytes sha n.keys x.0 x.1 f k sp g

        by_program : (x : Session) → length x.sid ≡ 32 → AllByRecursion Sized (own_part x) → (o : Option Program) → program_for n.programs x.cast.graph x.role ≡ o → IfSome (option_map (λ p. (p, x)) o) (λ (x : Program × Session). Bounded x.0 x.1)
        by_program x l a None e = tt
        by_program x l a (Some p) e = record { few = (its_program x.cast.graph x.role p e).is_graph.sizes.1; long = l; held = a }

        by_session : (o : Option Session) → session_for n.live f ≡ o → IfSome (option_and_then (λ s. option_map (λ p. (p, s)) (program_for n.programs s.cast.graph s.role)) o) (λ (x : Program × Session). Bounded x.0 x.1)
        by_session None e = tt
        by_session (Some x) e =
            let fx : FitSession x = find_all (is_for f) FitSession n.live x live e in
            by_program x fx.sid.0 (up_to_fits Sized x.role (transcript x) (sized_items x.cast.version (transcript x) fx.items)) (program_for n.programs x.cast.graph x.role) refl

        by_join : (o : Option Cast) → IfSome (option_and_then (λ s. option_map (λ p. (p, s)) (program_for n.programs s.cast.graph s.role)) (option_map_or (λ c. Some (new_session f.sid c f.receiver)) o (session_for n.live f))) (λ (x : Program × Session). Bounded x.0 x.1)
        by_join None = by_session (session_for n.live f) refl
        by_join (Some c) = by_program (new_session f.sid c f.receiver) sp.fields.sid.0 tt (program_for n.programs c.graph f.receiver) refl

    act_bytes : (k : ℕ) (sid : List ℕ) (label : ℕ) (values : Map Value) → AllByRecursion (λ (w : ℕ × Value). (w.0 < 256) × IsValue w.1) values → (a : Answer) → answer sha n (Act sid label values (map (λ (v : ℕ × Value). confounder k v.0) values)) ≡ a →
        notes_bytes (notes_of_act n sid (openings_for values (map (λ (v : ℕ × Value). confounder k v.0) values)) a) ≤ 200000
    act_bytes k sid label values good (Sends e to f) q =
        let a : ActSent sha hash programs s compiled sched n sid label values (map (λ (v : ℕ × Value). confounder k v.0) values) f = act_sends sha hash programs s compiled sched n sid label values (map (λ (v : ℕ × Value). confounder k v.0) values) e to f q in
        let fit = act_fit sha hash programs s compiled sched n ps live k sid label values good f a in
        let ip : IsProgram sha a.p = its_program (a.x).cast.graph (a.x).role a.p a.found_p in
        let os : List Opening = openings_for values (map (λ (v : ℕ × Value). confounder k v.0) values) in
        let eq : notes_of_act n sid os (Sends e to f) ≡ notes_of_sent n.keys a.p a.x f os =
        ap (λ o. option_map_or (λ (s : Session). option_map_or (λ p. notes_of_sent n.keys p s f os) (program_for n.programs s.cast.graph s.role) no_notes) o no_notes) a.found
        ∙ ap (λ o. option_map_or (λ p. notes_of_sent n.keys p a.x f os) o no_notes) a.found_p in
        subst (λ nt. notes_bytes nt ≤ 200000) (sym eq) (sent_bytes sha n.keys a.p ip a.x fit.2 f (fit.0).spelled os fit.1 (few_writes (a.p).graph ip.is_graph label os fit.4))
      where
        few_writes : (g : Graph) → IsGraph g → (label : ℕ) (os : List Opening) → map (λ (o : Opening). o.variable) os ≡ writes g label → length os ≤ 32
        few_writes g is label os e =
            let r = rising_len 32 (writes g label) 0 (writes_rise g is label) (all_below (writes g label) (weaken (length g.variables) is.sizes.1 (writes g label) (writes_below g is label))) (omega arith) in
            let m = length_map (λ (o : Opening). o.variable) os in
            let q = ap (λ l. length l) e in
            omega (arith, r, m, q)
          where
            less : (x : ℕ) → x < 32 → nat_lt x 32 ≡ true
            less x l = grind (arith, nat_tests)

            all_below : (xs : List ℕ) → AllByRecursion (λ x. x < 32) xs → list_all (λ k. nat_lt k 32) xs ≡ true
            all_below [] a = refl
            all_below (x ∷ xs) a = rw (less x a.0) (all_below xs a.1)

            weaken : (m : ℕ) → m ≤ 32 → (xs : List ℕ) → AllByRecursion (λ x. x < m) xs → AllByRecursion (λ x. x < 32) xs
            weaken m l [] a = tt
            weaken m l (x ∷ xs) a = ((let h = a.0 in omega (arith, h, l)), weaken m l xs a.1)
    act_bytes k sid label values good other q = omega arith

-- ---- crafted frames

tag_short : (v : ℕ) → tag_len v ≤ 32
tag_short v = elim (cases_Bool (v == 2)) [ inl e ↦ rw e (omega arith) | inr e ↦ rw e (omega arith) ]

-- other tags make no longer items than tags of the right length
tags_le : (v : ℕ) (F G : ℕ × Source → List ℕ) (ts : Map Source) → AllByRecursion (λ (t : ℕ × List ℕ). (t.0 < 16) × IsTag v t.1) (map {B = ℕ × List ℕ} (λ (t : ℕ × Source). (t.0, F t)) ts) →
    length (flat_map (pair_bytes (take (tag_len v))) (map {B = ℕ × List ℕ} (λ (t : ℕ × Source). (t.0, G t)) ts)) ≤ length (flat_map (pair_bytes (take (tag_len v))) (map {B = ℕ × List ℕ} (λ (t : ℕ × Source). (t.0, F t)) ts))
tags_le v F G [] a = omega arith
tags_le v F G (t ∷ ts) a =
    let i = tags_le v F G ts a.1 in
    let m = take_most (tag_len v) (G t) in
    let e = length-take-le (tag_len v) (F t) (let l = a.0.1.bytes.0 in let k = tag_short v in omega (arith, l, k)) in
    let x = length-append (pair_bytes (take (tag_len v)) (t.0, G t)) (flat_map (pair_bytes (take (tag_len v))) (map {B = ℕ × List ℕ} (λ (t : ℕ × Source). (t.0, G t)) ts)) in
    let y = length-append (pair_bytes (take (tag_len v)) (t.0, F t)) (flat_map (pair_bytes (take (tag_len v))) (map {B = ℕ × List ℕ} (λ (t : ℕ × Source). (t.0, F t)) ts)) in
    omega (arith, i, m, e, x, y)

module _ (sha : Hash) (s : Schedule) (w0 w : World) (g : Graph) (x : Session) where
  item_le : (v : ℕ) (before0 before : List Item) (c : CraftItem) → IsItem v (crafted_item sha s w0 g x before0 c) → length (item_bytes v (crafted_item sha s w g x before c)) ≤ length (item_bytes v (crafted_item sha s w0 g x before0 c))
  item_le v before0 before c h =
      let i0 : Item = crafted_item sha s w0 g x before0 c in
      let i1 : Item = crafted_item sha s w g x before c in
      let a = len_concat (u8 i0.role ∷ u16 i0.label ∷ u32 i0.time ∷ map_bytes (λ c. c) i0.delta ∷ map_bytes (take (tag_len v)) i0.tags ∷ []) in
      let b = len_concat (u8 i1.role ∷ u16 i1.label ∷ u32 i1.time ∷ map_bytes (λ c. c) i1.delta ∷ map_bytes (take (tag_len v)) i1.tags ∷ []) in
      let t = tags_le v (λ (t : ℕ × Source). cut x.cast.version (tag_by sha s w0 (text_to g x before0 (record i0 { tags = [] }) t.0) t.1)) (λ (t : ℕ × Source). cut x.cast.version (tag_by sha s w (text_to g x before (record i1 { tags = [] }) t.0) t.1)) c.tags h.tags in
      omega (arith, a, b, t)

  items_le : (v : ℕ) (before0 before : List Item) (cs : List CraftItem) → AllByRecursion (IsItem v) (crafted_items sha s w0 g x before0 cs) → length (flat_map (item_bytes v) (crafted_items sha s w g x before cs)) ≤ length (flat_map (item_bytes v) (crafted_items sha s w0 g x before0 cs))
  items_le v before0 before [] a = omega arith
  items_le v before0 before (c ∷ cs) a =
      let i = item_le v before0 before c a.0 in
      let r = items_le v (before0 ++ crafted_item sha s w0 g x before0 c ∷ []) (before ++ crafted_item sha s w g x before c ∷ []) cs a.1 in
      let p = length-append (item_bytes v (crafted_item sha s w g x before c)) (flat_map (item_bytes v) (crafted_items sha s w g x (before ++ crafted_item sha s w g x before c ∷ []) cs)) in
      let q = length-append (item_bytes v (crafted_item sha s w0 g x before0 c)) (flat_map (item_bytes v) (crafted_items sha s w0 g x (before0 ++ crafted_item sha s w0 g x before0 c ∷ []) cs)) in
      omega (arith, i, r, p, q)

  crafted_le : (c : Craft) → HasSpelling (crafted_frame sha s w0 c g x) → length (spelling (crafted_frame sha s w c g x)) ≤ 60000
  crafted_le c h =
      let f0 : Frame = crafted_frame sha s w0 c g x in
      let f1 : Frame = crafted_frame sha s w c g x in
      let a = len_concat (magic f0.version ∷ u8 (join_code f0.join) ∷ f0.sid ∷ u8 f0.sender ∷ u8 f0.receiver ∷ join_bytes f0.join ∷ u16 (length f0.items) ∷ flat_map (item_bytes f0.version) f0.items ∷ u8 (length f0.openings) ∷ flat_map opening_bytes f0.openings ∷ []) in
      let b = len_concat (magic f1.version ∷ u8 (join_code f1.join) ∷ f1.sid ∷ u8 f1.sender ∷ u8 f1.receiver ∷ join_bytes f1.join ∷ u16 (length f1.items) ∷ flat_map (item_bytes f1.version) f1.items ∷ u8 (length f1.openings) ∷ flat_map opening_bytes f1.openings ∷ []) in
      let d = length-append (body f0) (take (tag_len f0.version) f0.tag) in
      let e = length-append (body f1) (take (tag_len f1.version) f1.tag) in
      let i = items_le x.cast.version (known_item sha x.sid c.know ∷ []) (known_item sha x.sid c.know ∷ []) c.items h.fields.items in
      let m = take_most (tag_len f1.version) f1.tag in
      let t = length-take-le (tag_len f0.version) f0.tag (let l = h.fields.tag.bytes.0 in let k = tag_short f0.version in omega (arith, l, k)) in
      let k = h.short in
      omega (arith, a, b, d, e, i, m, t, k)

-- ---- a step

module _ (sha : Hash) (hash : IsHash sha) (programs : List Program) (s : Schedule) (compiled : AreCompiled sha s.graphs programs) (sched : IsSchedule sha s) where
  declared_len : (n : ℕ) (c : Cast) → cast_of s n ≡ Some c → length (session_text_of c) ≤ 589
  declared_len n c e = by_declared (slice_get s.sessions n) refl e
    where
      by_graph : (d : NamedSession) → IsDeclared sha s.graphs d → length (session_text_of d.cast) ≤ 589
      by_graph d h =
          let long : length d.cast.graph ≡ 32 = subst (λ z. length z ≡ 32) (sym h.digest) (hash (graph_text_of h.graph)).0 in
          let ig : IsGraph h.graph = rec_in IsGraph s.graphs h.graph (recursion_from_All IsGraph s.graphs sched.are_graphs) (in_from_Contains s.graphs h.graph h.is_there) in
          let few = ig.sizes.0 in
          let count = h.count in
          cast_len d.cast long h.nonce.0 (omega (arith, few, count)) (and_parts (all_differ d.cast.names) (list_all is_name d.cast.names) h.names).1

      by_declared : (o : Option NamedSession) → slice_get s.sessions n ≡ o → option_map (λ (d : NamedSession). d.cast) o ≡ Some c → length (session_text_of c) ≤ 589
      by_declared None q e = absurd (let z : None ≡ Some c = e in cc)
      by_declared (Some d) q e = (let r : d.cast ≡ c = cc in subst (λ z. length (session_text_of z) ≤ 589) r (by_graph d (declared_in NamedSession (IsDeclared sha s.graphs) s.sessions n d sched.sessions q)))

  module _ (w : World) (fit : Fit sha hash programs s compiled sched w) (k : ℕ) where
    start_bytes : (c : Cast) → length (session_text_of c) ≤ 589 → (a : Answer) → notes_bytes (notes_of_start c a) ≤ 589
    start_bytes c l (NotStarted StartFault.UnknownGraph) = omega arith
    start_bytes c l (NotStarted StartFault.BadCast) = omega arith
    start_bytes c l (NotStarted (StartFault.UnknownPeer n)) = omega arith
    start_bytes c l other = (let y = sum_cons (λ (t : List ℕ). length t) (session_text_of c) [] in omega (arith, l, y))

    module _ (who : Name) (past : Past) (its : past_of w who ≡ Some past) where
      call_bytes : (x : Step) → IsStep sha s x → (c : Call) → call_of sha s w k x ≡ Some c → notes_bytes (notes sha (node_of past) c) ≤ 2800000
      call_bytes (StartStep who' n) good c e = by_cast (cast_of s n) refl e
        where
          by_cast : (o : Option Cast) → cast_of s n ≡ o → option_map Start o ≡ Some c → notes_bytes (notes sha (node_of past) c) ≤ 2800000
          by_cast None q e = absurd (let z : None ≡ Some c = e in cc)
          by_cast (Some d) q e =
              let r : Start d ≡ c = cc in
              let b = start_bytes d (declared_len n d q) (answer sha (node_of past) (Start d)) in
              subst (λ z. notes_bytes (notes sha (node_of past) z) ≤ 2800000) r (omega (arith, b))
      call_bytes (ActStep who' n label values) good c e =
          let r : Act (sid_at sha s n) label values (map (λ (v : ℕ × Value). confounder k v.0) values) ≡ c = cc in
          let both = fit.nodes who past its in
          let b = act_bytes sha hash programs s compiled sched (node_of past) both.0 both.1 k (sid_at sha s n) label values good (answer sha (node_of past) (Act (sid_at sha s n) label values (map (λ (v : ℕ × Value). confounder k v.0) values))) refl in
          subst (λ z. notes_bytes (notes sha (node_of past) z) ≤ 2800000) r (omega (arith, b))
      call_bytes (AbandonStep who' n) good c e = (let r : Abandon (sid_at sha s n) ≡ c = cc in subst (λ z. notes_bytes (notes sha (node_of past) z) ≤ 2800000) r (omega arith))
      call_bytes (DeliverStep who' what) good c e = by_bytes (bytes_of w what) refl e
        where
          by_bytes : (o : Option (List ℕ)) → bytes_of w what ≡ o → option_map Deliver o ≡ Some c → notes_bytes (notes sha (node_of past) c) ≤ 2800000
          by_bytes None q e = absurd (let z : None ≡ Some c = e in cc)
          by_bytes (Some bs) q e =
              let r : Deliver bs ≡ c = cc in
              let both = fit.nodes who past its in
              let ib : IsBytes bs = fit_bytes sha hash programs s compiled sched w fit who' what bs good q in
              subst (λ z. notes_bytes (notes sha (node_of past) z) ≤ 2800000) r (deliver_bytes sha hash programs s compiled sched (node_of past) both.0 both.1 (read bs) (λ f rd. (read-SpellsFrame bs f ib rd).is_frame))
      call_bytes (CraftStep cr) good c e = absurd (let z : None ≡ Some c = e in cc)

      frame_bytes_ : (x : Step) → IsStep sha s x → (c : Call) → call_of sha s w k x ≡ Some c → (a : Answer) → answer sha (node_of past) c ≡ a → option_map_or (λ bs. length bs) (frame_in a) 0 ≤ 60000
      frame_bytes_ x good c e (Sends ev to f) q = (fit_sends sha hash programs s compiled sched w fit k x who past c ev to f good its e q).short
      frame_bytes_ x good c e other q = omega arith

    -- a world with one more entry
    little : (ps : List Past) (l : Logged) → logged_size l ≤ 2860000 → record_size s (record { pasts = ps; log = w.log ++ l ∷ [] }) < record_size s w + 4194304
    little ps l h =
        let a = sum_by-append logged_size w.log (l ∷ []) in
        let b = sum_cons logged_size l [] in
        omega (arith, a, b, h)

    called_little : (x : Step) → IsStep sha s x → (who : Name) (o : Option Call) → call_of sha s w k x ≡ o → (q : Option Past) → past_of w who ≡ q → record_size s (option_map_or (called_if sha w k who o) q w) < record_size s w + 4194304
    called_little x good who o e None q = omega arith
    called_little x good who None e (Some p) q = little w.pasts (record { number = k; who = Some who; call = None; outcome = NoFrame; frame = None; notes = no_notes }) (omega arith)
    called_little x good who (Some c) e (Some p) q =
        let n = call_bytes who p q x good c e in
        let f = frame_bytes_ who p q x good c e (answer sha (node_of p) c) refl in
        little (recorded sha w who c) (record { number = k; who = Some who; call = Some c; outcome = Answered (answer sha (node_of p) c); frame = frame_in (answer sha (node_of p) c); notes = notes sha (node_of p) c }) (omega (arith, n, f))

    craft_bytes : (c : Craft) → IsStep sha s (CraftStep c) → option_map_or (λ bs. length bs) (option_map spelling (crafted sha s w c)) 0 ≤ 60000
    craft_bytes c h = by_cast (cast_of s c.session) h
      where
        by_graph : (d : Cast) (o : Option Graph) → IsSomeAnd (option_map (λ g. crafted_frame sha s (new_world [] s) c g (new_session (session_id sha d) d c.from)) o) HasSpelling → option_map_or (λ bs. length bs) (option_map spelling (option_map (λ g. crafted_frame sha s w c g (new_session (session_id sha d) d c.from)) o)) 0 ≤ 60000
        by_graph d None h = absurd h
        by_graph d (Some g) h = crafted_le sha s (new_world [] s) w g (new_session (session_id sha d) d c.from) c h

        by_cast : (o : Option Cast) → IsSomeAnd (option_and_then (λ (d : Cast). option_map (λ g. crafted_frame sha s (new_world [] s) c g (new_session (session_id sha d) d c.from)) (graph_with sha s.graphs d.graph)) o) HasSpelling
            → option_map_or (λ bs. length bs) (option_map spelling (option_and_then (λ (d : Cast). option_map (λ g. crafted_frame sha s w c g (new_session (session_id sha d) d c.from)) (graph_with sha s.graphs d.graph)) o)) 0 ≤ 60000
        by_cast None h = absurd h
        by_cast (Some d) h = by_graph d (graph_with sha s.graphs d.graph) h

    step_little : (x : Step) → IsStep sha s x → record_size s (world_after sha s w k x) < record_size s w + 4194304
    step_little (CraftStep c) good = (let f = craft_bytes c good in little w.pasts (record { number = k; who = None; call = None; outcome = Crafted; frame = option_map spelling (crafted sha s w c); notes = no_notes }) (omega (arith, f)))
    step_little (StartStep who n) good = called_little (StartStep who n) good who (call_of sha s w k (StartStep who n)) refl (past_of w who) refl
    step_little (ActStep who n label values) good = called_little (ActStep who n label values) good who (call_of sha s w k (ActStep who n label values)) refl (past_of w who) refl
    step_little (AbandonStep who n) good = called_little (AbandonStep who n) good who (call_of sha s w k (AbandonStep who n)) refl (past_of w who) refl
    step_little (DeliverStep who what) good = called_little (DeliverStep who what) good who (call_of sha s w k (DeliverStep who what)) refl (past_of w who) refl

  all_fit : (w : World) (k : ℕ) (xs : List Step) → AllByRecursion (IsStep sha s) xs → Fit sha hash programs s compiled sched w → Fit sha hash programs s compiled sched (world_after_all sha s w k xs)
  all_fit w k [] a h = h
  all_fit w k (x ∷ xs) a h = all_fit (world_after sha s w k x) (k + 1) xs a.1 (fit_next sha hash programs s compiled sched w k x h a.0)

pub steps_add_little : (sha : Hash) → IsHash sha → StepsAddLittle sha
steps_add_little sha hash programs s compiled sched k x good =
    step_little sha hash programs s compiled sched (run sha programs s)
    (all_fit sha hash programs s compiled sched (new_world programs s) 1 s.steps (recursion_from_All (IsStep sha s) s.steps sched.steps) (fit_new sha hash programs s compiled sched)) k x good
