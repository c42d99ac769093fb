-- How many items are shown, and how long the frames are that steps send.
use Rattle.std.specs.Prelude.{◌≡◌, ◌≢◌, not, filter, ◌++◌, nat_lt, nat_le, AllPairs, ℕ, ◌≤◌, ◌==◌, true, false, if◌then◌else◌, List, [], ◌∷◌, map, length, take, flat_map, refl, ◌+◌}
use Rattle.std.specs.List.{AllByRecursion}
use Rattle.std.proofs.Common.{sym, ◌∙◌, subst, inl, inr, arith}
use Rattle.std.proofs.lemmas.Bool.{cases_Bool, eq-eqb, eqb-true, or_parts, and_parts}
use Rattle.std.proofs.lemmas.Bool.Decides.{nat_tests}
use Rattle.std.proofs.lemmas.List.Elements.{All-from_recursion}
use Rattle.std.proofs.lemmas.List.Kept.{AllPairs-cons}
use Rattle.std.proofs.lemmas.List.{length-append}
use Rattle.sg_model.specs.Last.{Map, has, after_last}
use Rattle.sg_model.specs.Last as A
use Rattle.sg_model.specs.Values.{Opening}
use Rattle.sg_law.proofs.Lists.{has-map}
use Rattle.sg_protocol.specs.Frame.{Item, Frame, IsItem, IsOpening, tag_len}
use Rattle.sg_protocol.specs.Spelling.{u8, u16, u32, pair_bytes, map_bytes, item_bytes, opening_bytes, join_bytes, join_code, magic, body, IsInRange, HasSpelling, spelling}
use Rattle.sg_protocol.specs.Sending.{entry_of, item_of, tags_left, own_item, frame_sent}
use Rattle.sg_protocol.specs.Graph.{Graph, shape, writes}
use Rattle.sg_model.specs.Shape.{source, receiver}
use Rattle.sg_model.proofs.Small.{take_most, length_map, length-flat, all_weaker}
use Rattle.sg_protocol.specs.Texts.{Hash, IsHash}
use Rattle.sg_protocol.specs.Keyring.{Keyring, Program}
use Rattle.sg_protocol.specs.Session.{Session, transcript, place, time, at_turn}
use Rattle.sg_protocol.specs.IsSchedule.{IsProgram}
use Rattle.sg_protocol.specs.Bounds.{ShownOnce, ShownAreFew, FramesAreShort, IsSession, IsShortFrame, SentAreShort}
use Rattle.sg_protocol.proofs.Entries.{has-after_last}
use Rattle.sg_protocol.proofs.Sent.{Ent, Dist, sent_spelled, all_transcript, dist_ev, has-ev, len_left, roles_below, evidence_fit, after_fit, ents_fit, pigeon, len_concat, join_len, items_len, openings_len, pairs_33}
use Rattle.sg_protocol.proofs.TextLaws.{magic_long}

-- ---- items

abbrev Pairs : List Item → Type 0
Pairs xs = AllPairs (λ (i j : Item). i.role ≢ j.role) xs

others : (k : ℕ) (es : List Ent) (g : Graph) → has (λ (y : ℕ). y) k (map (λ (y : Ent). y.step.role) es) ≡ false → AllByRecursion (λ (i : Item). i.role ≢ k) (tags_left (map (item_of g) es))
others k [] g h = tt
others k (e ∷ es) g h =
    let q = or_parts (e.step.role == k) (has (λ (y : ℕ). y) k (map (λ (y : Ent). y.step.role) es)) h in
    ((λ same. let f : (e.step.role == k) ≡ true = eq-eqb e.step.role k same in absurd (cc)), others k es g q.1)

turned : (k : ℕ) (xs : List Item) → AllByRecursion (λ (i : Item). i.role ≢ k) xs → AllByRecursion (λ (i : Item). k ≢ i.role) xs
turned k [] a = tt
turned k (x ∷ xs) a = ((λ e. a.0 (sym e)), turned k xs a.1)

no_pairs : Pairs []
no_pairs i j d l m = absurd (omega (arith, m))

all_apart : (es : List Ent) (g : Graph) → Dist (map (λ (y : Ent). y.step.role) es) → Pairs (tags_left (map (item_of g) es))
all_apart [] g d = no_pairs
all_apart (e ∷ es) g d =
    let rest : List Item = tags_left (map (item_of g) es) in
    let first : Item = record (item_of g e) { tags = filter (λ t. not (has (λ (j : Item). j.role) t.0 (map (item_of g) es))) (item_of g e).tags } in
    AllPairs-cons (λ (i j : Item). i.role ≢ j.role) first rest
    (All-from_recursion (λ (i : Item). e.step.role ≢ i.role) rest (turned e.step.role rest (others e.step.role es g d.0))) (all_apart es g d.1)

pub shown_once : ShownOnce
shown_once g k is =
    let es : List Ent = after_last (λ (y : Ent). y.step.role) k (map entry_of is) in
    let ev : List Ent = A.evidence (λ (i : Item). i.role) es in
    let none : has (λ (y : ℕ). y) k (map (λ (y : Ent). y.step.role) ev) ≡ false = has-map (λ (y : Ent). y.step.role) (λ (y : ℕ). y) k ev ∙ has-ev k es ∙ has-after_last (λ (y : Ent). y.step.role) k (map entry_of is) in
    (all_apart ev g (dist_ev es), All-from_recursion (λ (i : Item). i.role ≢ k) (tags_left (map (item_of g) ev)) (others k ev g none))

pub shown_are_few : ShownAreFew
shown_are_few g v k is h a =
    let es : List Ent = after_last (λ (y : Ent). y.step.role) k (map entry_of is) in
    let roles : List ℕ = map (λ (y : Ent). y.step.role) (A.evidence (λ (i : Item). i.role) es) in
    let l1 = len_left (map (item_of g) (A.evidence (λ (i : Item). i.role) es)) in
    let l2 = length_map (item_of g) (A.evidence (λ (i : Item). i.role) es) in
    let l3 = length_map (λ (y : Ent). y.step.role) (A.evidence (λ (i : Item). i.role) es) in
    let none : has (λ (y : ℕ). y) k roles ≡ false = has-map (λ (y : Ent). y.step.role) (λ (y : ℕ). y) k (A.evidence (λ (i : Item). i.role) es) ∙ has-ev k es ∙ has-after_last (λ (y : Ent). y.step.role) k (map entry_of is) in
    let p = pigeon 16 (k ∷ roles) (none, dist_ev es) (h, roles_below v (A.evidence (λ (i : Item). i.role) es) (evidence_fit v es (after_fit v k (map entry_of is) (ents_fit v is a)))) in
    omega (arith, l1, l2, l3, p)

-- ---- lengths

-- an item of version 2
short_item : (v : ℕ) (i : Item) → (v == 2) ≡ true → IsItem v i → length (item_bytes v i) ≤ 1303
short_item v i two h =
    let c = len_concat (u8 i.role ∷ u16 i.label ∷ u32 i.time ∷ map_bytes (λ c. c) i.delta ∷ map_bytes (take (tag_len v)) i.tags ∷ []) in
    let a = length-flat 33 (pair_bytes (λ c. c)) i.delta (pairs_33 i.delta h.delta) in
    let b = length-flat 17 (pair_bytes (take (tag_len v))) i.tags (go16 i.tags) in
    let d = h.variables.0 in
    let e = h.roles.0 in
    omega (arith, c, a, b, d, e)
  where
    sixteen : tag_len v ≡ 16
    sixteen = rw two refl

    go16 : (m : Map (List ℕ)) → AllByRecursion (λ (d : ℕ × List ℕ). length (pair_bytes (take (tag_len v)) d) ≤ 17) m
    go16 [] = tt
    go16 (d ∷ m) = ((let k = take_most (tag_len v) d.1 in let s = sixteen in omega (arith, k, s)), go16 m)

module _ (f : Frame) (h : IsInRange f) (few : length f.items ≤ 15) where
  -- with items of n bytes and a tag of k at the most
  within : (n k : ℕ) → length (flat_map (item_bytes f.version) f.items) ≤ n → tag_len f.version ≤ k → length (spelling f) ≤ n + k + 34091
  within n k items_ tag_ =
      let c = len_concat (magic f.version ∷ u8 (join_code f.join) ∷ f.sid ∷ u8 f.sender ∷ u8 f.receiver ∷ join_bytes f.join ∷ u16 (length f.items) ∷ flat_map (item_bytes f.version) f.items ∷ u8 (length f.openings) ∷ flat_map opening_bytes f.openings ∷ []) in
      let d = length-append (body f) (take (tag_len f.version) f.tag) in
      let e = take_most (tag_len f.version) f.tag in
      let g = length-flat 1046 opening_bytes f.openings (openings_len f.openings h.openings) in
      let i = join_len f.version f.join h.join in
      let j = magic_long f.version in
      let l = h.sid.0 in
      let m = h.variables.0 in
      omega (arith, c, d, e, g, i, j, l, m, items_, tag_)

  long : length (spelling f) ≤ 57028
  long =
      let g = length-flat 1527 (item_bytes f.version) f.items (items_len f.version f.items h.items) in
      let a = within 22905 32 (omega (arith, g, few)) (most f.version) in
      omega (arith, a)
    where
      most : (v : ℕ) → tag_len v ≤ 32
      most v = elim (cases_Bool (v == 2)) [ inl e ↦ rw e (omega arith) | inr e ↦ rw e (omega arith) ]

  short : (f.version == 2) ≡ true → length (spelling f) ≤ 53652
  short two =
      let g = length-flat 1303 (item_bytes f.version) f.items (all_weaker (IsItem f.version) (λ i. length (item_bytes f.version i) ≤ 1303) (λ i. short_item f.version i two) f.items h.items) in
      let e : tag_len f.version ≡ 16 = rw two refl in
      let a = within 19545 16 (omega (arith, g, few)) (omega (arith, e)) in
      omega (arith, a)

pub frames_are_short : FramesAreShort
frames_are_short f h few = elim (cases_Bool (f.version == 2)) [
  | inl e ↦ subst (λ b. length (spelling f) ≤ (if b then 53652 else 57028)) (sym e) (short f h few e)
  | inr e ↦ subst (λ b. length (spelling f) ≤ (if b then 53652 else 57028)) (sym e) (long f h few)
]

-- ---- what steps send

pub sent_is_short : (sha : Hash) → IsHash sha → (p : Program) → IsProgram sha p → (keys : Keyring) (x : Session) → IsSession x → (label : ℕ) (os : List Opening)
    → at_turn p.graph x ≡ true → nat_lt label (length p.graph.edges) ≡ true → source (shape p.graph) label ≡ place p.graph x → nat_le 1000000 (time x) ≡ false
    → map (λ (o : Opening). o.variable) os ≡ writes p.graph label → AllByRecursion IsOpening os → IsShortFrame (frame_sent sha keys p x label os)
sent_is_short sha hash p ip keys x fx label os turn edge leaves_place early names opens =
    let sp : HasSpelling (frame_sent sha keys p x label os) = sent_spelled sha hash p ip keys x fx label os turn edge leaves_place early names opens in
    let few : length (frame_sent sha keys p x label os).items ≤ 15 =
    shown_are_few p.graph x.cast.version (receiver (shape p.graph) label) (transcript x ++ own_item sha keys p x label os ∷ []) sp.fields.roles.1 (all_transcript sha hash p ip keys x fx label os turn edge leaves_place early names opens) in
    record { spelled = sp; items = few; bytes = frames_are_short (frame_sent sha keys p x label os) sp.fields few }

pub sent_are_short : (sha : Hash) → IsHash sha → SentAreShort sha
sent_are_short sha hash keys p s label written ip fit turn leaves_ early names opens =
    let both = and_parts (nat_lt label (length p.graph.edges)) (source (shape p.graph) label == place p.graph s) leaves_ in
    sent_is_short sha hash p ip keys s fit label written turn both.0 (eqb-true (source (shape p.graph) label) (place p.graph s) both.1) (grind (arith, nat_tests)) names opens
