-- What a role keeps is enough.
use Rattle.std.specs.Prelude.{◌≡◌, ℕ, ◌+◌, ◌<◌, ◌==◌, nat_le, nat_lt, ◌||◌, ◌&&◌, Bool, true, false, not, if◌then◌else◌, List, [], ◌∷◌, ◌++◌, map, find, position, filter_map, length, refl, Option, Some, None, option_map, unwrap_or, bytes_eq, take_while}
use Rattle.std.specs.List.{AllByRecursion, cons_option, list_all, list_any}
use Rattle.std.specs.Option.{option_or, option_map_or}
use Rattle.std.proofs.Common.{sym, ◌∙◌, ap, subst, inl, inr, arith, append_assoc, append-nil}
use Rattle.std.proofs.lemmas.Bool.{cases_Bool, and_parts, not-false}
use Rattle.sg_model.specs.Last.{Map, Entry, has, last, up_to_last, evidence}
use Rattle.sg_model.specs.Lists.{below, first_some, same_text, value_at}
use Rattle.sg_model.specs.Shape.{sender, receiver, target, role_at, source}
use Rattle.sg_model.specs.Values.{Value, Opening}
use Rattle.sg_model.proofs.Evidence.{evidence_again, evidence_since, has-evidence}
use Rattle.sg_model.proofs.Small.{same_bytes, range_same, range_at, or_true, or_false, map_same, all_weaker}
use Rattle.sg_model.proofs.Finding.{find_same}
use Rattle.sg_law.proofs.Lists.{has-append, has-map, last-append}
use Rattle.sg_law.proofs.Com.{option_or-assoc, option_or-none}
use Rattle.sg_protocol.specs.Graph.{Graph, IsGraph, shape, reads}
use Rattle.sg_protocol.specs.Evidence.{has_view}
use Rattle.sg_protocol.specs.Frame.{Cast, Item, Frame}
use Rattle.sg_protocol.specs.Texts.{Hash, item_text_of, commitment, commitment_text_of}
use Rattle.sg_protocol.specs.Keyring.{Keyring, Program, targets_of, may_return}
use Rattle.sg_protocol.specs.Session.{Session, Exchange, principal, items_of, openings_of, transcript, own_part, own_time, time, place, origin, last_label, committed, commitments, opening_in, last_opening, known, extended}
use Rattle.sg_protocol.specs.Sending.{entry_of, item_of, shown_to, tag_for, plain_item, text_to, opening_of, text_of, frame_sent}
use Rattle.sg_protocol.specs.Checks.{checked_texts, texts_checked}
use Rattle.sg_protocol.specs.Kept.{KeptState, kept_items}
use Rattle.sg_protocol.specs.Calls.{Refusal, BadFrameTag, NoSuchView, BadEvidence, BadOpening, ActFault, Send, NoSuchLabel, BadValues, TimeSpent}
use Rattle.sg_protocol.specs.Verdict.{row, seen, is_shown, has_right_tags, bad_time, has_kind, is_right, rows_of_session}
use Rattle.sg_protocol.specs.Acting.{is_bad, rows_of_act}
use Rattle.sg_protocol.specs.Node.{program_for}
use Rattle.sg_protocol.specs.NodeAfter.{is_over}
use Rattle.sg_protocol.specs.Notes.{Note, Notes, note_of, row_number, hashed_openings, notes_in_session, notes_of_sent}
use Rattle.sg_protocol.specs.Enough.{KeepsSame, KeptIsEnough}
use Rattle.sg_protocol.proofs.KeptLaws.{kept-kept, shown_to-kept}
use Rattle.sg_protocol.proofs.Moves.{row_none}
use Rattle.sg_protocol.proofs.Paths.{flat_map-append}
use Rattle.sg_protocol.proofs.Sent.{reads_in}
use Rattle.sg_protocol.proofs.Ends.{committed-append}

-- ---- lists

last_opening-append : (x : ℕ) (es fs : List Exchange) → last_opening x (es ++ fs) ≡ option_or (last_opening x fs) (last_opening x es)
last_opening-append x [] fs = sym (option_or-none (last_opening x fs))
last_opening-append x (e ∷ es) fs = ap (λ o. option_or o (opening_in (openings_of e) x)) (last_opening-append x es fs) ∙ option_or-assoc (last_opening x fs) (last_opening x es) (opening_in (openings_of e) x)

filter_map_below : {A : Type 0} (n : ℕ) (f h : ℕ → Option A) (xs : List ℕ) → AllByRecursion (λ x. x < n) xs → ((x : ℕ) → x < n → f x ≡ h x) → filter_map f xs ≡ filter_map h xs
filter_map_below n f h [] a e = refl
filter_map_below n f h (x ∷ xs) a e = ap (λ o. cons_option o (filter_map f xs)) (e x a.0) ∙ ap (cons_option (h x)) (filter_map_below n f h xs a.1 e)

pub up_free : {A : Type 0} (key : A → ℕ) (k : ℕ) (ys : List A) → has key k ys ≡ false → up_to_last key k ys ≡ []
up_free key k [] h = refl
up_free key k (y ∷ ys) h =
    elim (cases_Bool (key y == k)) [
      | inl e ↦ absurd (clash (rw e at h))
      | inr e ↦ (let f : has key k ys ≡ false = rw e at h in rw (f, e) refl)
    ]
  where
    clash : true ≡ false → ⊥
    clash e = cc

pub up_later : {A : Type 0} (key : A → ℕ) (k : ℕ) (xs ys : List A) → has key k ys ≡ true → up_to_last key k (xs ++ ys) ≡ xs ++ up_to_last key k ys
up_later key k [] ys h = refl
up_later key k (x ∷ xs) ys h = rw (has-append key k xs ys ∙ ap (λ b. has key k xs || b) h ∙ or_true (has key k xs)) (ap (λ l. x ∷ l) (up_later key k xs ys h))

pub up_before : {A : Type 0} (key : A → ℕ) (k : ℕ) (xs ys : List A) → has key k ys ≡ false → up_to_last key k (xs ++ ys) ≡ up_to_last key k xs
up_before key k [] ys h = up_free key k ys h
up_before key k (x ∷ xs) ys h =
    rw (has-append key k xs ys ∙ ap (λ b. has key k xs || b) h ∙ or_false (has key k xs)) (
    elim (cases_Bool (has key k xs)) [
      | inl e ↦ rw e (ap (λ l. x ∷ l) (up_before key k xs ys h))
      | inr e ↦ rw e refl
    ])

up_some : {A : Type 0} (key : A → ℕ) (k : ℕ) (ys : List A) → has key k ys ≡ true → (z : A) × (zs : List A) × (up_to_last key k ys ≡ z ∷ zs)
up_some key k [] h = absurd (clash h)
  where
    clash : false ≡ true → ⊥
    clash e = cc
up_some key k (y ∷ ys) h =
    elim (cases_Bool (has key k ys)) [
      | inl e ↦ (y, up_to_last key k ys, rw e refl)
      | inr e ↦ (y, [], rw (e, first (key y == k) (has key k ys) h e) refl)
    ]
  where
    first : (a b : Bool) → (a || b) ≡ true → b ≡ false → a ≡ true
    first true b h e = refl
    first false b h e = absurd (clash (sym h ∙ e))
      where
        clash : true ≡ false → ⊥
        clash e = cc

-- what is said of the last element is said after both lists went on
last_same : {A X : Type 0} (F : Option A → X) (xs ys more : List A) → F (last xs) ≡ F (last ys) → F (last (xs ++ more)) ≡ F (last (ys ++ more))
last_same F xs ys [] e = ap (λ l. F (last l)) (append-nil xs) ∙ e ∙ sym (ap (λ l. F (last l)) (append-nil ys))
last_same F xs ys (z ∷ zs) e = ap F (last-append xs z zs) ∙ sym (ap F (last-append ys z zs))

up_same : {A X : Type 0} (F : Option A → X) (key : A → ℕ) (k : ℕ) (xs ys more : List A) → F (last (up_to_last key k xs)) ≡ F (last (up_to_last key k ys)) → F (last (up_to_last key k (xs ++ more))) ≡ F (last (up_to_last key k (ys ++ more)))
up_same F key k xs ys more e =
    elim (cases_Bool (has key k more)) [
      | inl h ↦ (let z = up_some key k more h in
          ap (λ l. F (last l)) (up_later key k xs more h ∙ ap (λ l. xs ++ l) z.2) ∙ ap F (last-append xs z.0 z.1)
          ∙ sym (ap (λ l. F (last l)) (up_later key k ys more h ∙ ap (λ l. ys ++ l) z.2) ∙ ap F (last-append ys z.0 z.1)))
      | inr h ↦ ap (λ l. F (last l)) (up_before key k xs more h) ∙ e ∙ sym (ap (λ l. F (last l)) (up_before key k ys more h))
    ]

pub has-kept : (g : Graph) (r : ℕ) (items : List Item) → has (λ (i : Item). i.role) r (kept_items g items) ≡ has (λ (i : Item). i.role) r items
has-kept g r items =
    has-map (item_of g) (λ (i : Item). i.role) r (evidence (λ (i : Item). i.role) (map entry_of items))
    ∙ has-evidence (λ (i : Item). i.role) r (map entry_of items)
    ∙ has-map entry_of (λ (e : Entry Item (List ℕ)). e.step.role) r items

-- ---- two sessions of which the role keeps the same

module _ (g : Graph) (s t : Session) (k : KeepsSame g s t) where
  abbrev n : ℕ
  n = length g.variables

  abbrev by : Item → ℕ
  by i = i.role

  same_time : time s ≡ time t
  same_time = ap (λ (z : KeptState). z.time) k.kept

  same_place : place g s ≡ place g t
  same_place = ap (λ (z : KeptState). z.place) k.kept

  same_origin_ : origin s ≡ origin t
  same_origin_ = ap (λ (z : KeptState). z.origin) k.kept

  same_own_time : own_time s ≡ own_time t
  same_own_time = ap (λ (z : KeptState). z.own_time) k.kept

  same_items : kept_items g (transcript s) ≡ kept_items g (transcript t)
  same_items = ap (λ (z : KeptState). z.items) k.kept

  same_committed : (x : ℕ) → x < n → committed x (transcript s) ≡ committed x (transcript t)
  same_committed x h = range_at (λ x. committed x (transcript s)) (λ x. committed x (transcript t)) 0 n (ap (λ (z : KeptState). z.commitments) k.kept) x (omega arith) (omega (arith, h))

  same_known : (x : ℕ) → x < n → known s x ≡ known t x
  same_known x h = range_at (known s) (known t) 0 n (ap (λ (z : KeptState). z.openings) k.kept) x (omega arith) (omega (arith, h))

  committed_more : (more : List Item) (x : ℕ) → x < n → committed x (transcript s ++ more) ≡ committed x (transcript t ++ more)
  committed_more more x h = committed-append x (transcript s) more ∙ ap (option_or (committed x more)) (same_committed x h) ∙ sym (committed-append x (transcript t) more)

  commitments_more : (more : List Item) → commitments g (transcript s ++ more) ≡ commitments g (transcript t ++ more)
  commitments_more more = range_same (λ x. committed x (transcript s ++ more)) (λ x. committed x (transcript t ++ more)) 0 n (λ x h. committed_more more x (omega (arith, h)))

  said_same : (xs ys : List Item) (i : Item) (r : ℕ) → commitments g (xs ++ i ∷ []) ≡ commitments g (ys ++ i ∷ []) → text_to g s xs i r ≡ text_to g t ys i r
  said_same xs ys i r e =
      ap (λ (c : Cast). item_text_of c.version s.sid i.role r i.label i.time (commitments g (xs ++ i ∷ []))) k.cast
      ∙ ap (λ z. item_text_of t.cast.version z i.role r i.label i.time (commitments g (xs ++ i ∷ []))) k.sid
      ∙ ap (item_text_of t.cast.version t.sid i.role r i.label i.time) e

  same_checked : (xs ys is : List Item) → ((more : List Item) → commitments g (xs ++ more) ≡ commitments g (ys ++ more)) → checked_texts g s xs is ≡ checked_texts g t ys is
  same_checked xs ys [] e = refl
  same_checked xs ys (i ∷ []) e = refl
  same_checked xs ys (i ∷ j ∷ is) e =
      ap (λ r. (i, text_to g s xs i r) ∷ checked_texts g s (xs ++ i ∷ []) (j ∷ is)) k.role
      ∙ ap (λ z. (i, z) ∷ checked_texts g s (xs ++ i ∷ []) (j ∷ is)) (said_same xs ys i t.role (e (i ∷ [])))
      ∙ ap (λ l. (i, text_to g t ys i t.role) ∷ l) (same_checked (xs ++ i ∷ []) (ys ++ i ∷ []) (j ∷ is) (λ more. ap (commitments g) (append_assoc xs (i ∷ []) more) ∙ e (i ∷ more) ∙ sym (ap (commitments g) (append_assoc ys (i ∷ []) more))))

  -- ---- what is sent

  module _ (sha : Hash) (keys : Keyring) (p : Program) (at : p.graph ≡ g) (is : IsGraph g) (label : ℕ) (written : List Opening) where
    abbrev tagged : Session → Item → Item
    tagged u i = record i { tags = map (λ r. (r, tag_for sha keys u.cast r (text_to g u (transcript u) i r))) (targets_of p label) }

    same_plain : plain_item sha s label written ≡ plain_item sha t label written
    same_plain =
        ap (λ r. record (plain_item sha s label written) { role = r }) k.role
        ∙ ap (λ z. record (plain_item sha s label written) { role = t.role; time = z + 1 }) same_time
        ∙ ap (λ z. record (plain_item sha s label written) { role = t.role; time = time t + 1; delta = map (λ (o : Opening). (o.variable, commitment sha z o)) written }) k.sid

    same_tagged : (i : Item) → tagged s i ≡ tagged t i
    same_tagged i = ap (λ ts. record i { tags = ts }) (map_same _ _ (targets_of p label) (λ r.
        ap (λ (c : Cast). (r, tag_for sha keys c r (text_to g s (transcript s) i r))) k.cast ∙ ap (λ z. (r, tag_for sha keys t.cast r z)) (said_same (transcript s) (transcript t) i r (commitments_more (i ∷ [])))))

    pub same_own : tagged s (plain_item sha s label written) ≡ tagged t (plain_item sha t label written)
    same_own = same_tagged (plain_item sha s label written) ∙ ap (tagged t) same_plain

    same_shown : (r : ℕ) (more : List Item) → shown_to g r (transcript s ++ more) ≡ shown_to g r (transcript t ++ more)
    same_shown r more =
        sym (shown_to-kept (evidence_again (λ (i : Item). i.role)) (evidence_since (λ (i : Item). i.role)) g (transcript s) more r)
        ∙ ap (λ l. shown_to g r (l ++ more)) same_items
        ∙ shown_to-kept (evidence_again (λ (i : Item). i.role)) (evidence_since (λ (i : Item). i.role)) g (transcript t) more r

    same_has : (r : ℕ) → has by r (transcript s) ≡ has by r (transcript t)
    same_has r = sym (has-kept g r (transcript s)) ∙ ap (has by r) same_items ∙ has-kept g r (transcript t)

    -- the frame, from its parts
    abbrev made : ℕ → Cast → List ℕ → ℕ → Bool → List Item → List Opening → Frame
    made to c sid r has_item items os = record { version = c.version; sid = sid; sender = r; receiver = to; join = if has_item then None else Some c; items = items; openings = os; tag = [] }

    abbrev to : Item → ℕ
    to i = receiver (shape g) i.label

    abbrev plain : Session → Item → Frame
    plain u i = made (to i) u.cast u.sid u.role (has by (to i) (transcript u)) (shown_to g (to i) (transcript u ++ i ∷ [])) (filter_map (opening_of u written) (reads g i.label))

    same_frame : (i : Item) → plain s i ≡ plain t i
    same_frame i =
        ap (λ c. made (to i) c s.sid s.role (has by (to i) (transcript s)) (shown_to g (to i) (transcript s ++ i ∷ [])) (filter_map (opening_of s written) (reads g i.label))) k.cast
        ∙ ap (λ z. made (to i) t.cast z s.role (has by (to i) (transcript s)) (shown_to g (to i) (transcript s ++ i ∷ [])) (filter_map (opening_of s written) (reads g i.label))) k.sid
        ∙ ap (λ r. made (to i) t.cast t.sid r (has by (to i) (transcript s)) (shown_to g (to i) (transcript s ++ i ∷ [])) (filter_map (opening_of s written) (reads g i.label))) k.role
        ∙ ap (λ b. made (to i) t.cast t.sid t.role b (shown_to g (to i) (transcript s ++ i ∷ [])) (filter_map (opening_of s written) (reads g i.label))) (same_has (to i))
        ∙ ap (λ l. made (to i) t.cast t.sid t.role (has by (to i) (transcript t)) l (filter_map (opening_of s written) (reads g i.label))) (same_shown (to i) (i ∷ []))
        ∙ ap (made (to i) t.cast t.sid t.role (has by (to i) (transcript t)) (shown_to g (to i) (transcript t ++ i ∷ [])))
        (filter_map_below n (opening_of s written) (opening_of t written) (reads g i.label) (reads_in n g.edges is.variables i.label).1 (λ x h. ap (option_or (opening_in written x)) (same_known x h)))

    abbrev sealed : Cast → Frame → Frame
    sealed c f = record f { tag = tag_for sha keys c f.receiver (text_of f) }

    same_sent : sealed s.cast (plain s (tagged s (plain_item sha s label written))) ≡ sealed t.cast (plain t (tagged t (plain_item sha t label written)))
    same_sent =
        ap (λ c. sealed c (plain s (tagged s (plain_item sha s label written)))) k.cast
        ∙ ap (λ i. sealed t.cast (plain s i)) same_own
        ∙ ap (sealed t.cast) (same_frame (tagged t (plain_item sha t label written)))

keeps_sending : (sha : Hash) (keys : Keyring) (p : Program) (s t : Session) (label : ℕ) (written : List Opening) → IsGraph p.graph → KeepsSame p.graph s t → frame_sent sha keys p s label written ≡ frame_sent sha keys p t label written
keeps_sending sha keys p s t label written is k = same_sent p.graph s t k sha keys p refl is label written

-- ---- what is refused

keeps_refusing : (p : Program) (s t : Session) (label : ℕ) (values : Map Value) → KeepsSame p.graph s t → rows_of_act p s label values ≡ rows_of_act p t label values
keeps_refusing p s t label values k =
    ap (λ n. rows n s.role (time s)) (same_place p.graph s t k) ∙ ap (λ r. rows (place p.graph t) r (time s)) k.role ∙ ap (rows (place p.graph t) t.role) (same_time p.graph s t k)
  where
    rows : (place role time : ℕ) → List (Option ActFault)
    rows n r i = row (not (role_at (shape p.graph) n == r)) ActFault.NotYourTurn
        ∷ map (option_map Send) (row (not (nat_lt label (length p.graph.edges) && (source (shape p.graph) label == n))) NoSuchLabel ∷ option_map BadValues (find (is_bad p.graph label values) (below 256)) ∷ row (nat_le 1000000 i) TimeSpent ∷ [])

-- ---- what is judged

-- of five rows the last is alike if the second does not hold
five : {A : Type 0} (a b c d e e' : Option A) → (b ≡ None → e ≡ e') → first_some (a ∷ b ∷ c ∷ d ∷ e ∷ []) ≡ first_some (a ∷ b ∷ c ∷ d ∷ e' ∷ [])
five (Some x) b c d e e' h = refl
five None (Some x) c d e e' h = refl
five None None c d e e' h = ap (λ o. first_some (c ∷ d ∷ o ∷ [])) (h refl)

-- the variables of these openings are those
pub below_reads : (n : ℕ) (os : List Opening) (xs : List ℕ) → map (λ (o : Opening). o.variable) os ≡ xs → AllByRecursion (λ x. x < n) xs → AllByRecursion (λ (o : Opening). o.variable < n) os
below_reads n [] xs e a = tt
below_reads n (o ∷ os) [] e a = absurd (clash e)
  where
    clash : {x : ℕ} {xs : List ℕ} → x ∷ xs ≡ [] → ⊥
    clash e = cc
below_reads n (o ∷ os) (x ∷ xs) e a =
    let hd : o.variable ≡ x = cc in
    let tl : map (λ (o : Opening). o.variable) os ≡ xs = cc in
    (subst (λ z. z < n) (sym hd) a.0, below_reads n os xs tl a.1)

same_not : (a b : Bool) → not a ≡ not b → a ≡ b
same_not true true e = refl
same_not false false e = refl
same_not true false e = absurd (let c : false ≡ true = e in cc)
same_not false true e = absurd (let c : true ≡ false = e in cc)

-- if a verdict comes to the openings, or to none, the frame had the form of a view
late_view : (x y : Bool) (c d e : Option Refusal) → nat_lt 14 (row_number (first_some (row x BadFrameTag ∷ row y NoSuchView ∷ c ∷ d ∷ e ∷ []))) ≡ true → row y NoSuchView ≡ None
late_view true y c d e h = absurd (let n : false ≡ true = h in cc)
late_view false true c d e h = absurd (let n : false ≡ true = h in cc)
late_view false false c d e h = refl

module _ (sha : Hash) (keys : Keyring) (p : Program) (s t : Session) (f : Frame) (is : IsGraph p.graph) (k : KeepsSame p.graph s t) (ws : own_part s ≡ transcript s) (wt : own_part t ≡ transcript t) where
  abbrev tag_row : Cast → Option Refusal
  tag_row c = row (not (nat_lt f.sender (length c.names) && bytes_eq (tag_for sha keys c f.sender (text_of f)) f.tag)) BadFrameTag

  abbrev view_row : Option ℕ → Option Refusal
  view_row o = row (not (has_view p.views (record { origin = o; items = map seen f.items })
      && list_all (λ i. i.role == sender (shape p.graph) i.label) f.items
      && option_map_or (λ i. i.role == f.sender) (last f.items) false
      && has_right_tags p f.items
      && bytes_eq (map (λ o. o.variable) f.openings) (option_map_or (reads p.graph) (last_label f.items) []))) NoSuchView

  abbrev item_row : ℕ → Cast → List (Item × List ℕ) → Option Refusal
  item_row r c texts = option_map (λ n. BadEvidence (n + 1)) (position (λ (x : Item × List ℕ). not (same_text (value_at (x.0).tags r) (tag_for sha keys c (x.0).role x.1))) texts)

  abbrev opening_row : Session → Option Refusal
  opening_row u = option_map (λ o. BadOpening o.variable) (find (λ o. not (is_right sha p.graph u f o)) f.openings)

  texts_same : texts_checked p.graph s f ≡ texts_checked p.graph t f
  texts_same = ap (λ l. checked_texts p.graph s l f.items) ws ∙ same_checked p.graph s t k (transcript s) (transcript t) f.items (commitments_more p.graph s t k) ∙ sym (ap (λ l. checked_texts p.graph t l f.items) wt)

  right_same : (o : Opening) → o.variable < length p.graph.variables → not (is_right sha p.graph s f o) ≡ not (is_right sha p.graph t f o)
  right_same o h =
      ap (λ l. not (has_kind p.graph o && same_text (committed o.variable (l ++ f.items)) (commitment sha s.sid o))) ws
      ∙ ap (λ c. not (has_kind p.graph o && same_text c (commitment sha s.sid o))) (committed_more p.graph s t k f.items o.variable h)
      ∙ ap (λ z. not (has_kind p.graph o && same_text (committed o.variable (transcript t ++ f.items)) (commitment sha z o))) k.sid
      ∙ sym (ap (λ l. not (has_kind p.graph o && same_text (committed o.variable (l ++ f.items)) (commitment sha t.sid o))) wt)

  reads_below : (o : Option ℕ) → AllByRecursion (λ x. x < length p.graph.variables) (option_map_or (reads p.graph) o [])
  reads_below None = tt
  reads_below (Some e) = (reads_in (length p.graph.variables) p.graph.edges is.variables e).1

  openings_same : view_row (origin t) ≡ None → opening_row s ≡ opening_row t
  openings_same h =
      let shown : is_shown p t f ≡ true = not-false (is_shown p t f) (row_none _ _ h) in
      let vars : map (λ (o : Opening). o.variable) f.openings ≡ option_map_or (reads p.graph) (last_label f.items) [] = same_bytes _ _ (and_parts _ _ shown).1 in
      ap (option_map (λ (o : Opening). BadOpening o.variable)) (find_same _ _ f.openings
      (all_weaker (λ (o : Opening). o.variable < length p.graph.variables) (λ (o : Opening). not (is_right sha p.graph s f o) ≡ not (is_right sha p.graph t f o)) right_same f.openings
      (below_reads (length p.graph.variables) f.openings _ vars (reads_below (last_label f.items)))))

  keeps_judging : first_some (rows_of_session sha keys p s f) ≡ first_some (rows_of_session sha keys p t f)
  keeps_judging =
      ap (λ c. first_some (tag_row c ∷ view_row (origin s) ∷ bad_time 1 (own_time s) f.items ∷ item_row s.role s.cast (texts_checked p.graph s f) ∷ opening_row s ∷ [])) k.cast
      ∙ ap (λ o. first_some (tag_row t.cast ∷ view_row o ∷ bad_time 1 (own_time s) f.items ∷ item_row s.role s.cast (texts_checked p.graph s f) ∷ opening_row s ∷ [])) (same_origin_ p.graph s t k)
      ∙ ap (λ n. first_some (tag_row t.cast ∷ view_row (origin t) ∷ bad_time 1 n f.items ∷ item_row s.role s.cast (texts_checked p.graph s f) ∷ opening_row s ∷ [])) (same_own_time p.graph s t k)
      ∙ ap (λ r. first_some (tag_row t.cast ∷ view_row (origin t) ∷ bad_time 1 (own_time t) f.items ∷ item_row r s.cast (texts_checked p.graph s f) ∷ opening_row s ∷ [])) k.role
      ∙ ap (λ c. first_some (tag_row t.cast ∷ view_row (origin t) ∷ bad_time 1 (own_time t) f.items ∷ item_row t.role c (texts_checked p.graph s f) ∷ opening_row s ∷ [])) k.cast
      ∙ ap (λ l. first_some (tag_row t.cast ∷ view_row (origin t) ∷ bad_time 1 (own_time t) f.items ∷ item_row t.role t.cast l ∷ opening_row s ∷ [])) texts_same
      ∙ five (tag_row t.cast) (view_row (origin t)) (bad_time 1 (own_time t) f.items) (item_row t.role t.cast (texts_checked p.graph t f)) (opening_row s) (opening_row t) openings_same

  -- the notes, by what they are made of
  abbrev frame_note : Cast → ℕ → List Note
  frame_note c n = if nat_lt 11 n then note_of keys.me (principal c f.sender) (text_of f) ∷ [] else []

  abbrev item_notes : ℕ → Cast → List (Item × List ℕ) → ℕ → List Note
  item_notes r c texts n = if nat_lt 13 n then map (λ (x : Item × List ℕ). note_of keys.me (principal c (x.0).role) x.1) (take_while (λ (x : Item × List ℕ). same_text (value_at (x.0).tags r) (tag_for sha keys c (x.0).role x.1)) texts) else []

  abbrev noted : List Note → List (List ℕ) → Notes
  noted found hashed = record { made = []; found = found; hashed = hashed }

  hashed_same : (os : List Opening) → AllByRecursion (λ (o : Opening). not (is_right sha p.graph s f o) ≡ not (is_right sha p.graph t f o)) os → hashed_openings sha p.graph s f os ≡ hashed_openings sha p.graph t f os
  hashed_same [] a = refl
  hashed_same (o ∷ os) a =
      ap (λ b. if b then (o ∷ hashed_openings sha p.graph s f os) else (if has_kind p.graph o then o ∷ [] else [])) (same_not (is_right sha p.graph s f o) (is_right sha p.graph t f o) a.0)
      ∙ ap (λ l. if is_right sha p.graph t f o then (o ∷ l) else (if has_kind p.graph o then o ∷ [] else [])) (hashed_same os a.1)

  all_right : view_row (origin t) ≡ None → AllByRecursion (λ (o : Opening). not (is_right sha p.graph s f o) ≡ not (is_right sha p.graph t f o)) f.openings
  all_right h =
      let shown : is_shown p t f ≡ true = not-false (is_shown p t f) (row_none _ _ h) in
      let vars : map (λ (o : Opening). o.variable) f.openings ≡ option_map_or (reads p.graph) (last_label f.items) [] = same_bytes _ _ (and_parts _ _ shown).1 in
      all_weaker (λ (o : Opening). o.variable < length p.graph.variables) (λ (o : Opening). not (is_right sha p.graph s f o) ≡ not (is_right sha p.graph t f o)) right_same f.openings
      (below_reads (length p.graph.variables) f.openings _ vars (reads_below (last_label f.items)))

  abbrev hashed_texts : Session → ℕ → List (List ℕ)
  hashed_texts u n = if nat_lt 14 n then map (commitment_text_of u.sid) (hashed_openings sha p.graph u f f.openings) else []

  texts_hashed : hashed_texts s (row_number (first_some (rows_of_session sha keys p t f))) ≡ hashed_texts t (row_number (first_some (rows_of_session sha keys p t f)))
  texts_hashed = elim (cases_Bool (nat_lt 14 (row_number (first_some (rows_of_session sha keys p t f))))) [
    | inl e ↦
        rw e (
        let h : view_row (origin t) ≡ None = late_view _ _ (bad_time 1 (own_time t) f.items) (item_row t.role t.cast (texts_checked p.graph t f)) (opening_row t) e in
        ap (λ z. map (commitment_text_of z) (hashed_openings sha p.graph s f f.openings)) k.sid ∙ ap (map (commitment_text_of t.sid)) (hashed_same f.openings (all_right h)))
    | inr e ↦ rw e refl
  ]

  keeps_noting : notes_in_session sha keys p s f (row_number (first_some (rows_of_session sha keys p s f))) ≡ notes_in_session sha keys p t f (row_number (first_some (rows_of_session sha keys p t f)))
  keeps_noting =
      let n : ℕ = row_number (first_some (rows_of_session sha keys p t f)) in
      ap (λ o. noted (frame_note s.cast (row_number o) ++ item_notes s.role s.cast (texts_checked p.graph s f) (row_number o)) (hashed_texts s (row_number o))) keeps_judging
      ∙ ap (λ c. noted (frame_note c n ++ item_notes s.role c (texts_checked p.graph s f) n) (hashed_texts s n)) k.cast
      ∙ ap (λ r. noted (frame_note t.cast n ++ item_notes r t.cast (texts_checked p.graph s f) n) (hashed_texts s n)) k.role
      ∙ ap (λ l. noted (frame_note t.cast n ++ item_notes t.role t.cast l n) (hashed_texts s n)) texts_same
      ∙ ap (noted (frame_note t.cast n ++ item_notes t.role t.cast (texts_checked p.graph t f) n)) texts_hashed

-- ---- what is noted of a sending

keeps_noting_sent : (keys : Keyring) (p : Program) (s t : Session) (f : Frame) (written : List Opening) → KeepsSame p.graph s t → notes_of_sent keys p s f written ≡ notes_of_sent keys p t f written
keeps_noting_sent keys p s t f written k =
    ap (λ l. parts l s.cast s.sid) (items_ (last f.items)) ∙ ap (λ c. parts (tagged_ t (last f.items)) c s.sid) k.cast ∙ ap (parts (tagged_ t (last f.items)) t.cast) k.sid
  where
    tagged_ : Session → Option Item → List Note
    tagged_ u o = option_map_or (λ i. map (λ r. note_of keys.me (principal u.cast r) (text_to p.graph u (transcript u) i r)) (targets_of p i.label)) o []

    parts : List Note → Cast → List ℕ → Notes
    parts l c sid = record { made = l ++ note_of keys.me (principal c f.receiver) (text_of f) ∷ []; found = []; hashed = map (commitment_text_of sid) written }

    items_ : (o : Option Item) → tagged_ s o ≡ tagged_ t o
    items_ None = refl
    items_ (Some i) = map_same _ _ (targets_of p i.label) (λ r.
        ap (λ (c : Cast). note_of keys.me (principal c r) (text_to p.graph s (transcript s) i r)) k.cast
        ∙ ap (note_of keys.me (principal t.cast r)) (said_same p.graph s t k (transcript s) (transcript t) i r (commitments_more p.graph s t k (i ∷ []))))

-- ---- whether it is over

keeps_ending : (programs : List Program) (p : Program) (s t : Session) → program_for programs s.cast.graph s.role ≡ Some p → KeepsSame p.graph s t → is_over programs s ≡ is_over programs t
keeps_ending programs p s t found k =
    ap (λ o. option_map_or (λ q. over q (place q.graph s) s.role (origin s)) o true) found
    ∙ ap (λ n. over p n s.role (origin s)) (same_place p.graph s t k) ∙ ap (λ r. over p (place p.graph t) r (origin s)) k.role ∙ ap (over p (place p.graph t) t.role) (same_origin_ p.graph s t k)
    ∙ sym (ap (λ o. option_map_or (λ q. over q (place q.graph t) t.role (origin t)) o true) found_t)
  where
    over : Program → ℕ → ℕ → Option ℕ → Bool
    over q n r o = if role_at (shape q.graph) n == r then not (list_any (λ e. e.source == n) q.graph.edges) else not (option_map_or (may_return q) o true)

    found_t : program_for programs t.cast.graph t.role ≡ Some p
    found_t = ap (λ (c : Cast). program_for programs c.graph t.role) (sym k.cast) ∙ ap (program_for programs s.cast.graph) (sym k.role) ∙ found

-- ---- what is kept after an exchange

transcript-extended : (s : Session) (e : Exchange) → transcript (extended s e) ≡ transcript s ++ items_of e
transcript-extended s e = flat_map-append items_of s.exchanges (e ∷ []) ∙ ap (λ l. transcript s ++ l) (append-nil (items_of e))

abbrev kept_of : Option ℕ → ℕ → ℕ → ℕ → List Item → List (Option (List ℕ)) → List (Option Opening) → KeptState
kept_of o a b c d e f = record { origin = o; own_time = a; time = b; place = c; items = d; commitments = e; openings = f }

same_kept : {o o' : Option ℕ} {a a' b b' c c' : ℕ} {d d' : List Item} {e e' : List (Option (List ℕ))} {f f' : List (Option Opening)} → o ≡ o' → a ≡ a' → b ≡ b' → c ≡ c' → d ≡ d' → e ≡ e' → f ≡ f' → kept_of o a b c d e f ≡ kept_of o' a' b' c' d' e' f'
same_kept h1 h2 h3 h4 h5 h6 h7 = cc

keeps_going : (g : Graph) (s t : Session) (e : Exchange) → KeepsSame g s t → KeepsSame g (extended s e) (extended t e)
keeps_going g s t e k = record {
  sid = k.sid;
  cast = k.cast;
  role = k.role;
  kept = same_kept (later_own_part (λ o. option_map (λ (i : Item). i.label) o) (same_origin_ g s t k)) (later_own_part (λ o. unwrap_or (option_map (λ (i : Item). i.time) o) 0) (same_own_time g s t k))
      (later (λ o. unwrap_or (option_map (λ (i : Item). i.time) o) 0) (same_time g s t k)) (later (λ o. unwrap_or (option_map (target (shape g)) (option_map (λ (i : Item). i.label) o)) 0) (same_place g s t k))
      later_items later_commitments later_openings;
}
  where
    more : List Item
    more = items_of e

    later : {X : Type 0} (F : Option Item → X) → F (last (transcript s)) ≡ F (last (transcript t)) → F (last (transcript (extended s e))) ≡ F (last (transcript (extended t e)))
    later F h = ap (λ l. F (last l)) (transcript-extended s e) ∙ last_same F (transcript s) (transcript t) more h ∙ sym (ap (λ l. F (last l)) (transcript-extended t e))

    later_own_part : {X : Type 0} (F : Option Item → X) → F (last (own_part s)) ≡ F (last (own_part t)) → F (last (own_part (extended s e))) ≡ F (last (own_part (extended t e)))
    later_own_part F h =
        ap (λ r. F (last (up_to_last (λ (i : Item). i.role) r (transcript (extended s e))))) k.role
        ∙ ap (λ l. F (last (up_to_last (λ (i : Item). i.role) t.role l))) (transcript-extended s e)
        ∙ up_same F (λ (i : Item). i.role) t.role (transcript s) (transcript t) more (sym (ap (λ r. F (last (up_to_last (λ (i : Item). i.role) r (transcript s)))) k.role) ∙ h)
        ∙ sym (ap (λ l. F (last (up_to_last (λ (i : Item). i.role) t.role l))) (transcript-extended t e))

    later_items : kept_items g (transcript (extended s e)) ≡ kept_items g (transcript (extended t e))
    later_items =
        ap (kept_items g) (transcript-extended s e)
        ∙ sym (kept-kept (evidence_again (λ (i : Item). i.role)) (evidence_since (λ (i : Item). i.role)) g (transcript s) more)
        ∙ ap (λ l. kept_items g (l ++ more)) (same_items g s t k)
        ∙ kept-kept (evidence_again (λ (i : Item). i.role)) (evidence_since (λ (i : Item). i.role)) g (transcript t) more
        ∙ sym (ap (kept_items g) (transcript-extended t e))

    later_commitments : commitments g (transcript (extended s e)) ≡ commitments g (transcript (extended t e))
    later_commitments = ap (commitments g) (transcript-extended s e) ∙ commitments_more g s t k more ∙ sym (ap (commitments g) (transcript-extended t e))

    later_openings : map (known (extended s e)) (below (length g.variables)) ≡ map (known (extended t e)) (below (length g.variables))
    later_openings = range_same (known (extended s e)) (known (extended t e)) 0 (length g.variables) (λ x h.
        last_opening-append x s.exchanges (e ∷ []) ∙ ap (option_or (last_opening x (e ∷ []))) (same_known g s t k x (omega (arith, h))) ∙ sym (last_opening-append x t.exchanges (e ∷ [])))

pub kept_is_enough : (sha : Hash) → KeptIsEnough sha
kept_is_enough sha = record { sends = keeps_sending sha; refuses = keeps_refusing; judges = keeps_judging sha; goes_on = keeps_going; notes_sent = keeps_noting_sent; notes_taken = keeps_noting sha; ends = keeps_ending }
