-- What the sessions of a run are to the law of one session.
use Rattle.std.specs.Prelude.{◌≡◌, ℕ, zero, suc, ◌+◌, ◌<◌, ◌==◌, nat_lt, nat_le, get_or, All, ◌⊎◌, Bool, true, false, not, cond, List, [], ◌∷◌, ◌++◌, map, length, find, position, take_while, refl, Option, Some, None, option_map, IfSome, Contains}
use Rattle.std.specs.List.{prefix_len, list_all, AllByRecursion}
use Rattle.std.specs.Option.{option_or, option_map_or}
use Rattle.std.proofs.Common.{sym, ◌∙◌, ap, subst, inl, inr, arith, append_assoc, append-nil}
use Rattle.std.proofs.lemmas.Bool.{eqb-true, cases_Bool, and_parts}
use Rattle.std.proofs.lemmas.Bool.Decides.{nat_tests}
use Rattle.std.proofs.lemmas.List.Elements.{All-head, All-tail}
use Rattle.std.proofs.lemmas.List.Sums.{take_while-cons}
use Rattle.sg_model.specs.Last.{Map, has, last, after_last, up_to_last}
use Rattle.sg_model.specs.Lists.{is_in, value_at, below}
use Rattle.sg_model.specs.Shape.{Shape, Arrow}
use Rattle.sg_model.specs.Values.{Code}
use Rattle.sg_model.specs.Names.{Name}
use Rattle.sg_model.proofs.Small.{all_below}
use Rattle.sg_model.proofs.Members.{In}
use Rattle.sg_protocol.specs.Graph.{Graph, Edge, IsGraph, AreNumbers, shape, writes}
use Rattle.sg_protocol.specs.Frame.{Cast, Item, Frame}
use Rattle.sg_protocol.specs.Spelling.{HasSpelling, body}
use Rattle.sg_protocol.specs.Texts.{item_text_of, frame_text_of}
use Rattle.sg_protocol.specs.TextLaws.{ItemFits, AreHeld}
use Rattle.sg_protocol.specs.Session.{Session, principal, transcript, own_part, time, place, at_turn, committed, commitments}
use Rattle.sg_protocol.specs.Sending.{text_to}
use Rattle.sg_protocol.specs.Checks.{checked_texts}
use Rattle.sg_protocol.specs.Verdict.{row, bad_time}
use Rattle.sg_protocol.specs.Notes.{Note, note_of, text_before}
use Rattle.sg_law.specs.Last as B
use Rattle.sg_law.specs.Accept.{sender_of, TimedLabel}
use Rattle.sg_law.specs.Run.{RisesFrom}
use Rattle.sg_law.specs.Values as V
use Rattle.sg_law.specs.Values.{State, SentItem, transcript_with_item, com_of, is_variable}
use Rattle.sg_protocol.proofs.Entries.{entry, entries, by, Roles}

-- a step of the law
abbrev pub step : Item → TimedLabel
step i = record { label = i.label; time = i.time }

-- each commitment of an item has 32 bytes
abbrev pub FitItem : Item → Type 0
FitItem i = AllByRecursion (λ (d : ℕ × List ℕ). length d.1 ≡ 32) i.delta

abbrev pub FitItems : List Item → Type 0
FitItems is = AllByRecursion FitItem is

module _ (g : Graph) where
  -- an item that was made is one of the law's log, with what was held then
  pub record MadeItem (log : List SentItem) (label time : ℕ) (held : List (Option (List ℕ))) : Type 0 where
    pub made : SentItem
    pub there : Contains log made
    pub same : V.step_of made.item ≡ record { label = label; time = time }
    pub is_held : held ≡ map (λ x. com_of (transcript_with_item made) x) (below (length g.variables))

  -- a frame that was made shows what one of the law's log shows
  pub record MadeFrame (log : List SentItem) (f : Frame) : Type 0 where
    pub made : SentItem
    pub there : Contains log made
    pub steps : V.steps_of (entries f.items) ≡ V.steps_of (B.evidence (sender_of (shape g)) (after_last (by (shape g)) f.receiver (transcript_with_item made)))
    pub written : (x : ℕ) → x < length g.variables → com_of (entries f.items) x ≡ com_of (B.evidence (sender_of (shape g)) (after_last (by (shape g)) f.receiver (transcript_with_item made))) x

  -- what a note says of the session was made in it
  pub record NoteOk (sid : List ℕ) (log : List SentItem) (n : Note) : Type 0 where
    pub item : (v from to label time : ℕ) (held : List (Option (List ℕ))) → ItemFits v sid label time held → n.text ≡ item_text_of v sid from to label time held → MadeItem log label time held
    pub frame : (v : ℕ) (f : Frame) → HasSpelling f → f.sid ≡ sid → n.text ≡ frame_text_of v (body f) → MadeFrame log f

  -- the role of a live session is what the law has for it
  pub record Matches (sid : List ℕ) (cast : Cast) (st : State) (who : Name) (x : Session) : Type 0 where
    pub same_sid : x.sid ≡ sid
    pub same_cast : x.cast ≡ cast
    pub is_who : principal cast x.role ≡ who
    pub inside : x.role < length cast.names
    pub is_transcript : st.transcript x.role ≡ entries (transcript x)
    pub is_own : (st.machine.at x.role).own ≡ option_map step (last (own_part x))
    pub turns : at_turn g x ≡ true → (st.machine.at x.role).turn ≡ Some (record { node = place g x; time = time x })
    pub waits : at_turn g x ≡ false → (st.machine.at x.role).turn ≡ None
    pub roles : Roles (shape g) (transcript x)
    pub fits : FitItems (transcript x)
    pub last_edge : IfSome (last (transcript x)) (λ (i : Item). i.label < length g.edges)

-- ---- small lemmas

pub row_none : {F : Type 0} (b : Bool) (x : F) → row b x ≡ None → b ≡ false
row_none true x h = absurd (cc)
row_none false x h = refl

-- the last item of a frame from its sender
pub sender_last : (f : Frame) → option_map_or (λ (i : Item). i.role == f.sender) (last f.items) false ≡ true → (i : Item) × (last f.items ≡ Some i) × (i.role ≡ f.sender)
sender_last f = go (last f.items) refl
  where
    go : (o : Option Item) → last f.items ≡ o → option_map_or (λ (i : Item). i.role == f.sender) o false ≡ true → (i : Item) × (last f.items ≡ Some i) × (i.role ≡ f.sender)
    go None e h = absurd (cc)
    go (Some i) e h = (i, e, eqb-true i.role f.sender h)

from_cond : (k n : ℕ) → cond (nat_lt k n) (Some k) None ≡ None → nat_lt k n ≡ false
from_cond k n h = elim (cases_Bool (nat_lt k n)) [ inl e ↦ (let f : Some k ≡ None = rw e at h in absurd (cc)) | inr e ↦ e ]

to_cond : (k n : ℕ) → nat_lt k n ≡ false → cond (nat_lt k n) (Some k) None ≡ None
to_cond k n h = rw h refl

lower : (k n : ℕ) → nat_lt (1 + k) (suc n) ≡ false → nat_lt k n ≡ false
lower k n h = grind (arith, nat_tests)

not_low : (n : ℕ) → nat_lt 0 (suc n) ≡ false → ⊥
not_low n h = grind (arith, nat_tests)

pub no_position : {A : Type 0} (p : A → Bool) (xs : List A) → position (λ c. not (p c)) xs ≡ None → list_all p xs ≡ true
no_position p [] h = refl
no_position p (x ∷ xs) h = elim (cases_Bool (p x)) [
  | inl e ↦ rw e (no_position p xs (to_cond (prefix_len (λ c. not (not (p c))) xs) (length xs) (lower (prefix_len (λ c. not (not (p c))) xs) (length xs) (from_cond (1 + prefix_len (λ c. not (not (p c))) xs) (suc (length xs)) (rw e at h)))))
  | inr e ↦ absurd (not_low (length xs) (from_cond 0 (suc (length xs)) (rw e at h)))
]

pub take_all : {A : Type 0} (p : A → Bool) (xs : List A) → list_all p xs ≡ true → take_while p xs ≡ xs
take_all p [] h = refl
take_all p (x ∷ xs) h = let ps = and_parts (p x) (list_all p xs) h in take_while-cons p x xs ∙ rw ps.0 (ap (λ l. x ∷ l) (take_all p xs ps.1))

pub no_find : {A : Type 0} (p : A → Bool) (xs : List A) → find (λ c. not (p c)) xs ≡ None → list_all p xs ≡ true
no_find p [] h = refl
no_find p (x ∷ xs) h = elim (cases_Bool (p x)) [
  | inl e ↦ rw e (no_find p xs (rw e at h))
  | inr e ↦ (let f = rw e at h in absurd (cc))
]

-- two principals' note
pub note_text : (a b : Name) (t : List ℕ) → (note_of a b t).text ≡ t
note_text a b t = elim (cases_Bool (text_before b a)) [ inl e ↦ rw e refl | inr e ↦ rw e refl ]

pub note_both : (P : Name → Type 0) (a b : Name) (t : List ℕ) → P a → P b → P (note_of a b t).one × P (note_of a b t).two
note_both P a b t h k = elim (cases_Bool (text_before b a)) [ inl e ↦ rw e (k, h) | inr e ↦ rw e (h, k) ]

pub fit-append : (xs ys : List Item) → FitItems xs → FitItems ys → FitItems (xs ++ ys)
fit-append [] ys a b = b
fit-append (x ∷ xs) ys a b = (a.0, fit-append xs ys a.1 b)

pub fit-left : (xs ys : List Item) → FitItems (xs ++ ys) → FitItems xs
fit-left [] ys a = tt
fit-left (x ∷ xs) ys a = (a.0, fit-left xs ys a.1)

pub roles-append : (g : Shape) (xs ys : List Item) → Roles g xs → Roles g ys → Roles g (xs ++ ys)
roles-append g [] ys a b = b
roles-append g (x ∷ xs) ys a b = (a.0, roles-append g xs ys a.1 b)

pub fit_up_to : (k : ℕ) (is : List Item) → FitItems is → FitItems (up_to_last (λ (i : Item). i.role) k is)
fit_up_to k [] h = tt
fit_up_to k (i ∷ is) h = elim (cases_Bool (has (λ (i : Item). i.role) k is)) [
  | inl e ↦ rw e (h.0, fit_up_to k is h.1)
  | inr e ↦ elim (cases_Bool (i.role == k)) [ inl d ↦ rw (e, d) (h.0, tt) | inr d ↦ rw (e, d) tt ]
]

pub committed_fits : (x : ℕ) (is : List Item) → FitItems is → IfSome (committed x is) (λ c. length c ≡ 32)
committed_fits x [] h = tt
committed_fits x (i ∷ is) h = either (committed x is) (value_at i.delta x) (committed_fits x is h.1) (in_map i.delta h.0)
  where
    in_map : (m : Map (List ℕ)) → AllByRecursion (λ (d : ℕ × List ℕ). length d.1 ≡ 32) m → IfSome (value_at m x) (λ c. length c ≡ 32)
    in_map [] k = tt
    in_map (w ∷ ws) k = elim (cases_Bool (w.0 == x)) [ inl e ↦ rw e k.0 | inr e ↦ rw e (in_map ws k.1) ]

    either : (a b : Option (List ℕ)) → IfSome a (λ c. length c ≡ 32) → IfSome b (λ c. length c ≡ 32) → IfSome (option_or a b) (λ c. length c ≡ 32)
    either None b k l = l
    either (Some c) b k l = k

pub are_held : (g : Graph) (is : List Item) → FitItems is → AreHeld (commitments g is)
are_held g is h = go (below (length g.variables))
  where
    go : (xs : List ℕ) → AllByRecursion (λ (o : Option (List ℕ)). IfSome o (λ c. length c ≡ 32)) (map (λ x. committed x is) xs)
    go [] = tt
    go (x ∷ xs) = (committed_fits x is h, go xs)

-- a list of entries that is split
pub record Split (is : List Item) (a : List (B.Entry TimedLabel Code)) (i : B.Entry TimedLabel Code) (b : List (B.Entry TimedLabel Code)) : Type 0 where
  pub prefix : List Item
  pub mid : Item
  pub rest : List Item
  pub parts : is ≡ prefix ++ mid ∷ rest
  pub same_prefix : a ≡ entries prefix
  pub same_mid : i ≡ entry mid
  pub same_rest : b ≡ entries rest

pub split : (is : List Item) (a : List (B.Entry TimedLabel Code)) (i : B.Entry TimedLabel Code) (b : List (B.Entry TimedLabel Code)) → entries is ≡ a ++ i ∷ b → Split is a i b
split [] [] i b e = absurd (cc)
split [] (c ∷ a) i b e = absurd (cc)
split (x ∷ is) [] i b e = record { prefix = []; mid = x; rest = is; parts = refl; same_prefix = refl; same_mid = (let s : entry x ≡ i = cc in sym s); same_rest = (let s : entries is ≡ b = cc in sym s) }
split (x ∷ is) (c ∷ a) i b e =
    let s : entry x ≡ c = cc in
    let t : entries is ≡ a ++ i ∷ b = cc in
    let r : Split is a i b = split is a i b t in
    record { prefix = x ∷ r.prefix; mid = r.mid; rest = r.rest; parts = ap (λ l. x ∷ l) r.parts; same_prefix = ap (λ z. z ∷ a) (sym s) ∙ ap (λ l. entry x ∷ l) r.same_prefix; same_mid = r.same_mid; same_rest = r.same_rest }

-- each item but the last is checked
pub checked_in : (g : Graph) (x : Session) (before a : List Item) (i j : Item) (b : List Item) → In (checked_texts g x before (a ++ i ∷ j ∷ b)) (i, text_to g x (before ++ a) i x.role)
checked_in g x before [] i j b = inl (ap (λ l. (i, text_to g x l i x.role)) (append-nil before))
checked_in g x before (c ∷ []) i j b = inr (subst (λ l. In (checked_texts g x (before ++ c ∷ []) (i ∷ j ∷ b)) (i, text_to g x l i x.role)) (append-nil (before ++ c ∷ [])) (checked_in g x (before ++ c ∷ []) [] i j b))
checked_in g x before (c ∷ d ∷ a) i j b = inr (subst (λ l. In (checked_texts g x (before ++ c ∷ []) (d ∷ a ++ i ∷ j ∷ b)) (i, text_to g x l i x.role)) (append_assoc before (c ∷ []) (d ∷ a)) (checked_in g x (before ++ c ∷ []) (d ∷ a) i j b))

-- times that rise
pub rising_times : (n before : ℕ) (items : List Item) → bad_time n before items ≡ None → RisesFrom before (V.steps_of (entries items))
rising_times n before [] h = tt
rising_times n before (i ∷ is) h = elim (cases_Bool (nat_le i.time before)) [
  | inl e ↦ (let f = rw e at h in absurd (cc))
  | inr e ↦ (grind (arith, nat_tests), rising_times (n + 1) i.time is (rw e at h))
]

-- variables are below their number
edge_fact : (P : Edge → Type 0) (Q : Arrow → Type 0) → ((e : Edge) → P e → Q (record { source = e.source; target = e.target; writes = e.writes; reads = e.reads })) → (es : List Edge) → All P es → AllByRecursion Q (map (λ (e : Edge). record { source = e.source; target = e.target; writes = e.writes; reads = e.reads }) es)
edge_fact P Q f [] all = tt
edge_fact P Q f (e ∷ es) all = (f e (All-head P e es all), edge_fact P Q f es (All-tail P e es all))

abbrev WritesBelow : ℕ → Arrow → Type 0
WritesBelow n a = AllByRecursion (λ x. x < n) a.writes

edges_below : (g : Graph) → IsGraph g → AllByRecursion (WritesBelow (length g.variables)) (shape g).edges
edges_below g is = edge_fact (λ (e : Edge). AreNumbers (length g.variables) e.writes × AreNumbers (length g.variables) e.reads) (WritesBelow (length g.variables))
    (λ e h. all_below (length g.variables) e.writes (and_parts _ (list_all (λ k. nat_lt k (length g.variables)) e.writes) h.0).1) g.edges is.variables

pub writes_below : (g : Graph) → IsGraph g → (e : ℕ) → AllByRecursion (λ x. x < length g.variables) (writes g e)
writes_below g is e = go (shape g).edges (edges_below g is) e
  where
    go : (as_ : List Arrow) → AllByRecursion (WritesBelow (length g.variables)) as_ → (k : ℕ) → AllByRecursion (λ x. x < length g.variables) (get_or as_ k (record { source = 0; target = 0; writes = []; reads = [] })).writes
    go [] h k = tt
    go (a ∷ as_) h zero = h.0
    go (a ∷ as_) h (suc k) = go as_ h.1 k

pub variable_below : (g : Graph) → IsGraph g → (x : ℕ) → is_variable (shape g) x ≡ true → x < length g.variables
variable_below g is x h = go (shape g).edges (edges_below g is) h
  where
    in_both : (xs ys : List ℕ) → is_in x (xs ++ ys) ≡ true → (is_in x xs ≡ true) ⊎ (is_in x ys ≡ true)
    in_both [] ys e = inr e
    in_both (z ∷ xs) ys e = elim (cases_Bool (z == x)) [ inl d ↦ inl (rw d refl) | inr d ↦ (let r = in_both xs ys (rw d at e) in elim r [ inl c ↦ inl (rw d c) | inr c ↦ inr c ]) ]

    here : (xs : List ℕ) → AllByRecursion (λ x. x < length g.variables) xs → is_in x xs ≡ true → x < length g.variables
    here [] a e = absurd (cc)
    here (z ∷ xs) a e = elim (cases_Bool (z == x)) [ inl d ↦ subst (λ y. y < length g.variables) (eqb-true z x d) a.0 | inr d ↦ here xs a.1 (rw d at e) ]

    go : (as_ : List Arrow) → AllByRecursion (WritesBelow (length g.variables)) as_ → is_in x (V.written_by as_) ≡ true → x < length g.variables
    go [] a e = absurd (cc)
    go (b ∷ as_) a e = elim (in_both b.writes (V.written_by as_) e) [ inl c ↦ here b.writes a.0 c | inr c ↦ go as_ a.1 c ]
