-- The graph by which the numbers in an answer have names.
use Rattle.std.specs.Prelude.{◌≡◌, ℕ, ◌+◌, ◌<◌, ◌==◌, nat_lt, nat_le, ◌&&◌, ◌||◌, ◌⊎◌, Bool, true, false, not, List, [], ◌∷◌, map, find, position, length, bytes_eq, refl, Option, Some, None, option_map, option_and_then, unwrap_or, if◌then◌else◌, Result, Ok, Err, Contains}
use Rattle.std.specs.List.{AllByRecursion, list_any}
use Rattle.std.specs.Option.{option_map_or}
use Rattle.std.specs.Result.{result_ok}
use Rattle.std.proofs.Common.{sym, ◌∙◌, ap, subst, inl, inr}
use Rattle.std.proofs.lemmas.Bool.{cases_Bool, eqb-true, and_parts, not-false}
use Rattle.std.proofs.lemmas.List.Elements.{recursion_from_All}
use Rattle.sg_model.specs.Last.{Map, last}
use Rattle.sg_model.specs.Lists.{first_some, is_in, keys_of, below}
use Rattle.sg_model.specs.Names.{Name}
use Rattle.sg_model.specs.Values.{Value, Opening}
use Rattle.sg_model.proofs.Small.{clash, same_bytes, bytes_same, lt_of}
use Rattle.sg_model.proofs.Numbers.{below_in}
use Rattle.sg_model.proofs.Members.{In, in_from_Contains, in_left, rec_in}
use Rattle.sg_model.proofs.Finding.{find_passes, found_in}
use Rattle.sg_protocol.specs.Graph.{Graph, writes, reads}
use Rattle.sg_protocol.specs.Evidence.{View}
use Rattle.sg_protocol.specs.Frame.{Cast, Item, Frame}
use Rattle.sg_protocol.specs.Reading.{read}
use Rattle.sg_protocol.specs.Texts.{Hash, session_id, session_text_of}
use Rattle.sg_protocol.specs.Keyring.{Keyring, Program}
use Rattle.sg_protocol.specs.Session.{Session, new_session, origin, own_time, time, last_label, at_turn}
use Rattle.sg_protocol.specs.Checks.{texts_checked}
use Rattle.sg_protocol.specs.Calls.{Refusal, ActFault, StartFault, SendFault, Event, Call, Answer, Started, Sent, Start, Act, Abandon, Deliver, Happened, Abandoned, NotStarted, NotActed, NotAbandoned, NotDelivered, BadValues, Send, events_of_answer, sid_of, role_of}
use Rattle.sg_protocol.specs.Node.{Node, program_for, starter, session_with, session_for, is_for, is_cast, stranger, has_joined}
use Rattle.sg_protocol.specs.Verdict.{row, rows, rows_of_session, rows_of_join, rows_of_next, join_rows, next_rows, receipt, decided, verdict_on, seen, is_shown, has_frame_tag, has_item_tag, is_right, bad_time}
use Rattle.sg_protocol.specs.Acting.{answer, started, rows_of_start, rows_of_act, leaves, is_bad, is_out_of_order, is_typed, acted, sent}
use Rattle.sg_protocol.specs.Notes.{notes, notes_of_start, notes_of_read, hashed_of_join, row_number, session_of_frame}
use Rattle.sg_protocol.specs.Past.{is_frame_of}
use Rattle.sg_protocol.specs.Run.{cast_in}
use Rattle.sg_protocol.specs.IsSchedule.{IsProgram}
use Rattle.sg_protocol.specs.Named.{IsNamed, AnswersAreNamed, GivesVariables, HasNamed, names_numbers}
use Rattle.sg_protocol.proofs.Acts as C
use Rattle.sg_protocol.proofs.Bridge.{has_view-Contains}
use Rattle.sg_protocol.proofs.Entries.{view_last_edge}
use Rattle.sg_protocol.proofs.Gives.{keys_are}
use Rattle.sg_protocol.proofs.Moves.{writes_below}
use Rattle.sg_protocol.proofs.Sent.{reads_in}
use Rattle.sg_protocol.proofs.Takes.{Rows, rows_of}
use Rattle.sg_protocol.proofs.NoRows.{IsFor, found_for, starter_found}

-- ---- lists

pub out_of_order_in : (x : ℕ) (xs : List ℕ) → is_in x xs ≡ false → is_out_of_order x xs ≡ false
out_of_order_in x [] h = refl
out_of_order_in x (y ∷ ys) h = elim (cases_Bool (y == x)) [
  | inl e ↦ absurd (let q : true ≡ false = rw e at h in cc)
  | inr e ↦ (let r : is_in x ys ≡ false = rw e at h in go (nat_le x y) (is_in x ys) (is_out_of_order x ys) r (out_of_order_in x ys r))
]
  where
    go : (a b c : Bool) → b ≡ false → c ≡ false → (a && b || c) ≡ false
    go true b c e f = rw (e, f) refl
    go false b c e f = f

pub untyped_in : (g : Graph) (x : ℕ) (vs : Map Value) → is_in x (keys_of vs) ≡ false → list_any (λ (w : ℕ × Value). (w.0 == x) && not (is_typed g w)) vs ≡ false
untyped_in g x [] h = refl
untyped_in g x (v ∷ vs) h = elim (cases_Bool (v.0 == x)) [
  | inl e ↦ absurd (let q : true ≡ false = rw e at h in cc)
  | inr e ↦ rw e (untyped_in g x vs (rw e at h))
]

-- a variable that is bad is written, or a value was given for it
bad_named : (g : Graph) (label : ℕ) (values : Map Value) (x : ℕ) → AllByRecursion (λ y. y < length g.variables) (writes g label) → is_bad g label values x ≡ true → (x < length g.variables) ⊎ (is_in x (keys_of values) ≡ true)
bad_named g label values x a h = elim (cases_Bool (is_in x (keys_of values))) [
  | inl e ↦ inr e
  | inr e ↦ elim (cases_Bool (is_in x (writes g label))) [
    | inl w ↦ inl (below_in (length g.variables) x (writes g label) a w)
    | inr w ↦ absurd (clash (is_bad g label values x) h (rw (w, e, out_of_order_in x (keys_of values) e, untyped_in g x values e) refl))
  ]
]

keys_of_openings : (os : List Opening) → keys_of (map {B = ℕ × Value} (λ (o : Opening). (o.variable, o.value)) os) ≡ map (λ (o : Opening). o.variable) os
keys_of_openings [] = refl
keys_of_openings (o ∷ os) = ap (λ l. o.variable ∷ l) (keys_of_openings os)

-- ---- rows

-- a row of another refusal doesn't hold
past_row : {F : Type 0} (b : Bool) (q r : F) (os : List (Option F)) → (q ≡ r → ⊥) → first_some (row b q ∷ os) ≡ Some r → (b ≡ false) × (first_some os ≡ Some r)
past_row true q r os n h = absurd (n (let e : Some q ≡ Some r = h in cc))
past_row false q r os n h = (refl, h)

past_map : {A F : Type 0} (f : A → F) (o : Option A) (r : F) (os : List (Option F)) → ((a : A) → f a ≡ r → ⊥) → first_some (option_map f o ∷ os) ≡ Some r → first_some os ≡ Some r
past_map f None r os n h = h
past_map f (Some a) r os n h = absurd (n a (let e : Some (f a) ≡ Some r = h in cc))

past_time : (k before : ℕ) (is : List Item) (x : ℕ) (os : List (Option Refusal)) → first_some (bad_time k before is ∷ os) ≡ Some (Refusal.BadOpening x) → first_some os ≡ Some (Refusal.BadOpening x)
past_time k before [] x os h = h
past_time k before (i ∷ is) x os h = elim (cases_Bool (nat_le i.time before)) [
  | inl e ↦ absurd (let q : Some (Refusal.BadTime k i.time (before + 1)) ≡ Some (Refusal.BadOpening x) = rw e at h in cc)
  | inr e ↦ past_time (k + 1) i.time is x os (rw e at h)
]

-- what is refused for its opening is shown, and the variable is of an opening
record Unopened (p : Program) (x : Session) (f : Frame) (v : ℕ) : Type 0 where
  shown : is_shown p x f ≡ true
  there : In (map (λ (o : Opening). o.variable) f.openings) v

in_map_found : (q : Opening → Bool) (os : List Opening) (o : Opening) → find q os ≡ Some o → In (map (λ (o : Opening). o.variable) os) o.variable
in_map_found q [] o e = absurd (cc)
in_map_found q (y ∷ ys) o e = elim (cases_Bool (q y)) [
  | inl h ↦ (let f : Some y ≡ Some o = rw h at e in let s : y ≡ o = cc in inl (ap (λ (z : Opening). z.variable) (sym s)))
  | inr h ↦ inr (in_map_found q ys o (rw h at e))
]

unopened : (sha : Hash) (keys : Keyring) (p : Program) (x : Session) (f : Frame) (v : ℕ) → first_some (rows_of_session sha keys p x f) ≡ Some (Refusal.BadOpening v) → Unopened p x f v
unopened sha keys p x f v h =
    let evid : Option ℕ = position (λ c. not (has_item_tag sha keys x c)) (texts_checked p.graph x f) in
    let wrong : Option Opening = find (λ o. not (is_right sha p.graph x f o)) f.openings in
    let open_ : Option Refusal = option_map (λ o. Refusal.BadOpening o.variable) wrong in
    let r3 : List (Option Refusal) = option_map (λ n. Refusal.BadEvidence (n + 1)) evid ∷ open_ ∷ [] in
    let r2 : List (Option Refusal) = bad_time 1 (own_time x) f.items ∷ r3 in
    let one = past_row (not (has_frame_tag sha keys x f)) Refusal.BadFrameTag (Refusal.BadOpening v) (row (not (is_shown p x f)) Refusal.NoSuchView ∷ r2) (λ e. cc) h in
    let two = past_row (not (is_shown p x f)) Refusal.NoSuchView (Refusal.BadOpening v) r2 (λ e. cc) one.1 in
    let three = past_time 1 (own_time x) f.items v r3 two.1 in
    let four = past_map (λ n. Refusal.BadEvidence (n + 1)) evid (Refusal.BadOpening v) (open_ ∷ []) (λ n e. cc) three in
    record { shown = not-false (is_shown p x f) two.0; there = go wrong refl four }
  where
    go : (o : Option Opening) → find (λ o. not (is_right sha p.graph x f o)) f.openings ≡ o → first_some (option_map (λ (o : Opening). Refusal.BadOpening o.variable) o ∷ []) ≡ Some (Refusal.BadOpening v) → In (map (λ (o : Opening). o.variable) f.openings) v
    go None q e = absurd (let n : None ≡ Some (Refusal.BadOpening v) = e in cc)
    go (Some o) q e =
        let s : Some (Refusal.BadOpening o.variable) ≡ Some (Refusal.BadOpening v) = e in
        let same : o.variable ≡ v = cc in
        subst (In (map (λ (o : Opening). o.variable) f.openings)) same (in_map_found (λ o. not (is_right sha p.graph x f o)) f.openings o q)

in_all : (n x : ℕ) (xs : List ℕ) → AllByRecursion (λ y. y < n) xs → In xs x → x < n
in_all n x [] a i = absurd i
in_all n x (y ∷ ys) a (inl e) = subst (λ z. z < n) (sym e) a.0
in_all n x (y ∷ ys) a (inr i) = in_all n x ys a.1 i

-- ---- what is looked at last

-- no row holds, or only the last one
abbrev late : Option Refusal → Bool
late None = true
late (Some (Refusal.BadOpening v)) = true
late (Some other) = false

late_row : (b : Bool) (q : Refusal) (os : List (Option Refusal)) (o : Option Refusal) → late (Some q) ≡ false → late o ≡ true → first_some (row b q ∷ os) ≡ o → (b ≡ false) × (first_some os ≡ o)
late_row true q os o n h e = absurd (clash (late (Some q)) (ap late (let r : Some q ≡ o = e in r) ∙ h) n)
late_row false q os o n h e = (refl, e)

late_peer : (w : Option Name) (os : List (Option Refusal)) (o : Option Refusal) → late o ≡ true → first_some (option_map Refusal.UnknownPeer w ∷ os) ≡ o → first_some os ≡ o
late_peer None os o h e = e
late_peer (Some w) os o h e = absurd (clash (late (Some (Refusal.UnknownPeer w))) (ap late (let r : Some (Refusal.UnknownPeer w) ≡ o = e in r) ∙ h) refl)

text_hashed : (c : Cast) (o : Option Refusal) → late o ≡ true → In (option_map_or (λ (c : Cast). if nat_lt 4 (row_number o) then session_text_of c ∷ [] else []) (Some c) []) (session_text_of c)
text_hashed c None h = inl refl
text_hashed c (Some (Refusal.BadOpening v)) h = inl refl
text_hashed c (Some other) h = absurd (let z : false ≡ true = h in cc)

one_event : (e v : Event) → Contains (e ∷ []) v → v ≡ e
one_event e v i = go (in_from_Contains (e ∷ []) v i)
  where
    go : In (e ∷ []) v → v ≡ e
    go (inl q) = q
    go (inr q) = absurd q

module _ (sha : Hash) (n : Node) (programs : AllByRecursion (IsProgram sha) n.programs) where
  -- the session of a call is live, or begins, and then its text is hashed
  abbrev pub IsFrom : Call → Session → Type 0
  IsFrom c x = In n.live x ⊎ ((cast_in c ≡ Some x.cast) × (session_id sha x.cast ≡ x.sid) × In (notes sha n c).hashed (session_text_of x.cast))

  pub record NamesFrom (c : Call) (a : Answer) : Type 0 where
    pub is_named : IsNamed sha n c a
    pub there : In n.programs is_named.program
    pub is_from : IsFrom c is_named.session

  -- ---- a start

  start_named : (c : Cast) (a : Answer) → answer sha n (Start c) ≡ a → names_numbers a ≡ true → NamesFrom (Start c) a
  start_named c a full h = by_program (starter n.programs c.graph) refl full
    where
      by_rows : (p : Program) → starter n.programs c.graph ≡ Some p → (o : Option StartFault) → started (session_id sha c) p.role o ≡ a → NamesFrom (Start c) a
      by_rows p q (Some f) e = absurd (let z : false ≡ true = ap names_numbers e ∙ h in cc)
      by_rows p q None e =
          let is = starter_found n.programs c.graph p q in
          let ip : IsProgram sha p = rec_in (IsProgram sha) n.programs p programs is.there in
          subst (NamesFrom (Start c)) e record {
            is_named = record {
              program = p;
              session = new_session (session_id sha c) c p.role;
              is_session = ap (option_map (λ (p : Program). (p, new_session (session_id sha c) c p.role))) q;
              is_call = bytes_same (session_id sha c) (session_id sha c) refl;
              is_graph = sym is.digest_is;
              is_role = refl;
              named = ip.role;
              event = λ v i. let s = one_event (Started (session_id sha c) p.role) v i in (ap sid_of s, ap role_of s);
            };
            there = is.there;
            is_from = inr (refl, refl, subst (λ z. In (notes_of_start c z).hashed (session_text_of c)) (sym (full ∙ sym e)) (inl refl));
          }

      by_program : (o : Option Program) → starter n.programs c.graph ≡ o → option_map_or (λ (p : Program). started (session_id sha c) p.role (first_some (rows_of_start n p (session_id sha c) c))) o (NotStarted StartFault.UnknownGraph) ≡ a → NamesFrom (Start c) a
      by_program None q e = absurd (let z : false ≡ true = ap names_numbers e ∙ h in cc)
      by_program (Some p) q e = by_rows p q (first_some (rows_of_start n p (session_id sha c) c)) e

  -- ---- an act

  past_label : (b : Bool) (v : ℕ) (os : List (Option ActFault)) → first_some (option_map Send (row b SendFault.NoSuchLabel) ∷ os) ≡ Some (Send (BadValues v)) → first_some os ≡ Some (Send (BadValues v))
  past_label true v os e = absurd (let z : Some (Send SendFault.NoSuchLabel) ≡ Some (Send (BadValues v)) = e in cc)
  past_label false v os e = e

  bad_found : (o : Option ℕ) (b : Bool) (v : ℕ) → first_some (option_map Send (option_map BadValues o) ∷ option_map Send (row b SendFault.TimeSpent) ∷ []) ≡ Some (Send (BadValues v)) → o ≡ Some v
  bad_found None true v e = absurd (let z : Some (Send SendFault.TimeSpent) ≡ Some (Send (BadValues v)) = e in cc)
  bad_found None false v e = absurd (let z : None ≡ Some (Send (BadValues v)) = e in cc)
  bad_found (Some w) b v e = (let z : Some (Send (BadValues w)) ≡ Some (Send (BadValues v)) = e in let s : w ≡ v = cc in ap (λ y. Some y) s)

  act_named : (sid0 : List ℕ) (label : ℕ) (values : Map Value) (confs : List (List ℕ)) → AllByRecursion (λ k. k < 256) (keys_of values) → (a : Answer) → answer sha n (Act sid0 label values confs) ≡ a → names_numbers a ≡ true → NamesFrom (Act sid0 label values confs) a
  act_named sid0 label values confs good a full h = by_session (session_with n.live sid0) refl full
    where
      named_by : (x : Session) → session_with n.live sid0 ≡ Some x → (p : Program) → program_for n.programs x.cast.graph x.role ≡ Some p → (a : Answer) → HasNamed p.graph (Act sid0 label values confs) a → ((v : Event) → Contains (events_of_answer a) v → (sid_of v ≡ x.sid) × (role_of v ≡ x.role)) → NamesFrom (Act sid0 label values confs) a
      named_by x q p q2 a named event =
          let w : IsFor sha n.programs x.cast.graph x.role p = found_for sha n.programs programs x.cast.graph x.role p q2 in
          record {
            is_named = record {
              program = p;
              session = x;
              is_session = ap (option_and_then (λ (s : Session). option_map (λ (p : Program). (p, s)) (program_for n.programs s.cast.graph s.role))) q ∙ ap (option_map (λ (p : Program). (p, x))) q2;
              is_call = bytes_same sid0 x.sid (sym (same_bytes x.sid sid0 (find_passes (λ (z : Session). bytes_eq z.sid sid0) n.live x q)));
              is_graph = w.digest_is;
              is_role = w.role_is;
              named = named;
              event = event;
            };
            there = w.there;
            is_from = inl (found_in (λ (z : Session). bytes_eq z.sid sid0) n.live x q);
          }

      by_rows : (x : Session) → session_with n.live sid0 ≡ Some x → (p : Program) → program_for n.programs x.cast.graph x.role ≡ Some p → (o : Option ActFault) → first_some (rows_of_act p x label values) ≡ o → acted (sent sha n.keys p x label values confs) o ≡ a → NamesFrom (Act sid0 label values confs) a
      by_rows x q p q2 None q3 e =
          let w : IsFor sha n.programs x.cast.graph x.role p = found_for sha n.programs programs x.cast.graph x.role p q2 in
          let ip : IsProgram sha p = w.is_program in
          let rs : C.ActRows p.graph x label values = C.act_rows p x label values q3 in
          let r : x.role < length p.graph.roles = subst (λ z. z < length p.graph.roles) (sym w.role_is) ip.role in
          let ks : AllByRecursion (λ y. y < length p.graph.variables) (keys_of values) = subst (AllByRecursion (λ y. y < length p.graph.variables)) (sym (keys_are p.graph ip.is_graph label values good rs.good)) (writes_below p.graph ip.is_graph label) in
          subst (NamesFrom (Act sid0 label values confs)) e
          (named_by x q p q2 (sent sha n.keys p x label values confs) (r, lt_of label (length p.graph.edges) rs.edge, ks) (λ v i. let s = one_event (Sent x.sid x.role label (time x + 1) values) v i in (ap sid_of s, ap role_of s)))
      by_rows x q p q2 (Some (Send (BadValues v))) q3 e =
          let ip : IsProgram sha p = (found_for sha n.programs programs x.cast.graph x.role p q2).is_program in
          let spent : Bool = nat_le 1000000 (time x) in
          let bad : Option ℕ = find (is_bad p.graph label values) (below 256) in
          let rest : List (Option ActFault) = option_map Send (option_map BadValues bad) ∷ option_map Send (row spent SendFault.TimeSpent) ∷ [] in
          let one = past_row (not (at_turn p.graph x)) ActFault.NotYourTurn (Send (BadValues v)) (option_map Send (row (not (leaves p.graph x label)) SendFault.NoSuchLabel) ∷ rest) (λ e. cc) q3 in
          let two : first_some rest ≡ Some (Send (BadValues v)) = past_label (not (leaves p.graph x label)) v rest one.1 in
          let three : bad ≡ Some v = bad_found bad spent v two in
          subst (NamesFrom (Act sid0 label values confs)) e
          (named_by x q p q2 (NotActed (Send (BadValues v))) (bad_named p.graph label values v (writes_below p.graph ip.is_graph label) (find_passes (is_bad p.graph label values) (below 256) v three)) (λ v i. absurd (in_from_Contains [] v i)))
      by_rows x q p q2 (Some (Send SendFault.NoSuchLabel)) q3 e = absurd (let z : false ≡ true = ap names_numbers e ∙ h in cc)
      by_rows x q p q2 (Some (Send SendFault.TimeSpent)) q3 e = absurd (let z : false ≡ true = ap names_numbers e ∙ h in cc)
      by_rows x q p q2 (Some ActFault.UnknownSession) q3 e = absurd (let z : false ≡ true = ap names_numbers e ∙ h in cc)
      by_rows x q p q2 (Some ActFault.NotYourTurn) q3 e = absurd (let z : false ≡ true = ap names_numbers e ∙ h in cc)

      by_program : (x : Session) → session_with n.live sid0 ≡ Some x → (o : Option Program) → program_for n.programs x.cast.graph x.role ≡ o → option_map_or (λ p. acted (sent sha n.keys p x label values confs) (first_some (rows_of_act p x label values))) o (NotActed ActFault.UnknownSession) ≡ a → NamesFrom (Act sid0 label values confs) a
      by_program x q None q2 e = absurd (let z : false ≡ true = ap names_numbers e ∙ h in cc)
      by_program x q (Some p) q2 e = by_rows x q p q2 (first_some (rows_of_act p x label values)) refl e

      by_session : (o : Option Session) → session_with n.live sid0 ≡ o → option_map_or (λ x. option_map_or (λ p. acted (sent sha n.keys p x label values confs) (first_some (rows_of_act p x label values))) (program_for n.programs x.cast.graph x.role) (NotActed ActFault.UnknownSession)) o (NotActed ActFault.UnknownSession) ≡ a → NamesFrom (Act sid0 label values confs) a
      by_session None q e = absurd (let z : false ≡ true = ap names_numbers e ∙ h in cc)
      by_session (Some x) q e = by_program x q (program_for n.programs x.cast.graph x.role) refl e

  abandon_named : (sid0 : List ℕ) (a : Answer) → answer sha n (Abandon sid0) ≡ a → names_numbers a ≡ true → NamesFrom (Abandon sid0) a
  abandon_named sid0 a full h = go (session_with n.live sid0) full
    where
      go : (o : Option Session) → option_map_or (λ (x : Session). Abandoned) o NotAbandoned ≡ a → NamesFrom (Abandon sid0) a
      go None e = absurd (let z : false ≡ true = ap names_numbers e ∙ h in cc)
      go (Some x) e = absurd (let z : false ≡ true = ap names_numbers e ∙ h in cc)

  -- ---- a delivery

  -- the session that a frame is for, and what is looked at in it
  record ForFrame (bs : List ℕ) (f : Frame) (o : Option Refusal) : Type 0 where
    p : Program
    x : Session
    found : session_of_frame n f ≡ Some (p, x)
    its : IsFor sha n.programs x.cast.graph x.role p
    receiver : f.receiver ≡ x.role
    sid : f.sid ≡ x.sid
    its_from : IsFrom (Deliver bs) x
    looked : first_some (rows_of_session sha n.keys p x f) ≡ o

  abbrev frame_session : Frame → Option Session → Option (Program × Session)
  frame_session f o = option_and_then (λ (s : Session). option_map (λ (p : Program). (p, s)) (program_for n.programs s.cast.graph s.role)) o

  for_next : (bs : List ℕ) (f : Frame) (o : Option Refusal) → late o ≡ true → f.join ≡ None → first_some (next_rows sha n f) ≡ o → ForFrame bs f o
  for_next bs f o h j e = by_session (session_for n.live f) refl e
    where
      by_program : (x : Session) → session_for n.live f ≡ Some x → (m : Option Program) → program_for n.programs x.cast.graph x.role ≡ m → first_some (option_map_or (rows_of_next sha n f x) m (Some Refusal.UnknownSession ∷ [])) ≡ o → ForFrame bs f o
      by_program x q None q2 e = absurd (clash (late (Some Refusal.UnknownSession)) (ap late (let r : Some Refusal.UnknownSession ≡ o = e in r) ∙ h) refl)
      by_program x q (Some p) q2 e =
          let b = and_parts (bytes_eq x.sid f.sid && (x.role == f.receiver)) (x.cast.version == f.version) (find_passes (is_for f) n.live x q) in
          let b' = and_parts (bytes_eq x.sid f.sid) (x.role == f.receiver) b.0 in
          let one = late_row (at_turn p.graph x) Refusal.NotWaiting (rows_of_session sha n.keys p x f) o refl h e in
          record {
            p = p;
            x = x;
            found = ap (λ m. frame_session f (option_map_or (λ (c : Cast). Some (new_session f.sid c f.receiver)) m (session_for n.live f))) j ∙ ap (frame_session f) q ∙ ap (option_map (λ (p : Program). (p, x))) q2;
            its = found_for sha n.programs programs x.cast.graph x.role p q2;
            receiver = sym (eqb-true x.role f.receiver b'.1);
            sid = sym (same_bytes x.sid f.sid b'.0);
            its_from = inl (found_in (is_for f) n.live x q);
            looked = one.1;
          }

      by_session : (m : Option Session) → session_for n.live f ≡ m → first_some (option_map_or (λ s. option_map_or (rows_of_next sha n f s) (program_for n.programs s.cast.graph s.role) (Some Refusal.UnknownSession ∷ [])) m (Some Refusal.UnknownSession ∷ [])) ≡ o → ForFrame bs f o
      by_session None q e = absurd (clash (late (Some Refusal.UnknownSession)) (ap late (let r : Some Refusal.UnknownSession ≡ o = e in r) ∙ h) refl)
      by_session (Some x) q e = by_program x q (program_for n.programs x.cast.graph x.role) refl e

  for_join : (bs : List ℕ) (f : Frame) → read bs ≡ Ok f → (o : Option Refusal) → late o ≡ true → first_some (rows sha n f) ≡ o → (c : Cast) → f.join ≡ Some c → first_some (join_rows sha n f c) ≡ o → ForFrame bs f o
  for_join bs f rd o h all c j e = by_program (program_for n.programs c.graph f.receiver) refl e
    where
      by_program : (m : Option Program) → program_for n.programs c.graph f.receiver ≡ m → first_some (option_map_or (rows_of_join sha n f c) m (Some Refusal.UnknownGraph ∷ [])) ≡ o → ForFrame bs f o
      by_program None q e = absurd (clash (late (Some Refusal.UnknownGraph)) (ap late (let r : Some Refusal.UnknownGraph ≡ o = e in r) ∙ h) refl)
      by_program (Some p) q e =
          let x : Session = new_session f.sid c f.receiver in
          let later : List (Option Refusal) = rows_of_session sha n.keys p x f in
          let full : Option Refusal = row (nat_le 4096 (length n.live)) Refusal.SessionsFull in
          let cache : Option Refusal = row (nat_le 65536 (length n.joins)) Refusal.CacheFull in
          let twice : Option Refusal = row (has_joined n.joins f.sid f.receiver) Refusal.Joined in
          let other : Option Refusal = row (not (bytes_eq f.sid (session_id sha c))) Refusal.BadSession in
          let peer : Option Refusal = option_map Refusal.UnknownPeer (stranger n.keys c) in
          let one = late_row (not (is_cast n.keys p.graph c f.receiver && nat_lt f.sender (length c.names))) Refusal.BadCast (peer ∷ other ∷ twice ∷ cache ∷ full ∷ later) o refl h e in
          let two = late_peer (stranger n.keys c) (other ∷ twice ∷ cache ∷ full ∷ later) o h one.1 in
          let three = late_row (not (bytes_eq f.sid (session_id sha c))) Refusal.BadSession (twice ∷ cache ∷ full ∷ later) o refl h two in
          let four = late_row (has_joined n.joins f.sid f.receiver) Refusal.Joined (cache ∷ full ∷ later) o refl h three.1 in
          let five = late_row (nat_le 65536 (length n.joins)) Refusal.CacheFull (full ∷ later) o refl h four.1 in
          let six = late_row (nat_le 4096 (length n.live)) Refusal.SessionsFull later o refl h five.1 in
          let text : In (notes_of_read sha n (Ok f)).hashed (session_text_of c) = in_left (hashed_of_join f (row_number (first_some (rows sha n f)))) _ (session_text_of c)
          (subst (λ o. In (hashed_of_join f (row_number o)) (session_text_of c)) (sym all) (subst (λ m. In (option_map_or (λ (c : Cast). if nat_lt 4 (row_number o) then session_text_of c ∷ [] else []) m []) (session_text_of c)) (sym j) (text_hashed c o h))) in
          record {
            p = p;
            x = x;
            found = ap (λ m. frame_session f (option_map_or (λ (c : Cast). Some (new_session f.sid c f.receiver)) m (session_for n.live f))) j ∙ ap (option_map (λ (p : Program). (p, x))) q;
            its = found_for sha n.programs programs c.graph f.receiver p q;
            receiver = refl;
            sid = refl;
            its_from = inr (ap (λ r. option_and_then (λ (f : Frame). f.join) (result_ok r)) rd ∙ j, sym (same_bytes f.sid (session_id sha c) (not-false (bytes_eq f.sid (session_id sha c)) three.0)), subst (λ r. In (notes_of_read sha n r).hashed (session_text_of c)) (sym rd) text);
            looked = six.1;
          }

  for_frame : (bs : List ℕ) (f : Frame) → read bs ≡ Ok f → (o : Option Refusal) → late o ≡ true → first_some (rows sha n f) ≡ o → ForFrame bs f o
  for_frame bs f rd o h e = go f.join refl
    where
      go : (m : Option Cast) → f.join ≡ m → ForFrame bs f o
      go None j = for_next bs f o h j (sym (ap (λ o. first_some (option_map_or (join_rows sha n f) o (next_rows sha n f))) j) ∙ e)
      go (Some c) j = for_join bs f rd o h e c j (sym (ap (λ o. first_some (option_map_or (join_rows sha n f) o (next_rows sha n f))) j) ∙ e)

  reads_below : (p : Program) → IsProgram sha p → (o : Option ℕ) → AllByRecursion (λ x. x < length p.graph.variables) (option_map_or (reads p.graph) o [])
  reads_below p ip None = tt
  reads_below p ip (Some e) = (reads_in (length p.graph.variables) p.graph.edges ip.is_graph.variables e).1

  deliver_named : (bs : List ℕ) (a : Answer) → answer sha n (Deliver bs) ≡ a → names_numbers a ≡ true → NamesFrom (Deliver bs) a
  deliver_named bs a full h = by_read (read bs) refl full
    where
      named_by : (f : Frame) → read bs ≡ Ok f → (o : Option Refusal) (t : ForFrame bs f o) (a : Answer) → HasNamed t.p.graph (Deliver bs) a → ((v : Event) → Contains (events_of_answer a) v → (sid_of v ≡ t.x.sid) × (role_of v ≡ t.x.role)) → NamesFrom (Deliver bs) a
      named_by f rd o t a named event = record {
        is_named = record {
          program = t.p;
          session = t.x;
          is_session = ap (λ r. option_and_then (session_of_frame n) (result_ok r)) rd ∙ t.found;
          is_call = ap (is_frame_of t.x.sid) rd ∙ bytes_same f.sid t.x.sid t.sid;
          is_graph = t.its.digest_is;
          is_role = t.its.role_is;
          named = named;
          event = event;
        };
        there = t.its.there;
        is_from = t.its_from;
      }

      event_named : (f : Frame) (t : ForFrame bs f None) → HasNamed t.p.graph (Deliver bs) (Happened (receipt f))
      event_named f t =
          let ip : IsProgram sha t.p = t.its.is_program in
          let rs : Rows sha n.keys t.p t.x f = rows_of sha n.keys t.p t.x f t.looked in
          let v : View = record { origin = origin t.x; items = map seen f.items } in
          let vars : AllByRecursion (λ y. y < length t.p.graph.variables) (map (λ (o : Opening). o.variable) f.openings) = subst (AllByRecursion (λ y. y < length t.p.graph.variables)) (sym (same_bytes _ _ rs.variables)) (reads_below t.p ip (last_label f.items)) in (
            subst (λ z. z < length t.p.graph.roles) (sym (t.receiver ∙ t.its.role_is)) ip.role,
            by_last (last f.items) refl rs.by_sender,
            subst (AllByRecursion (λ y. y < length t.p.graph.variables)) (sym (keys_of_openings f.openings)) vars,
          )
        where
          by_last : (o : Option Item) → last f.items ≡ o → option_map_or (λ (i : Item). i.role == f.sender) o false ≡ true → unwrap_or (last_label f.items) 0 < length t.p.graph.edges
          by_last None q e = absurd (let z : false ≡ true = e in cc)
          by_last (Some i) q e =
              let rs : Rows sha n.keys t.p t.x f = rows_of sha n.keys t.p t.x f t.looked in
              let v : View = record { origin = origin t.x; items = map seen f.items } in
              let lt : i.label < length t.p.graph.edges = view_last_edge t.p.graph t.p.role v ((t.its.is_program.views.each v).0 (has_view-Contains t.p.views v rs.viewed)) f.items i refl q in
              subst (λ o. unwrap_or (option_map (λ (i : Item). i.label) o) 0 < length t.p.graph.edges) (sym q) lt

      by_rows : (f : Frame) → read bs ≡ Ok f → (o : Option Refusal) → first_some (rows sha n f) ≡ o → decided (receipt f) o ≡ a → NamesFrom (Deliver bs) a
      by_rows f rd None q e =
          let t : ForFrame bs f None = for_frame bs f rd None refl q in
          subst (NamesFrom (Deliver bs)) e (named_by f rd None t (Happened (receipt f)) (event_named f t) (λ v i. let s = one_event (receipt f) v i in (ap sid_of s ∙ t.sid, ap role_of s ∙ t.receiver)))
      by_rows f rd (Some (Refusal.BadOpening v)) q e =
          let t : ForFrame bs f (Some (Refusal.BadOpening v)) = for_frame bs f rd (Some (Refusal.BadOpening v)) refl q in
          let u : Unopened t.p t.x f v = unopened sha n.keys t.p t.x f v t.looked in
          let vars : map (λ (o : Opening). o.variable) f.openings ≡ option_map_or (reads t.p.graph) (last_label f.items) [] = same_bytes _ _ (and_parts _ (bytes_eq (map (λ (o : Opening). o.variable) f.openings) (option_map_or (reads t.p.graph) (last_label f.items) [])) u.shown).1 in
          subst (NamesFrom (Deliver bs)) e
          (named_by f rd (Some (Refusal.BadOpening v)) t (NotDelivered (Refusal.BadOpening v)) (in_all (length t.p.graph.variables) v (map (λ (o : Opening). o.variable) f.openings) (subst (AllByRecursion (λ y. y < length t.p.graph.variables)) (sym vars) (reads_below t.p t.its.is_program (last_label f.items))) u.there)
          (λ v i. absurd (in_from_Contains [] v i)))
      by_rows f rd (Some other) q e = absurd (let z : false ≡ true = ap names_numbers e ∙ h in cc)

      by_read : (r : Result Frame ℕ) → read bs ≡ r → verdict_on sha n r ≡ a → NamesFrom (Deliver bs) a
      by_read (Err at) q e = absurd (let z : false ≡ true = ap names_numbers e ∙ h in cc)
      by_read (Ok f) q e = by_rows f q (first_some (rows sha n f)) refl e

  pub call_named : (c : Call) → GivesVariables c → (a : Answer) → answer sha n c ≡ a → names_numbers a ≡ true → NamesFrom c a
  call_named (Start c) r a e h = start_named c a e h
  call_named (Act sid0 label values confs) r a e h = act_named sid0 label values confs r a e h
  call_named (Abandon sid0) r a e h = abandon_named sid0 a e h
  call_named (Deliver bs) r a e h = deliver_named bs a e h

pub answers_are_named : (sha : Hash) → AnswersAreNamed sha
answers_are_named sha n c programs r h = (call_named sha n (recursion_from_All (IsProgram sha) n.programs programs) c r (answer sha n c) refl h).is_named
