-- A frame that a session takes is what the law lets its role take.
use Rattle.std.specs.Prelude.{◌≡◌, ◌≢◌, ℕ, ◌+◌, ◌<◌, ◌==◌, true, false, not, List, [], ◌∷◌, ◌++◌, map, length, find, position, bytes_eq, refl, Option, Some, None, option_map, unwrap_or, IfSome}
use Rattle.std.specs.List.{list_all, AllByRecursion}
use Rattle.std.specs.Option.{option_map_or}
use Rattle.std.proofs.Common.{sym, ◌∙◌, ap, subst, inl, arith, append_assoc, append-nil}
use Rattle.std.proofs.lemmas.Bool.{eqb-true, eq-eqb, and_parts, not-false}
use Rattle.std.proofs.lemmas.List.{map-append}
use Rattle.sg_model.specs.Last.{Map, has, last, last_or, last_of, after_last, up_to_last}
use Rattle.sg_model.specs.Lists.{first_some, same_text}
use Rattle.sg_model.specs.Shape.{Shape, role_at, end_of, target, sender, receiver}
use Rattle.sg_model.specs.Values.{Opening, Code}
use Rattle.sg_model.specs.Names.{Name}
use Rattle.sg_protocol.specs.Graph.{Graph, IsGraph, shape, reads}
use Rattle.sg_protocol.specs.Evidence.{Seen, View, IsView, IsViewTable, has_view}
use Rattle.sg_protocol.specs.Frame.{Cast, Item, Frame, IsItem}
use Rattle.sg_protocol.specs.Spelling.{HasSpelling}
use Rattle.sg_model.specs.Bytes.{AreBytes}
use Rattle.sg_model.proofs.Small.{same_bytes, none_parts, range_at, map_none}
use Rattle.sg_model.proofs.Members.{In, in_left, in_right, in_map}
use Rattle.sg_protocol.specs.Texts.{Hash, commitment, item_text_of}
use Rattle.sg_protocol.specs.TextLaws.{IsVersion}
use Rattle.sg_protocol.specs.Keyring.{Keyring, Program}
use Rattle.sg_protocol.specs.Session.{Session, Took, principal, items_of, transcript, own_part, own_time, time, origin, place, at_turn, last_label, committed, commitments, extended}
use Rattle.sg_protocol.specs.Checks.{shown_commitments, checked_texts, texts_checked}
use Rattle.sg_protocol.specs.Sending.{text_of, text_to}
use Rattle.sg_protocol.specs.Calls.{Refusal, BadFrameTag, NoSuchView, BadEvidence, BadOpening}
use Rattle.sg_protocol.specs.Verdict.{row, rows_of_session, has_frame_tag, is_shown, bad_time, has_item_tag, has_kind, is_right, has_right_tags, seen}
use Rattle.sg_protocol.specs.Notes.{Note, note_of, notes_in_session}
use Rattle.sg_protocol.specs.Walk.{is_typed_or_hidden}
use Rattle.sg_protocol.specs.Schedule.{Schedule, is_honest, honest_role}
use Rattle.sg_law.specs.Last as B
use Rattle.sg_law.specs.Accept.{sender_of, TimedLabel}
use Rattle.sg_law.specs.Run.{RisesFrom}
use Rattle.sg_law.specs.Run as R
use Rattle.sg_law.specs.Values as V
use Rattle.sg_law.specs.Values.{State, transcript_with_item, com_of, Commit, moved, MayTake, Tagged, Framed, Opened, own_part_of}
use Rattle.sg_law.specs.Values.Move.{Takes}
use Rattle.sg_law.proofs.Lists.{has-map, has-last_of, eqb_same, last-append_some}
use Rattle.sg_law.proofs.Upto.{upto-more}
use Rattle.sg_law.proofs.Cut.{last-option_map}
use Rattle.sg_law.proofs.Times.{time_after-last}
use Rattle.sg_protocol.proofs.Paths.{flat_map-append}
use Rattle.sg_protocol.proofs.Bridge.{labels-view_of, has_view-Contains}
use Rattle.sg_protocol.proofs.Entries.{entry, entries, entries-com, by, Roles, has-entries, up_to-entries, sight, view_ends, view_last_edge, seen_labels, has-after_last}
use Rattle.sg_protocol.proofs.Moves.{step, FitItems, MadeItem, MadeFrame, NoteOk, Matches, row_none, no_position, take_all, no_find, note_text, note_both, fit-append, fit-left, roles-append, fit_up_to, are_held, Split, split, checked_in, rising_times, writes_below, variable_below, sender_last}

-- what the rows of a session say if none holds
pub record Rows (sha : Hash) (keys : Keyring) (p : Program) (x : Session) (f : Frame) : Type 0 where
  pub viewed : has_view p.views (record { origin = origin x; items = map seen f.items }) ≡ true
  pub senders : list_all (λ (i : Item). i.role == sender (shape p.graph) i.label) f.items ≡ true
  pub by_sender : option_map_or (λ (i : Item). i.role == f.sender) (last f.items) false ≡ true
  pub variables : bytes_eq (map (λ (o : Opening). o.variable) f.openings) (option_map_or (reads p.graph) (last_label f.items) []) ≡ true
  pub times : bad_time 1 (own_time x) f.items ≡ None
  pub tags : list_all (has_item_tag sha keys x) (texts_checked p.graph x f) ≡ true
  pub openings : list_all (is_right sha p.graph x f) f.openings ≡ true

pub rows_of : (sha : Hash) (keys : Keyring) (p : Program) (x : Session) (f : Frame) → first_some (rows_of_session sha keys p x f) ≡ None → Rows sha keys p x f
rows_of sha keys p x f h =
    let evid : Option Refusal = option_map (λ n. BadEvidence (n + 1)) (position (λ c. not (has_item_tag sha keys x c)) (texts_checked p.graph x f)) in
    let open_ : Option Refusal = option_map (λ o. BadOpening o.variable) (find (λ o. not (is_right sha p.graph x f o)) f.openings) in
    let one : (row (not (has_frame_tag sha keys x f)) BadFrameTag ≡ None) × (first_some (row (not (is_shown p x f)) NoSuchView ∷ bad_time 1 (own_time x) f.items ∷ evid ∷ open_ ∷ []) ≡ None) = none_parts _ _ h in
    let two : (row (not (is_shown p x f)) NoSuchView ≡ None) × (first_some (bad_time 1 (own_time x) f.items ∷ evid ∷ open_ ∷ []) ≡ None) = none_parts _ _ one.1 in
    let three : (bad_time 1 (own_time x) f.items ≡ None) × (first_some (evid ∷ open_ ∷ []) ≡ None) = none_parts _ _ two.1 in
    let four : (evid ≡ None) × (first_some (open_ ∷ []) ≡ None) = none_parts _ _ three.1 in
    let five : (open_ ≡ None) × (first_some {A = Refusal} [] ≡ None) = none_parts _ _ four.1 in
    let shown : is_shown p x f ≡ true = not-false (is_shown p x f) (row_none _ _ two.0) in
    let a = and_parts _ (bytes_eq (map (λ (o : Opening). o.variable) f.openings) (option_map_or (reads p.graph) (last_label f.items) [])) shown in
    let b = and_parts _ (has_right_tags p f.items) a.0 in
    let c = and_parts _ (option_map_or (λ (i : Item). i.role == f.sender) (last f.items) false) b.0 in
    let d = and_parts (has_view p.views (record { origin = origin x; items = map seen f.items })) (list_all (λ (i : Item). i.role == sender (shape p.graph) i.label) f.items) c.0 in
    record {
      viewed = d.0;
      senders = d.1;
      by_sender = c.1;
      variables = a.1;
      times = three.0;
      tags = no_position (has_item_tag sha keys x) (texts_checked p.graph x f) (map_none _ _ four.0);
      openings = no_find (is_right sha p.graph x f) f.openings (map_none _ _ five.0);
    }

pub all_roles : (g : Shape) (is : List Item) → list_all (λ (i : Item). i.role == sender g i.label) is ≡ true → Roles g is
all_roles g [] h = tt
all_roles g (i ∷ is) h = let ps = and_parts (i.role == sender g i.label) (list_all (λ (i : Item). i.role == sender g i.label) is) h in (eqb-true i.role (sender g i.label) ps.0, all_roles g is ps.1)

roles_mid : (g : Shape) (a : List Item) (i : Item) (b : List Item) → Roles g (a ++ i ∷ b) → i.role ≡ sender g i.label
roles_mid g [] i b r = r.0
roles_mid g (x ∷ a) i b r = roles_mid g a i b r.1

items_mid : (v : ℕ) (a : List Item) (i : Item) (b : List Item) → AllByRecursion (IsItem v) (a ++ i ∷ b) → IsItem v i
items_mid v [] i b r = r.0
items_mid v (x ∷ a) i b r = items_mid v a i b r.1

items_fit : (v : ℕ) (is : List Item) → AllByRecursion (IsItem v) is → FitItems is
items_fit v [] h = tt
items_fit v (i ∷ is) h = (go i.delta h.0.delta, items_fit v is h.1)
  where
    go : (m : Map (List ℕ)) → AllByRecursion (λ (d : ℕ × List ℕ). (d.0 < 32) × AreBytes 32 d.1) m → AllByRecursion (λ (d : ℕ × List ℕ). length d.1 ≡ 32) m
    go [] k = tt
    go (d ∷ m) k = (k.0.1.0, go m k.1)

pub same_some : (o : Option (List ℕ)) (t : List ℕ) → same_text o t ≡ true → o ≡ Some t
same_some None t h = absurd (cc)
same_some (Some u) t h = ap (λ z. Some z) (same_bytes u t h)

module _ (sha : Hash) (s : Schedule) (sid : List ℕ) (cast : Cast) (keys : Keyring) (p : Program) (x : Session) (f : Frame) (st : State) (who : Name)
    (is : IsGraph p.graph) (m : Matches p.graph sid cast st who x) (me : keys.me ≡ who) (hon : is_honest s who ≡ true) (views : IsViewTable p.graph x.role p.views) (version : IsVersion cast.version) (long : length sid ≡ 32)
    (wait : at_turn p.graph x ≡ false) (spelled : HasSpelling f) (its_sid : f.sid ≡ sid) (its_role : f.receiver ≡ x.role) (rows : Rows sha keys p x f)
    (found : (n : Note) → In (notes_in_session sha keys p x f 16).found n → is_honest s n.one ≡ true → is_honest s n.two ≡ true → NoteOk p.graph sid st.log n) where
  abbrev g : Graph
  g = p.graph

  abbrev pub commit : Commit
  commit o = commitment sha sid o

  abbrev viewed : IsView g x.role (record { origin = origin x; items = map seen f.items })
  viewed = (views.each (record { origin = origin x; items = map seen f.items })).0 (has_view-Contains p.views (record { origin = origin x; items = map seen f.items }) rows.viewed)

  abbrev pub n : ℕ
  n = end_of (shape g) 0 viewed.walk

  pub last_item : (i : Item) × (last f.items ≡ Some i) × (i.role ≡ f.sender)
  last_item = sender_last f rows.by_sender

  f_roles : Roles (shape g) f.items
  f_roles = all_roles (shape g) f.items rows.senders

  f_fits : FitItems f.items
  f_fits = items_fit f.version f.items spelled.fields.items

  own_part_same : own_part_of (shape g) st x.role ≡ entries (own_part x)
  own_part_same = ap (up_to_last (by (shape g)) x.role) m.is_transcript ∙ up_to-entries (shape g) x.role (transcript x) m.roles

  own_part_fits : FitItems (own_part x)
  own_part_fits = fit_up_to x.role (transcript x) m.fits

  honest_role_is : honest_role s cast x.role ≡ true
  honest_role_is = ap (is_honest s) m.is_who ∙ hon

  own_label : (o : Option Item) → option_map (λ (i : Item). i.label) o ≡ option_map (λ (t : TimedLabel). t.label) (option_map step o)
  own_label None = refl
  own_label (Some i) = refl

  -- its origin is the label of the law's own last step
  pub law_origin : origin x ≡ option_map (λ (t : TimedLabel). t.label) (st.machine.at x.role).own
  law_origin = own_label (last (own_part x)) ∙ ap (option_map (λ (t : TimedLabel). t.label)) (sym m.is_own)

  -- what it is shown, from the law's own last step on
  pub law_view : IsView g x.role (record { origin = option_map (λ (t : TimedLabel). t.label) (st.machine.at x.role).own; items = map seen f.items })
  law_view = subst (λ o. IsView g x.role (record { origin = o; items = map seen f.items })) law_origin viewed

  own_times : (o : Option Item) → unwrap_or (option_map (λ (i : Item). i.time) o) 0 ≡ R.time_of_own (option_map step o)
  own_times None = refl
  own_times (Some i) = refl

  -- the tag of an item
  texts_found : (c : Item × List ℕ) → In (texts_checked g x f) c → is_honest s (principal x.cast (c.0).role) ≡ true → NoteOk g sid st.log (note_of keys.me (principal x.cast (c.0).role) c.1)
  texts_found c i h =
      let note : Note = note_of keys.me (principal x.cast (c.0).role) c.1 in
      let both = note_both (λ z. is_honest s z ≡ true) keys.me (principal x.cast (c.0).role) c.1 (ap (is_honest s) me ∙ hon) h in
      found note (in_right (note_of keys.me (principal x.cast f.sender) (text_of f) ∷ []) _ note (subst (λ l. In (map (λ (c : Item × List ℕ). note_of keys.me (principal x.cast (c.0).role) c.1) l) note) (sym (take_all (has_item_tag sha keys x) (texts_checked g x f) rows.tags))
      (in_map (λ (c : Item × List ℕ). note_of keys.me (principal x.cast (c.0).role) c.1) (texts_checked g x f) c i))) both.0 both.1

  tagged : (a : List Item) (i j : Item) (b : List Item) → f.items ≡ a ++ i ∷ j ∷ b → honest_role s cast (sender (shape g) i.label) ≡ true → MadeItem g st.log i.label i.time (commitments g ((own_part x ++ a) ++ i ∷ []))
  tagged a i j b e h =
      let role : i.role ≡ sender (shape g) i.label = roles_mid (shape g) a i (j ∷ b) (subst (Roles (shape g)) e f_roles) in
      let it : IsItem f.version i = items_mid f.version a i (j ∷ b) (subst (AllByRecursion (IsItem f.version)) e spelled.fields.items) in
      let fits : FitItems ((own_part x ++ a) ++ i ∷ []) = subst FitItems (sym (append_assoc (own_part x) a (i ∷ []))) (fit-append (own_part x) (a ++ i ∷ []) own_part_fits (fit-left (a ++ i ∷ []) (j ∷ b) (subst FitItems (e ∙ sym (append_assoc a (i ∷ []) (j ∷ b))) f_fits))) in
      let t : List ℕ = text_to g x (own_part x ++ a) i x.role in
      let hon' : is_honest s (principal x.cast i.role) ≡ true = ap (λ c. is_honest s (principal c i.role)) m.same_cast ∙ ap (honest_role s cast) role ∙ h in
      let ok = texts_found (i, t) (subst (λ l. In (checked_texts g x (own_part x) l) (i, t)) (sym e) (checked_in g x (own_part x) a i j b)) hon' in
      ok.item x.cast.version i.role x.role i.label i.time (commitments g ((own_part x ++ a) ++ i ∷ []))
      (record { version = subst (λ (c : Cast). IsVersion c.version) (sym m.same_cast) version; sid = long; label = (let l = it.label in omega arith); time = (let l = it.time.1 in omega arith); held = are_held g ((own_part x ++ a) ++ i ∷ []) fits })
      (note_text keys.me (principal x.cast i.role) t ∙ ap (λ z. item_text_of x.cast.version z i.role x.role i.label i.time (commitments g ((own_part x ++ a) ++ i ∷ []))) m.same_sid)

  law_tag : (a b : List (B.Entry TimedLabel Code)) (i j : B.Entry TimedLabel Code) → entries f.items ≡ a ++ i ∷ j ∷ b → honest_role s cast (sender (shape g) i.step.label) ≡ true → Tagged (shape g) st.log (own_part_of (shape g) st x.role ++ (a ++ i ∷ [])) i
  law_tag a b i j e h = go (split f.items a i (j ∷ b) e)
    where
      go : Split f.items a i (j ∷ b) → Tagged (shape g) st.log (own_part_of (shape g) st x.role ++ (a ++ i ∷ [])) i
      go r = more r.rest r.same_rest r.parts
        where
          more : (rest : List Item) → j ∷ b ≡ entries rest → f.items ≡ r.prefix ++ r.mid ∷ rest → Tagged (shape g) st.log (own_part_of (shape g) st x.role ++ (a ++ i ∷ [])) i
          more [] q w = absurd (cc)
          more (j' ∷ b') q w =
              let t = tagged r.prefix r.mid j' b' w (ap (λ (z : B.Entry TimedLabel Code). honest_role s cast (sender (shape g) z.step.label)) (sym r.same_mid) ∙ h) in
              let whole_list : own_part_of (shape g) st x.role ++ (a ++ i ∷ []) ≡ entries ((own_part x ++ r.prefix) ++ r.mid ∷ []) =
              ap (λ l. l ++ (a ++ i ∷ [])) own_part_same ∙ ap (λ l. entries (own_part x) ++ (l ++ i ∷ [])) r.same_prefix ∙ ap (λ z. entries (own_part x) ++ (entries r.prefix ++ z ∷ [])) r.same_mid
              ∙ ap (λ l. entries (own_part x) ++ l) (sym (map-append entry r.prefix (r.mid ∷ []))) ∙ sym (map-append entry (own_part x) (r.prefix ++ r.mid ∷ [])) ∙ ap entries (sym (append_assoc (own_part x) r.prefix (r.mid ∷ []))) in
              record {
                made = t.made;
                there = t.there;
                same = t.same ∙ ap V.step_of (sym r.same_mid);
                held = λ y var. sym (range_at (λ z. committed z ((own_part x ++ r.prefix) ++ r.mid ∷ [])) (λ z. com_of (transcript_with_item t.made) z) 0 (length g.variables) t.is_held y (omega arith) (let l = variable_below g is y var in omega arith))
                    ∙ sym (entries-com ((own_part x ++ r.prefix) ++ r.mid ∷ []) y) ∙ ap (λ l. com_of l y) (sym whole_list);
              }

  frame_made : honest_role s cast f.sender ≡ true → MadeFrame g st.log f
  frame_made h =
      let note : Note = note_of keys.me (principal x.cast f.sender) (text_of f) in
      let hon' : is_honest s (principal x.cast f.sender) ≡ true = ap (λ c. is_honest s (principal c f.sender)) m.same_cast ∙ h in
      let both = note_both (λ z. is_honest s z ≡ true) keys.me (principal x.cast f.sender) (text_of f) (ap (is_honest s) me ∙ hon) hon' in
      let ok = found note (in_left (note ∷ []) _ note (inl refl)) both.0 both.1 in
      ok.frame f.version f spelled its_sid (note_text keys.me (principal x.cast f.sender) (text_of f))

  law_frame : IfSome (last (entries f.items)) (λ (i : B.Entry TimedLabel Code). honest_role s cast (sender (shape g) i.step.label) ≡ true → Framed (shape g) st.log x.role (entries f.items))
  law_frame = subst (λ o. IfSome o (λ (i : B.Entry TimedLabel Code). honest_role s cast (sender (shape g) i.step.label) ≡ true → Framed (shape g) st.log x.role (entries f.items)))
      (sym (last-option_map entry f.items ∙ ap (option_map entry) last_item.1)) from
    where
      from : honest_role s cast (sender (shape g) (last_item.0).label) ≡ true → Framed (shape g) st.log x.role (entries f.items)
      from h =
          let r : f.sender ≡ sender (shape g) (last_item.0).label = sym last_item.2 ∙ last_role f.items (last_item.0) last_item.1 f_roles in
          let t = frame_made (ap (honest_role s cast) r ∙ h) in
          record {
            made = t.made;
            there = t.there;
            steps = t.steps ∙ ap (λ k. V.steps_of (B.evidence (sender_of (shape g)) (after_last (by (shape g)) k (transcript_with_item t.made)))) its_role;
            written = λ y var. t.written y (variable_below g is y var) ∙ ap (λ k. com_of (B.evidence (sender_of (shape g)) (after_last (by (shape g)) k (transcript_with_item t.made))) y) its_role;
          }
        where
          last_role : (is' : List Item) (i : Item) → last is' ≡ Some i → Roles (shape g) is' → i.role ≡ sender (shape g) i.label
          last_role [] i e r = absurd (cc)
          last_role (y ∷ ys) i e r = step_ y ys (cc) r
            where
              step_ : (y : Item) (ys : List Item) → last_or y ys ≡ i → Roles (shape g) (y ∷ ys) → i.role ≡ sender (shape g) i.label
              step_ y [] e r = subst (λ (z : Item). z.role ≡ sender (shape g) z.label) e r.0
              step_ y (z ∷ zs) e r = step_ z zs e r.1

  -- the openings
  opening_right : (o : Opening) → is_right sha g x f o ≡ true → com_of (own_part_of (shape g) st x.role ++ entries f.items) o.variable ≡ Some (commit o)
  opening_right o h =
      let same : shown_commitments x f o.variable ≡ Some (commitment sha x.sid o) = same_some _ _ (and_parts (has_kind g o) _ h).1 in
      ap (λ l. com_of (l ++ entries f.items) o.variable) own_part_same ∙ ap (λ l. com_of l o.variable) (sym (map-append entry (own_part x) f.items)) ∙ entries-com (own_part x ++ f.items) o.variable ∙ same ∙ ap (λ z. Some (commitment sha z o)) m.same_sid

  all_right : (os : List Opening) → list_all (is_right sha g x f) os ≡ true → AllByRecursion (λ (o : Opening). com_of (own_part_of (shape g) st x.role ++ entries f.items) o.variable ≡ Some (commit o)) os
  all_right [] h = tt
  all_right (o ∷ os) h = let ps = and_parts (is_right sha g x f o) (list_all (is_right sha g x f) os) h in (opening_right o ps.0, all_right os ps.1)

  pub all_typed : (os : List Opening) → list_all (is_right sha g x f) os ≡ true → list_all (is_typed_or_hidden g) (V.values_of os) ≡ true
  all_typed [] h = refl
  all_typed (o ∷ os) h = let ps = and_parts (is_right sha g x f o) (list_all (is_right sha g x f) os) h in let k = and_parts (has_kind g o) _ ps.0 in rw k.0 (all_typed os ps.1)

  opened : Opened (shape g) commit (own_part_of (shape g) st x.role ++ entries f.items) f.openings
  opened = record {
    reads = same_bytes _ _ rows.variables ∙ reads_last (last f.items) last_item.1 ∙ ap (V.last_reads (shape g)) (sym (last_two (own_part_of (shape g) st x.role) (entries f.items) (entry (last_item.0)) (last-option_map entry f.items ∙ ap (option_map entry) last_item.1)));
    fit = all_right f.openings rows.openings;
  }
    where
      reads_last : (o : Option Item) → o ≡ Some (last_item.0) → option_map_or (reads g) (option_map (λ (i : Item). i.label) o) [] ≡ V.last_reads (shape g) (Some (entry (last_item.0)))
      reads_last o e = ap (λ o. option_map_or (reads g) (option_map (λ (i : Item). i.label) o) []) e

      last_two : (xs ys : List (B.Entry TimedLabel Code)) (z : B.Entry TimedLabel Code) → last ys ≡ Some z → last (xs ++ ys) ≡ Some z
      last_two xs ys z e = last-append_some xs ys z e

  not_empty : entries f.items ≢ []
  not_empty e = (let a = last_item.1 in let b : last (entries f.items) ≡ Some (entry (last_item.0)) = last-option_map entry f.items ∙ ap (option_map entry) a in let c : last (entries f.items) ≡ None = ap last e in absurd (cc))

  pub may : MayTake (shape g) (honest_role s cast) commit st x.role n (entries f.items) f.openings
  may = record {
    is_honest = honest_role_is;
    waits = m.waits wait;
    some = not_empty;
    sight = sight g (writes_below g is) x.role (record { origin = origin x; items = map seen f.items }) viewed (st.machine.at x.role).own f.items (own_label (last (own_part x)) ∙ ap (option_map (λ (t : TimedLabel). t.label)) (sym m.is_own)) refl
        (subst (λ t. RisesFrom t (V.steps_of (entries f.items))) (own_times (last (own_part x)) ∙ ap R.time_of_own (sym m.is_own)) (rising_times 1 (own_time x) f.items rows.times));
    tags = law_tag;
    frame = law_frame;
    opened = opened;
  }

  -- no item is the role's own
  pub no_own : has (λ (i : Item). i.role) x.role f.items ≡ false
  no_own =
      let labels : map (λ (i : Item). i.label) f.items ≡ last_of (sender (shape g)) (after_last (sender (shape g)) x.role viewed.walk) =
      sym (seen_labels f.items) ∙ ap (λ (v : View). map (λ (s : Seen). s.label) v.items) (sym viewed.seen) ∙ labels-view_of g x.role viewed.walk in
      sym (has-entries (shape g) x.role f.items f_roles) ∙ has-map entry (by (shape g)) x.role f.items ∙ sym (has-map (λ (i : Item). i.label) (sender (shape g)) x.role f.items)
      ∙ ap (has (sender (shape g)) x.role) labels ∙ has-last_of (sender (shape g)) x.role (after_last (sender (shape g)) x.role viewed.walk) ∙ has-after_last (sender (shape g)) x.role viewed.walk

  abbrev later : Session
  later = extended x (Took f)

  transcript_later : transcript later ≡ transcript x ++ f.items
  transcript_later = flat_map-append items_of x.exchanges (Took f ∷ []) ∙ ap (λ l. transcript x ++ l) (append-nil f.items)

  last_later : last (transcript later) ≡ Some (last_item.0)
  last_later = ap last transcript_later ∙ last-append_some (transcript x) f.items (last_item.0) last_item.1

  place_later : place g later ≡ n
  place_later = ap (λ o. unwrap_or (option_map (target (shape g)) (option_map (λ (i : Item). i.label) o)) 0) last_later ∙ sym (view_ends g x.role (record { origin = origin x; items = map seen f.items }) viewed f.items (last_item.0) refl last_item.1)

  time_later : time later ≡ (last_item.0).time
  time_later = ap (λ o. unwrap_or (option_map (λ (i : Item). i.time) o) 0) last_later

  own_part_later : own_part later ≡ own_part x
  own_part_later = ap (up_to_last (λ (i : Item). i.role) x.role) transcript_later ∙ upto-more (λ (i : Item). i.role) x.role (transcript x) f.items no_own

  turn_later : at_turn g later ≡ true
  turn_later = eq-eqb (role_at (shape g) (place g later)) x.role (ap (role_at (shape g)) place_later ∙ viewed.ends)

  abbrev pub law_later : State
  law_later = moved commit st (Takes x.role n (entries f.items) f.openings)

  pub taken : Matches g sid cast law_later who later
  taken = record {
    same_sid = m.same_sid;
    same_cast = m.same_cast;
    is_who = m.is_who;
    inside = m.inside;
    is_transcript = rw (eqb_same x.role) (ap (λ l. l ++ entries f.items) m.is_transcript ∙ sym (map-append entry (transcript x) f.items) ∙ ap entries (sym transcript_later));
    is_own = rw (eqb_same x.role) (m.is_own ∙ ap (λ l. option_map step (last l)) (sym own_part_later));
    turns = λ _. rw (eqb_same x.role) (ap (λ k. Some (record { node = k; time = R.time_after (R.time_of_own (st.machine.at x.role).own) (V.steps_of (entries f.items)) })) (sym place_later)
        ∙ ap (λ t. Some (record { node = place g later; time = t })) (time_after-last (R.time_of_own (st.machine.at x.role).own) (V.steps_of (entries f.items)) (step (last_item.0)) last_step ∙ sym time_later));
    waits = λ e. (let t = turn_later in absurd (cc));
    roles = subst (Roles (shape g)) (sym transcript_later) (roles-append (shape g) (transcript x) f.items m.roles f_roles);
    fits = subst FitItems (sym transcript_later) (fit-append (transcript x) f.items m.fits f_fits);
    last_edge = subst (λ o. IfSome o (λ (i : Item). i.label < length g.edges)) (sym last_later) last_in;
  }
    where
      last_step : last (V.steps_of (entries f.items)) ≡ Some (step (last_item.0))
      last_step = last-option_map V.step_of (entries f.items) ∙ ap (option_map V.step_of) (last-option_map entry f.items ∙ ap (option_map entry) last_item.1)

      last_in : (last_item.0).label < length g.edges
      last_in = view_last_edge g x.role (record { origin = origin x; items = map seen f.items }) viewed f.items (last_item.0) refl last_item.1

  -- its last item leads to the role
  pub by_me : receiver (shape g) (last_item.0).label ≡ x.role
  by_me = ap (role_at (shape g)) (sym (view_ends g x.role (record { origin = origin x; items = map seen f.items }) viewed f.items (last_item.0) refl last_item.1)) ∙ viewed.ends

  pub values_typed : list_all (is_typed_or_hidden g) (V.values_of f.openings) ≡ true
  values_typed = all_typed f.openings rows.openings
