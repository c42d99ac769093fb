-- A session that gives a step is to the law a role that sends.
use Rattle.sg_law.specs.Accept.{TimedLabel, sender_of}
use Rattle.std.specs.Prelude.{◌≡◌, ◌≢◌, ℕ, ◌+◌, ◌<◌, ◌==◌, nat_lt, nat_le, true, false, not, List, [], ◌∷◌, ◌++◌, map, length, find, refl, Option, Some, None, option_map, unwrap_or, IfSome, MatchOption, Contains}
use Rattle.std.specs.List.{list_all, AllByRecursion}
use Rattle.std.specs.Option.{option_map_or}
use Rattle.std.proofs.Common.{sym, ◌∙◌, ap, subst, inl, inr, arith}
use Rattle.std.proofs.lemmas.Bool.{eqb-true, ne_eqb, and_parts, not-false}
use Rattle.std.proofs.lemmas.Bool.Decides.{nat_tests}
use Rattle.std.proofs.lemmas.List.{map-append}
use Rattle.sg_model.specs.Last as A
use Rattle.sg_model.specs.Last.{evidence_for, Map, has, last, after_last, up_to_last}
use Rattle.sg_model.specs.Lists.{below, first_some}
use Rattle.sg_model.specs.Shape.{role_at, source, target, sender, receiver}
use Rattle.sg_model.specs.Values.{Value, Opening, Code}
use Rattle.sg_model.specs.Names.{Name}
use Rattle.sg_protocol.specs.Graph.{Graph, IsGraph, shape, writes}
use Rattle.sg_protocol.specs.Frame.{Cast, Item, Frame}
use Rattle.sg_protocol.specs.Spelling.{HasSpelling, body}
use Rattle.sg_protocol.specs.Texts.{Hash, IsHash, commitment, commitment_text_of}
use Rattle.sg_protocol.specs.TextLaws.{IsVersion, ItemFits, untagged, SameItem}
use Rattle.sg_protocol.specs.Keyring.{Keyring, Program, targets_of}
use Rattle.sg_protocol.specs.Session.{Session, Gave, principal, items_of, transcript, own_part, time, place, at_turn, committed, commitments, extended}
use Rattle.sg_protocol.specs.Sending.{text_of, text_to, own_item, frame_sent, item_of, entry_of, shown_to}
use Rattle.sg_protocol.specs.Verdict.{row}
use Rattle.sg_protocol.specs.Notes.{Note, note_of, notes_of_sent}
use Rattle.sg_protocol.specs.Walk.{is_typed_or_hidden}
use Rattle.sg_protocol.specs.Schedule.{Schedule, is_honest, honest_role}
use Rattle.sg_law.specs.Last as B
use Rattle.sg_law.specs.Run.{Turn}
use Rattle.sg_law.specs.Run as R
use Rattle.sg_law.specs.Values as V
use Rattle.sg_law.specs.Values.{State, SentItem, transcript_with_item, com_of, Commit, moved}
use Rattle.sg_law.specs.Values.Move.{Writes}
use Rattle.sg_law.proofs.Lists.{eqb_same}
use Rattle.sg_law.proofs.Cut.{last-option_map}
use Rattle.sg_protocol.proofs.Paths.{flat_map-append}
use Rattle.sg_protocol.proofs.Entries.{entry, entries, entries-com, by, Roles, edges_same, evidence_for-ents, evidence_for-role, last_tags, shown-steps, shown-com, as_entry}
use Rattle.sg_protocol.proofs.Moves.{step, FitItem, FitItems, NoteOk, Matches, row_none, note_text, fit-append, roles-append, are_held, writes_below}
use Rattle.sg_model.specs.Lists.{rises_from, keys_of, in_order}
use Rattle.sg_model.proofs.Small.{none_parts, map_same, lt_of, map_none}
use Rattle.sg_model.proofs.Members.{In, contains_from_in, in_parts, map_in, in_last}
use Rattle.sg_law.specs.Values.{MayWrite}
use Rattle.sg_law.proofs.Upto.{upto-at, last-after, after-more}
use Rattle.sg_law.proofs.Cut.{cut_evidence, label_of}
use Rattle.sg_law.proofs.Lists.{last-append}
use Rattle.sg_protocol.specs.Calls.{SendFault, Send, ActFault, NoSuchLabel, BadValues, TimeSpent}
use Rattle.sg_protocol.specs.Acting.{rows_of_send, rows_of_act, leaves, is_bad, openings_for}
use Rattle.sg_protocol.proofs.Paths.{writes_rise}
use Rattle.sg_protocol.proofs.TextLaws.{one_item, one_frame, kinds_differ}
use Rattle.sg_protocol.specs.Accepted.{Accepted}
use Rattle.sg_protocol.proofs.Gives.{in_order-all, keys_are, typed_values, opened_keys, opened_values}

commit_lengths : (sha : Hash) → IsHash sha → (sid : List ℕ) (os : List Opening) → AllByRecursion (λ (d : ℕ × List ℕ). length d.1 ≡ 32) (map (λ (o : Opening). (o.variable, commitment sha sid o)) os)
commit_lengths sha hash sid [] = tt
commit_lengths sha hash sid (o ∷ os) = ((hash (commitment_text_of sid o)).0, commit_lengths sha hash sid os)

pub keys_of_commits : (sha : Hash) (sid : List ℕ) (os : List Opening) → keys_of (map (λ (o : Opening). (o.variable, commitment sha sid o)) os) ≡ map (λ (o : Opening). o.variable) os
keys_of_commits sha sid [] = refl
keys_of_commits sha sid (o ∷ os) = ap (λ l. o.variable ∷ l) (keys_of_commits sha sid os)

pub le_false : (a b : ℕ) → nat_le a b ≡ false → b < a
le_false a b h = grind (arith, nat_tests)

-- what the rows of an act say
pub record ActRows (g : Graph) (x : Session) (label : ℕ) (values : Map Value) : Type 0 where
  pub turn : at_turn g x ≡ true
  pub edge : nat_lt label (length g.edges) ≡ true
  pub leaves : source (shape g) label ≡ place g x
  pub good : find (is_bad g label values) (below 256) ≡ None
  pub time : nat_le 1000000 (time x) ≡ false

-- if no fault of a step stands behind a constructor, none stands by itself
none_under : {A B : Type 0} (f : A → B) (os : List (Option A)) → first_some (map (option_map f) os) ≡ None → first_some os ≡ None
none_under f [] h = refl
none_under f (None ∷ os) h = none_under f os h
none_under f (Some a ∷ os) h = absurd (cc)

pub act_rows : (p : Program) (x : Session) (label : ℕ) (values : Map Value) → first_some (rows_of_act p x label values) ≡ None → ActRows p.graph x label values
act_rows p x label values h =
    let bad : Option SendFault = option_map BadValues (find (is_bad p.graph label values) (below 256)) in
    let spent : Option SendFault = row (nat_le 1000000 (time x)) TimeSpent in
    let one : (row (not (at_turn p.graph x)) ActFault.NotYourTurn ≡ None) × (first_some (map (option_map Send) (rows_of_send p x label values)) ≡ None) = none_parts _ _ h in
    let two : (row (not (leaves p.graph x label)) NoSuchLabel ≡ None) × (first_some (bad ∷ spent ∷ []) ≡ None) = none_parts _ _ (none_under Send (rows_of_send p x label values) one.1) in
    let three : (bad ≡ None) × (first_some (spent ∷ []) ≡ None) = none_parts _ _ two.1 in
    let four : (spent ≡ None) × (first_some {A = SendFault} [] ≡ None) = none_parts _ _ three.1 in
    let l = and_parts (nat_lt label (length p.graph.edges)) (source (shape p.graph) label == place p.graph x) (not-false (leaves p.graph x label) (row_none _ _ two.0)) in
    record { turn = not-false (at_turn p.graph x) (row_none _ _ one.0); edge = l.0; leaves = eqb-true (source (shape p.graph) label) (place p.graph x) l.1; good = map_none _ _ three.0; time = row_none _ _ four.0 }

module _ (sha : Hash) (hash : IsHash sha) (s : Schedule) (sid : List ℕ) (cast : Cast) (keys : Keyring) (p : Program) (x : Session) (label : ℕ) (values : Map Value) (F : ℕ × Value → List ℕ) (st : State) (who : Name)
    (is : IsGraph p.graph) (acc : Accepted p.graph) (m : Matches p.graph sid cast st who x) (hon : is_honest s who ≡ true) (version : IsVersion cast.version) (long : length sid ≡ 32)
    (small : AllByRecursion (λ k. k < 256) (keys_of values)) (rows : ActRows p.graph x label values) where
  abbrev g : Graph
  g = p.graph

  abbrev pub os : List Opening
  os = openings_for values (map F values)

  abbrev pub commit : Commit
  commit o = commitment sha sid o

  abbrev oi : Item
  oi = own_item sha keys p x label os

  abbrev to : ℕ
  to = receiver (shape g) label

  abbrev pub f : Frame
  f = frame_sent sha keys p x label os

  names_os : map (λ (o : Opening). o.variable) os ≡ writes g label
  names_os = opened_keys F values ∙ keys_are g is label values small rows.good

  in_edges : label < length g.edges
  in_edges = lt_of label (length g.edges) rows.edge

  pub by_x : sender (shape g) label ≡ x.role
  by_x = ap (role_at (shape g)) rows.leaves ∙ eqb-true (role_at (shape g) (place g x)) x.role rows.turn

  apart : to ≢ x.role
  apart e = acc.no_self_edge label in_edges (by_x ∙ sym e)

  pub may_write : MayWrite (shape g) (honest_role s cast) st x.role label os
  may_write = record {
    is_honest = ap (is_honest s) m.is_who ∙ hon;
    is_edge = (let l = in_edges in omega (arith, l, edges_same g));
    turn = subst (λ o. MatchOption o ⊥ (λ (t : Turn). source (shape g) label ≡ t.node)) (sym (m.turns rows.turn)) rows.leaves;
    written = names_os;
  }

  oi_role : oi.role ≡ sender (shape g) oi.label
  oi_role = sym by_x

  all_roles : Roles (shape g) (transcript x ++ oi ∷ [])
  all_roles = roles-append (shape g) (transcript x) (oi ∷ []) m.roles (oi_role, tt)

  -- the item before was not the role's own
  other_last : IfSome (last (after_last (by (shape g)) to (entries (transcript x)))) (λ (i : B.Entry TimedLabel Code). has (by (shape g)) (sender (shape g) i.step.label) (entry oi ∷ []) ≡ false)
  other_last = go (after_last (by (shape g)) to (entries (transcript x))) refl
    where
      one : (o : Option Item) → last (transcript x) ≡ o → IfSome o (λ (i : Item). i.label < length g.edges) → IfSome (option_map entry o) (λ (i : B.Entry TimedLabel Code). has (by (shape g)) (sender (shape g) i.step.label) (entry oi ∷ []) ≡ false)
      one None e h = tt
      one (Some i) e h =
          let at : place g x ≡ target (shape g) i.label = ap (λ o. unwrap_or (option_map (target (shape g)) (option_map (λ (i : Item). i.label) o)) 0) e in
          let mine : receiver (shape g) i.label ≡ x.role = ap (role_at (shape g)) (sym at) ∙ eqb-true (role_at (shape g) (place g x)) x.role rows.turn in
          let ne : (sender (shape g) label == sender (shape g) i.label) ≡ false = ne_eqb (sender (shape g) label) (sender (shape g) i.label) (λ q. acc.no_self_edge i.label h (sym q ∙ by_x ∙ sym mine)) in
          rw ne refl

      go : (ys : List (B.Entry TimedLabel Code)) → after_last (by (shape g)) to (entries (transcript x)) ≡ ys → IfSome (last (after_last (by (shape g)) to (entries (transcript x)))) (λ (i : B.Entry TimedLabel Code). has (by (shape g)) (sender (shape g) i.step.label) (entry oi ∷ []) ≡ false)
      go [] e = subst (λ l. IfSome (last l) (λ (i : B.Entry TimedLabel Code). has (by (shape g)) (sender (shape g) i.step.label) (entry oi ∷ []) ≡ false)) (sym e) tt
      go (y ∷ ys) e = subst (λ o. IfSome o (λ (i : B.Entry TimedLabel Code). has (by (shape g)) (sender (shape g) i.step.label) (entry oi ∷ []) ≡ false))
          (sym (last-option_map entry (transcript x)) ∙ last-after (by (shape g)) to (entries (transcript x)) y ys e ∙ ap last (sym e)) (one (last (transcript x)) refl m.last_edge)

  rising_delta : in_order (length g.variables) oi.delta ≡ oi.delta
  rising_delta =
      let same : keys_of oi.delta ≡ writes g label = keys_of_commits sha x.sid os ∙ names_os in
      in_order-all (length g.variables) oi.delta (ap (rises_from 0) same ∙ writes_rise g is label) (subst (AllByRecursion (λ z. z < length g.variables)) (sym same) (writes_below g is label))

  abbrev es : List (A.Entry Item (List ℕ))
  es = evidence_for (λ (i : Item). i.role) to (map entry_of (transcript x ++ oi ∷ []))

  abbrev X : List (B.Entry TimedLabel Code)
  X = after_last (by (shape g)) to (entries (transcript x))

  -- what the frame ends with
  pub gave : (i : Item) × (last f.items ≡ Some i) × (entry i ≡ entry oi) × (i.role ≡ x.role)
  gave = from (last es) refl
    where
      cut : (T : List (B.Entry TimedLabel Code)) × (B.evidence (sender_of (shape g)) (X ++ entry oi ∷ []) ≡ T ++ entry oi ∷ []) × (option_map label_of (last T) ≡ option_map label_of (last X))
      cut = cut_evidence (sender_of (shape g)) (after_last (by (shape g)) to (entries (transcript x))) (entry oi ∷ []) other_last

      whole_is : map as_entry es ≡ cut.0 ++ entry oi ∷ []
      whole_is =
          evidence_for-ents (shape g) to (transcript x ++ oi ∷ []) all_roles
          ∙ ap (λ l. B.evidence (sender_of (shape g)) (after_last (by (shape g)) to l)) (map-append entry (transcript x) (oi ∷ []))
          ∙ ap (B.evidence (sender_of (shape g))) (after-more (by (shape g)) to (entries (transcript x)) (entry oi ∷ []) (rw (ne_eqb (sender (shape g) label) to (λ q. apart (sym q ∙ by_x))) refl))
          ∙ cut.1

      from : (o : Option (A.Entry Item (List ℕ))) → last es ≡ o → (i : Item) × (last f.items ≡ Some i) × (entry i ≡ entry oi) × (i.role ≡ x.role)
      from None e = (let a : last (map as_entry es) ≡ None = last-option_map as_entry es ∙ ap (option_map as_entry) e in let b : last (map as_entry es) ≡ Some (entry oi) = ap last whole_is ∙ last-append cut.0 (entry oi) [] in absurd (cc))
      from (Some e0) e =
          let a : Some (as_entry e0) ≡ Some (entry oi) = sym (last-option_map as_entry es ∙ ap (option_map as_entry) e) ∙ ap last whole_is ∙ last-append cut.0 (entry oi) [] in
          let b : as_entry e0 ≡ entry oi = cc in
          let t = last_tags (map (item_of g) es) (item_of g e0) (last-option_map (item_of g) es ∙ ap (option_map (item_of g)) e) in
          let ent : entry (item_of g e0) ≡ entry oi = ap (λ (z : B.Entry TimedLabel Code). record { step = z.step; writes = in_order (length g.variables) z.writes }) b ∙ ap (λ d. record { step = record { label = oi.label; time = oi.time }; writes = d }) rising_delta in
          let role : e0.step.role ≡ x.role = evidence_for-role (shape g) to (transcript x ++ oi ∷ []) e0 all_roles e ∙ ap (λ (z : B.Entry TimedLabel Code). sender (shape g) z.step.label) b ∙ by_x in
          (t.0, t.1, t.2 ∙ ent, t.3 ∙ role)

  abbrev pub gi : Item
  gi = gave.0

  pub its_last : last f.items ≡ Some gi
  its_last = gave.1

  abbrev later : Session
  later = extended x (Gave gi os)

  abbrev pub law_later : State
  law_later = moved commit st (Writes x.role label os)

  transcript_later : transcript later ≡ transcript x ++ gi ∷ []
  transcript_later = flat_map-append items_of x.exchanges (Gave gi os ∷ [])

  pub entry_made : entry gi ≡ V.item_for commit st x.role label os
  entry_made = gave.2 ∙ ap (λ t. record { step = record { label = label; time = t + 1 }; writes = map (λ (o : Opening). (o.variable, commitment sha x.sid o)) os }) (sym (ap R.turn_time (m.turns rows.turn)))
      ∙ ap (λ z. record { step = record { label = label; time = R.turn_time (st.machine.at x.role).turn + 1 }; writes = map (λ (o : Opening). (o.variable, commitment sha z o)) os }) m.same_sid

  whole_made : transcript_with_item (V.made_by commit st x.role label os) ≡ entries (transcript x ++ gi ∷ [])
  whole_made = ap (λ l. l ++ V.item_for commit st x.role label os ∷ []) m.is_transcript ∙ ap (λ z. entries (transcript x) ++ z ∷ []) (sym entry_made) ∙ sym (map-append entry (transcript x) (gi ∷ []))

  label_gi : gi.label ≡ label
  label_gi = ap (λ (z : B.Entry TimedLabel Code). z.step.label) gave.2

  place_later : place g later ≡ target (shape g) label
  place_later = ap (λ l. unwrap_or (option_map (target (shape g)) (option_map (λ (i : Item). i.label) (last l))) 0) transcript_later
      ∙ ap (λ o. unwrap_or (option_map (target (shape g)) (option_map (λ (i : Item). i.label) o)) 0) (last-append (transcript x) gi []) ∙ ap (target (shape g)) label_gi

  own_part_later : own_part later ≡ transcript x ++ gi ∷ []
  own_part_later = ap (up_to_last (λ (i : Item). i.role) x.role) transcript_later ∙ upto-at (λ (i : Item). i.role) x.role (transcript x) gi [] gave.3 refl

  pub given : Matches g sid cast law_later who later
  given = record {
    same_sid = m.same_sid;
    same_cast = m.same_cast;
    is_who = m.is_who;
    inside = m.inside;
    is_transcript = rw (eqb_same x.role) (whole_made ∙ ap entries (sym transcript_later));
    is_own = rw (eqb_same x.role) (ap (λ (z : B.Entry TimedLabel Code). Some (V.step_of z)) (sym entry_made) ∙ sym (ap (λ l. option_map step (last l)) own_part_later ∙ ap (option_map step) (last-append (transcript x) gi [])));
    turns = λ e. absurd (apart (ap (role_at (shape g)) (sym place_later) ∙ eqb-true (role_at (shape g) (place g later)) x.role e));
    waits = λ e. rw (eqb_same x.role) refl;
    roles = subst (Roles (shape g)) (sym transcript_later) (roles-append (shape g) (transcript x) (gi ∷ []) m.roles (gave.3 ∙ sym by_x ∙ ap (sender (shape g)) (sym label_gi), tt));
    fits = subst FitItems (sym transcript_later) (fit-append (transcript x) (gi ∷ []) m.fits (gi_fits, tt));
    last_edge = subst (λ l. IfSome (last l) (λ (i : Item). i.label < length g.edges)) (sym transcript_later) (subst (λ o. IfSome o (λ (i : Item). i.label < length g.edges)) (sym (last-append (transcript x) gi [])) (subst (λ z. z < length g.edges) (sym label_gi) in_edges));
  }
    where
      gi_fits : FitItem gi
      gi_fits = subst (AllByRecursion (λ (d : ℕ × List ℕ). length d.1 ≡ 32)) (ap (λ (z : B.Entry TimedLabel Code). z.writes) (sym gave.2)) (commit_lengths sha hash x.sid os)

  -- ---- what was noted

  abbrev log_later : List SentItem
  log_later = st.log ++ V.made_by commit st x.role label os ∷ []

  there_now : Contains log_later (V.made_by commit st x.role label os)
  there_now = contains_from_in log_later (V.made_by commit st x.role label os) (in_last st.log (V.made_by commit st x.role label os))

  held_now : commitments g (transcript x ++ gi ∷ []) ≡ map (λ y. com_of (transcript_with_item (V.made_by commit st x.role label os)) y) (below (length g.variables))
  held_now = map_same (λ y. committed y (transcript x ++ gi ∷ [])) (λ y. com_of (transcript_with_item (V.made_by commit st x.role label os)) y) (below (length g.variables)) (λ y. sym (entries-com (transcript x ++ gi ∷ []) y) ∙ ap (λ l. com_of l y) (sym whole_made))

  fits_now : FitItems (transcript x ++ gi ∷ [])
  fits_now = subst FitItems transcript_later given.fits

  version_x : IsVersion x.cast.version
  version_x = subst (λ (c : Cast). IsVersion c.version) (sym m.same_cast) version

  item_fits : ItemFits x.cast.version x.sid gi.label gi.time (commitments g (transcript x ++ gi ∷ []))
  item_fits = record {
    version = version_x;
    sid = ap length m.same_sid ∙ long;
    label = (let a = label_gi in let b = in_edges in let c = is.sizes.3 in omega arith);
    time = (let a : gi.time ≡ time x + 1 = ap (λ (z : B.Entry TimedLabel Code). z.step.time) gave.2 in let b : time x < 1000000 = le_false 1000000 (time x) rows.time in omega arith);
    held = are_held g (transcript x ++ gi ∷ []) fits_now;
  }

  item_ok : (a b : Name) (t : ℕ) → NoteOk g sid log_later (note_of a b (text_to g x (transcript x) gi t))
  item_ok a b t = record {
    item = λ v from to' label' time' held fits e.
        let same : SameItem x.cast.version v x.sid sid gi.role from t to' gi.label label' gi.time time' (commitments g (transcript x ++ gi ∷ [])) held =
        one_item x.cast.version v x.sid sid gi.role from t to' gi.label label' gi.time time' (commitments g (transcript x ++ gi ∷ [])) held item_fits fits (sym (note_text a b (text_to g x (transcript x) gi t)) ∙ e) in
        record {
          made = V.made_by commit st x.role label os;
          there = there_now;
          same = ap V.step_of (sym entry_made) ∙ ap (λ l. record { label = l; time = gi.time }) same.label ∙ ap (λ k. record { label = label'; time = k }) same.time;
          is_held = sym same.held ∙ held_now;
        };
    frame = λ v f' spelled same e. absurd (kinds_differ.item_frame x.cast.version x.sid gi.role t gi.label gi.time (commitments g (transcript x ++ gi ∷ [])) v (body f') (sym (note_text a b (text_to g x (transcript x) gi t)) ∙ e));
  }

  frame_ok : HasSpelling f → (a b : Name) → NoteOk g sid log_later (note_of a b (text_of f))
  frame_ok spelled a b = record {
    item = λ v from to' label' time' held fits e. absurd (kinds_differ.item_frame v sid from to' label' time' held f.version (body f) (sym e ∙ note_text a b (text_of f)));
    frame = λ v f' spelled' same e.
        let u : untagged f' ≡ untagged f = one_frame v f.version f' f spelled' spelled (sym e ∙ note_text a b (text_of f)) in
        let its : f'.items ≡ shown_to g to (transcript x ++ oi ∷ []) = ap (λ (z : Frame). z.items) u in
        let rec : f'.receiver ≡ to = ap (λ (z : Frame). z.receiver) u in
        let ents : entries (transcript x ++ oi ∷ []) ≡ transcript_with_item (V.made_by commit st x.role label os) = map-append entry (transcript x) (oi ∷ []) ∙ ap (λ z. entries (transcript x) ++ z ∷ []) (sym gave.2) ∙ sym (map-append entry (transcript x) (gi ∷ [])) ∙ sym whole_made in
        record {
          made = V.made_by commit st x.role label os;
          there = there_now;
          steps = ap (λ l. V.steps_of (entries l)) its ∙ shown-steps g to (transcript x ++ oi ∷ []) all_roles ∙ ap (λ k. V.steps_of (B.evidence (sender_of (shape g)) (after_last (by (shape g)) k (entries (transcript x ++ oi ∷ []))))) (sym rec)
              ∙ ap (λ l. V.steps_of (B.evidence (sender_of (shape g)) (after_last (by (shape g)) f'.receiver l))) ents;
          written = λ y h. ap (λ l. com_of (entries l) y) its ∙ shown-com g to (transcript x ++ oi ∷ []) all_roles y h ∙ ap (λ k. com_of (B.evidence (sender_of (shape g)) (after_last (by (shape g)) k (entries (transcript x ++ oi ∷ [])))) y) (sym rec)
              ∙ ap (λ l. com_of (B.evidence (sender_of (shape g)) (after_last (by (shape g)) f'.receiver l)) y) ents;
        };
  }

  pub notes_ok : HasSpelling f → (n : Note) → In (notes_of_sent keys p x f os).made n → NoteOk g sid log_later n
  notes_ok spelled n i = elim (in_parts _ (note_of keys.me (principal x.cast f.receiver) (text_of f) ∷ []) n i) [
    | inl j ↦ item_note (last f.items) gave.1 j
    | inr j ↦ elim j [ inl e ↦ subst (NoteOk g sid log_later) (sym e) (frame_ok spelled keys.me (principal x.cast f.receiver)) | inr k ↦ absurd k ]
  ]
    where
      item_note : (o : Option Item) → o ≡ Some gi → In (option_map_or (λ (i : Item). map (λ t. note_of keys.me (principal x.cast t) (text_to g x (transcript x) i t)) (targets_of p i.label)) o []) n → NoteOk g sid log_later n
      item_note None e j = absurd j
      item_note (Some i) e j =
          let same : i ≡ gi = cc in
          let r = map_in (λ t. note_of keys.me (principal x.cast t) (text_to g x (transcript x) i t)) (targets_of p i.label) n j in
          subst (NoteOk g sid log_later) (sym (r.2 ∙ ap (λ (z : Item). note_of keys.me (principal x.cast r.0) (text_to g x (transcript x) z r.0)) same)) (item_ok keys.me (principal x.cast r.0) r.0)

  pub values_typed : list_all (is_typed_or_hidden g) (V.values_of os) ≡ true
  values_typed = ap (list_all (is_typed_or_hidden g)) (opened_values F values) ∙ typed_values g is label values small rows.good
