-- What a step that is sent is to the law.
use Rattle.std.specs.Prelude.{◌≡◌, ℕ, ◌+◌, ◌<◌, ◌⊎◌, Bool, true, false, List, [], ◌∷◌, ◌++◌, map, filter, length, bytes_eq, refl, Option, Some, None}
use Rattle.std.specs.List.{list_all, AllByRecursion}
use Rattle.std.specs.Option.{option_map_or}
use Rattle.std.proofs.Common.{sym, ◌∙◌, ap, subst, inl, inr}
use Rattle.std.proofs.lemmas.Bool.{eq-eqb, cases_Bool}
use Rattle.std.proofs.lemmas.Slice.Eq.{bytes_eq-Decides}
use Rattle.sg_model.specs.Last.{Map, last}
use Rattle.sg_model.specs.Lists.{first_some}
use Rattle.sg_model.specs.Shape.{sender, receiver}
use Rattle.sg_model.specs.Values.{Value, Opening}
use Rattle.sg_model.specs.Names.{Name}
use Rattle.sg_protocol.specs.Graph.{Graph, IsGraph, shape}
use Rattle.sg_protocol.specs.Frame.{Cast, Item, Frame}
use Rattle.sg_protocol.specs.Spelling.{HasSpelling, body}
use Rattle.sg_protocol.specs.Texts.{Hash, commitment, commitment_text_of}
use Rattle.sg_protocol.specs.TextLaws.{OpeningFits}
use Rattle.sg_protocol.specs.Keyring.{Program, targets_of}
use Rattle.sg_protocol.specs.Session.{Session, Gave, principal, transcript, time, place, at_turn, commitments, extended}
use Rattle.sg_protocol.specs.Sending.{text_of, text_to, frame_sent, own_item}
use Rattle.sg_protocol.specs.Calls.{ActFault, Event, Sent, Act, Answer, Sends, NotActed}
use Rattle.sg_protocol.specs.Notes.{Note, note_of, notes_of_sent, Notes, notes, notes_of_act, no_notes}
use Rattle.sg_protocol.specs.Walk.{is_typed_or_hidden, shown}
use Rattle.sg_protocol.specs.Schedule.{Schedule, is_honest, honest_role}
use Rattle.sg_law.specs.Values as V
use Rattle.sg_law.specs.Values.{State, Commit, moved}
use Rattle.sg_law.specs.Values.Move.{Writes}
use Rattle.sg_protocol.proofs.Entries.{entry, entries, Roles}
use Rattle.sg_protocol.proofs.Moves.{NoteOk, Matches, note_text}
use Rattle.sg_model.specs.Lists.{keys_of}
use Rattle.sg_law.specs.Values.{MayWrite}
use Rattle.sg_protocol.specs.Acting.{rows_of_act, openings_for, answer, answer_act, acted, sent}
use Rattle.sg_protocol.proofs.TextLaws.{kinds_differ}
use Rattle.sg_protocol.specs.Accepted.{Accepted}
use Rattle.sg_protocol.proofs.Gives.{item_sid, frame_sid, opened_values}
use Rattle.sg_model.proofs.Small.{clash, same_bytes, none_some}
use Rattle.sg_model.proofs.Members.{In, in_left, in_parts, in_map, map_in}
use Rattle.sg_model.proofs.Finding.{find_passes, find_all}
use Rattle.sg_protocol.specs.Node.{Node, session_with, program_for}
use Rattle.sg_protocol.specs.NodeAfter.{goes_on, replace, still}
use Rattle.sg_protocol.specs.Walk as Walk'
use Rattle.sg_protocol.proofs.KnownSession.{SessionOfCast}
use Rattle.sg_protocol.proofs.Acts as C
use Rattle.sg_protocol.proofs.Finding.{one_index}
use Rattle.sg_protocol.proofs.Calls.{transcript_in, sent_in, quiet_event, NodeOk, Out}
use Rattle.sg_protocol.proofs.AfterCalls.{event_other, kept_writes, transcript_step, goes_now, goes_status, other_status, nothing, the_session}
use Rattle.sg_protocol.proofs.OfSid.{of_sid, replace-other, still-own, still-other}
use Rattle.sg_protocol.proofs.Nodes.{all_still, all_replaced}

module _ {sha : Hash} {programs : List Program} {sid : List ℕ} {cast : Cast} {g : Graph} {Hashed : List ℕ → Type 0} (known : SessionOfCast sha programs sid cast g Hashed) (s : Schedule) (LeftBy : Name → Type 0) (st : State) (who : Name) (n : Node) (ok : NodeOk known s LeftBy st who n) (hon : is_honest s who ≡ true) where
  abbrev commit : Commit
  commit o = commitment sha sid o

  abbrev honest : ℕ → Bool
  honest h = honest_role s cast h

  -- a note of another session says nothing of this one
  note_other : (x : Session) (p : Program) (f : Frame) (os : List Opening) → length x.sid ≡ 32 → bytes_eq x.sid sid ≡ false → f.sid ≡ x.sid → (nt : Note) → In (notes_of_sent n.keys p x f os).made nt → NoteOk g sid st.log nt
  note_other x p f os l h fs nt i = elim (in_parts _ (note_of n.keys.me (principal x.cast f.receiver) (text_of f) ∷ []) nt i) [
    | inl j ↦ items_of_frame (last f.items) j
    | inr j ↦ elim j [ inl e ↦ subst (NoteOk g sid st.log) (sym e) frame_note | inr k ↦ absurd k ]
  ]
    where
      differs : x.sid ≡ sid → ⊥
      differs e = clash (bytes_eq x.sid sid) ((bytes_eq-Decides x.sid sid).1 e) h

      frame_note : NoteOk g sid st.log (note_of n.keys.me (principal x.cast f.receiver) (text_of f))
      frame_note = record {
        item = λ v from to label' time' held fits e. absurd (kinds_differ.item_frame v sid from to label' time' held f.version (body f) (sym e ∙ note_text n.keys.me (principal x.cast f.receiver) (text_of f)));
        frame = λ v f' spelled' same e. absurd (differs (sym fs ∙ frame_sid f.version v f f' (ap length fs ∙ l) (ap length same ∙ known.long_sid) (sym (note_text n.keys.me (principal x.cast f.receiver) (text_of f)) ∙ e) ∙ same));
      }

      item_note : (i : Item) (t : ℕ) → NoteOk g sid st.log (note_of n.keys.me (principal x.cast t) (text_to p.graph x (transcript x) i t))
      item_note i t = record {
        item = λ v from to label' time' held fits e. absurd (differs (item_sid x.cast.version v x.sid sid i.role from t to i.label label' i.time time' (commitments p.graph (transcript x ++ i ∷ [])) held l known.long_sid (sym (note_text n.keys.me (principal x.cast t) (text_to p.graph x (transcript x) i t)) ∙ e)));
        frame = λ v f' spelled' same e. absurd (kinds_differ.item_frame x.cast.version x.sid i.role t i.label i.time (commitments p.graph (transcript x ++ i ∷ [])) v (body f') (sym (note_text n.keys.me (principal x.cast t) (text_to p.graph x (transcript x) i t)) ∙ e));
      }

      items_of_frame : (o : Option Item) → In (option_map_or (λ (i : Item). map (λ t. note_of n.keys.me (principal x.cast t) (text_to p.graph x (transcript x) i t)) (targets_of p i.label)) o []) nt → NoteOk g sid st.log nt
      items_of_frame None j = absurd j
      items_of_frame (Some i) j = let r = map_in (λ t. note_of n.keys.me (principal x.cast t) (text_to p.graph x (transcript x) i t)) (targets_of p i.label) nt j in subst (NoteOk g sid st.log) (sym r.2) (item_note i r.0)

  module _ (sid0 : List ℕ) (label : ℕ) (values : Map Value) (F : ℕ × Value → List ℕ) (small : AllByRecursion (λ k. k < 256) (keys_of values)) (opens : AllByRecursion OpeningFits (openings_for values (map F values))) where
    abbrev os : List Opening
    os = openings_for values (map F values)

    abbrev which : Session → Bool
    which z = bytes_eq z.sid sid0

    module _ (x : Session) (p : Program) (found_x : session_with n.live sid0 ≡ Some x) (found_p : program_for n.programs x.cast.graph x.role ≡ Some p) (rows : first_some (rows_of_act p x label values) ≡ None) (spelled : HasSpelling (frame_sent sha n.keys p x label (openings_for values (map F values)))) where
      abbrev f : Frame
      f = frame_sent sha n.keys p x label os

      abbrev event : Event
      event = Sent x.sid x.role label (time x + 1) values

      abbrev its_answer : Answer
      its_answer = Sends event (principal x.cast (receiver (shape p.graph) label)) f

      abbrev now : Session → List Session
      now z = option_map_or (λ (i : Item). still n.programs (extended z (Gave i os))) (last f.items) (z ∷ [])

      x_sid : x.sid ≡ sid0
      x_sid = same_bytes x.sid sid0 (find_passes which n.live x found_x)

      x_long : length x.sid ≡ 32
      x_long = find_all which (λ (z : Session). length z.sid ≡ 32) n.live x ok.lengths found_x

      now_long : (z : Session) → length z.sid ≡ 32 → AllByRecursion (λ (z : Session). length z.sid ≡ 32) (now z)
      now_long z l = go (last f.items)
        where
          go : (o : Option Item) → AllByRecursion (λ (z : Session). length z.sid ≡ 32) (option_map_or (λ (i : Item). still n.programs (extended z (Gave i os))) o (z ∷ []))
          go None = (l, tt)
          go (Some i) = all_still (λ (x : Session). length x.sid ≡ 32) n.programs (extended z (Gave i os)) l

      now_own : (z : Session) → which z ≡ true → bytes_eq z.sid sid ≡ true → filter (of_sid sid) (now z) ≡ now z
      now_own z w h = go (last f.items)
        where
          go : (o : Option Item) → filter (of_sid sid) (option_map_or (λ (i : Item). still n.programs (extended z (Gave i os))) o (z ∷ [])) ≡ option_map_or (λ (i : Item). still n.programs (extended z (Gave i os))) o (z ∷ [])
          go None = rw h refl
          go (Some i) = still-own sid n.programs (extended z (Gave i os)) h

      now_other : (z : Session) → bytes_eq z.sid sid ≡ false → filter (of_sid sid) (now z) ≡ []
      now_other z h = go (last f.items)
        where
          go : (o : Option Item) → filter (of_sid sid) (option_map_or (λ (i : Item). still n.programs (extended z (Gave i os))) o (z ∷ [])) ≡ []
          go None = rw h refl
          go (Some i) = still-other sid n.programs (extended z (Gave i os)) h

      -- what the session gives, in the graph z
      record Given (z : Graph) : Type 0 where
        gi : Item
        its_last : last f.items ≡ Some gi
        may : MayWrite (shape z) honest st x.role label os
        matches : Matches z sid cast (moved commit st (Writes x.role label os)) who (extended x (Gave gi os))
        notes_ok : (nt : Note) → In (notes_of_sent n.keys p x f os).made nt → NoteOk z sid (st.log ++ V.made_by commit st x.role label os ∷ []) nt
        by_x : sender (shape z) label ≡ x.role
        typed : list_all (is_typed_or_hidden z) (V.values_of os) ≡ true
        made : entry gi ≡ V.item_for commit st x.role label os
        own_entry : entry gi ≡ entry (own_item sha n.keys p x label os)
        its_role : gi.role ≡ x.role

      given_in : p.graph ≡ g → Matches g sid cast st who x → Given g
      given_in pg m =
          let is' : IsGraph p.graph = subst IsGraph (sym pg) known.is_graph in
          let acc' : Accepted p.graph = subst Accepted (sym pg) known.accepted in
          let m' : Matches p.graph sid cast st who x = subst (λ z. Matches z sid cast st who x) (sym pg) m in
          let rs : C.ActRows p.graph x label values = C.act_rows p x label values rows in
          subst Given pg record {
            gi = (C.gave sha known.is_hash s sid cast n.keys p x label values F st who is' acc' m' hon known.is_version known.long_sid small rs).0;
            its_last = C.its_last sha known.is_hash s sid cast n.keys p x label values F st who is' acc' m' hon known.is_version known.long_sid small rs;
            may = C.may_write sha known.is_hash s sid cast n.keys p x label values F st who is' acc' m' hon known.is_version known.long_sid small rs;
            matches = C.given sha known.is_hash s sid cast n.keys p x label values F st who is' acc' m' hon known.is_version known.long_sid small rs;
            notes_ok = C.notes_ok sha known.is_hash s sid cast n.keys p x label values F st who is' acc' m' hon known.is_version known.long_sid small rs spelled;
            by_x = C.by_x sha known.is_hash s sid cast n.keys p x label values F st who is' acc' m' hon known.is_version known.long_sid small rs;
            typed = C.values_typed sha known.is_hash s sid cast n.keys p x label values F st who is' acc' m' hon known.is_version known.long_sid small rs;
            own_entry = (C.gave sha known.is_hash s sid cast n.keys p x label values F st who is' acc' m' hon known.is_version known.long_sid small rs).2;
            its_role = (C.gave sha known.is_hash s sid cast n.keys p x label values F st who is' acc' m' hon known.is_version known.long_sid small rs).3;
            made = C.entry_made sha known.is_hash s sid cast n.keys p x label values F st who is' acc' m' hon known.is_version known.long_sid small rs;
          }

      act_transcript : (gi : Item) → last f.items ≡ Some gi → x.sid ≡ sid → transcript_in sid x.role (Act sid0 label values (map F values)) its_answer ≡ gi ∷ []
      act_transcript gi e q = rw ((bytes_eq-Decides x.sid sid).1 q, eq-eqb x.role x.role refl, e) refl

      act_sent : (gi : Item) → last f.items ≡ Some gi → x.sid ≡ sid → sent_in sid its_answer ≡ gi ∷ []
      act_sent gi e q = rw ((bytes_eq-Decides x.sid sid).1 q, e) refl

      act_mine : bytes_eq sid0 sid ≡ true → Out known s LeftBy st who n (Act sid0 label values (map F values)) its_answer (notes_of_sent n.keys p x f os)
      act_mine h =
          let q : sid0 ≡ sid = same_bytes sid0 sid h in
          let own : (z : Session) → which z ≡ true → of_sid sid z ≡ true = λ z w. subst (λ y. bytes_eq z.sid y ≡ true) q w in
          let t = the_session known s LeftBy st who n ok which own x found_x in
          let alone_ : filter (of_sid sid) n.live ≡ x ∷ [] = (t.0).alone ∙ ap (λ z. z ∷ []) (sym t.1) in
          let m : Matches g sid cast st who x = subst (Matches g sid cast st who) (sym t.1) (t.0).matches in
          let pr = known.programs_of x.role p (subst (λ ps. program_for ps cast.graph x.role ≡ Some p) ok.has_programs (subst (λ (c : Cast). program_for n.programs c.graph x.role ≡ Some p) m.same_cast found_p)) in
          let gv : Given g = given_in pr.0 m in
          let sid_true : bytes_eq x.sid sid ≡ true = (bytes_eq-Decides x.sid sid).1 m.same_sid in
          record {
            moves = Writes x.role label os ∷ [];
            may = (gv.may, tt);
            node = record {
              me = ok.me;
              has_programs = ok.has_programs;
              lengths = all_replaced (λ (x : Session). length x.sid ≡ 32) which now n.live (λ z q l. now_long z l) ok.lengths;
              status = goes_status known s LeftBy st who n t.0 which now (moved commit st (Writes x.role label os)) (extended x (Gave gv.gi os)) ok.has_programs own (λ z w. now_own z w (own z w)) t.2
                  (ap now (sym t.1) ∙ ap (λ o. option_map_or (λ (i : Item). still n.programs (extended x (Gave i os))) o (x ∷ [])) gv.its_last) (ap (λ (z : Session). z.role) t.1) gv.matches;
            };
            kept = kept_writes known s LeftBy who st x.role label os m.is_who;
            events = rw sid_true (ap (λ r. Walk'.Sends r label (shown values) ∷ []) (sym gv.by_x) ∙ ap (λ l. Walk'.Sends (sender (shape g) label) label l ∷ []) (sym (opened_values F values)));
            typed = (gv.typed, tt);
            used = used_all;
            made = gv.notes_ok;
            log = λ mk i. in_left st.log (V.made_by commit st x.role label os ∷ []) mk i;
            transcript = λ r e l. subst (λ k. ((moved commit st (Writes x.role label os)).transcript k ≡ st.transcript k ++ entries (transcript_in sid k (Act sid0 label values (map F values)) its_answer)) × Roles (shape g) (transcript_in sid k (Act sid0 label values (map F values)) its_answer))
                (one_index cast.names x.role r known.names_differ m.inside l (m.is_who ∙ sym e))
                (rw (act_transcript gv.gi gv.its_last m.same_sid) (transcript_step known s LeftBy st (moved commit st (Writes x.role label os)) who x (Gave gv.gi os) m gv.matches));
            sent = rw (act_sent gv.gi gv.its_last m.same_sid) (ap (λ z. st.machine.sent ++ V.step_of z ∷ []) (sym gv.made), (transcript_step known s LeftBy st (moved commit st (Writes x.role label os)) who x (Gave gv.gi os) m gv.matches).1);
            took = λ f t. (let e = t.is_call in absurd (cc));
            views = λ f t. (let e = t.is_call in absurd (cc));
            origins = λ f q y t s. (let e = t.is_call in absurd (cc));
            life = inr (inr (inr (inr record {
              x = x;
              same_sid = m.same_sid;
              same_cast = m.same_cast;
              is_who = m.is_who;
              inside = m.inside;
              p = p;
              found_p = subst (λ ps. program_for ps cast.graph x.role ≡ Some p) ok.has_programs (subst (λ (c : Cast). program_for n.programs c.graph x.role ≡ Some p) m.same_cast found_p);
              is_graph = pr.0;
              label = label;
              values = values;
              F = F;
              small = small;
              rows = subst (λ z. C.ActRows z x label values) pr.0 (C.act_rows p x label values rows);
              item = gv.gi;
              its_last = gv.its_last;
              is_entry = gv.own_entry;
              its_role = gv.its_role;
              is_answer = refl;
              spelled = spelled;
              before = alone_;
              now = goes_now known s LeftBy n x which now (extended x (Gave gv.gi os)) alone_ ok.has_programs own (λ z w. now_own z w (own z w)) ((bytes_eq-Decides x.sid sid0).1 x_sid) (ap (λ o. option_map_or (λ (i : Item). still n.programs (extended x (Gave i os))) o (x ∷ [])) gv.its_last);
              wait = no_turn_now m.is_who m.inside (extended x (Gave gv.gi os)) gv.matches (cases_Bool (at_turn g (extended x (Gave gv.gi os))));
            })));
            more_joins = λ r j. j;
          }
        where
          no_turn_now : principal cast x.role ≡ who → x.role < length cast.names → (y : Session) → Matches g sid cast (moved commit st (Writes x.role label os)) who y → (at_turn g y ≡ true) ⊎ (at_turn g y ≡ false) → at_turn g y ≡ false
          no_turn_now who_x in_x y m' (inr b) = b
          no_turn_now who_x in_x y m' (inl a) = absurd (no_turn_law y.role (m'.turns a) (one_index cast.names y.role x.role known.names_differ m'.inside in_x (m'.is_who ∙ sym who_x)))
            where
              no_turn_law : (r : ℕ) → ((moved commit st (Writes x.role label os)).machine.at r).turn ≡ Some (record { node = place g y; time = time y }) → r ≡ x.role → ⊥
              no_turn_law r e q = none_some (record { node = place g y; time = time y }) (rw (eq-eqb r x.role q) at e)

          used_in : (zs : List Opening) → AllByRecursion OpeningFits zs → ((o : Opening) → In zs o → In os o) → AllByRecursion (λ (o : Opening). In (notes_of_sent n.keys p x f os).hashed (commitment_text_of sid o) × OpeningFits o) (zs ++ [])
          used_in [] a w = tt
          used_in (o ∷ zs) a w = ((subst (λ y. In (map (commitment_text_of y) os) (commitment_text_of sid o)) (sym (x_sid ∙ same_bytes sid0 sid h)) (in_map (commitment_text_of sid) os o (w o (inl refl))), a.0), used_in zs a.1 (λ z i. w z (inr i)))

          used_all : AllByRecursion (λ (o : Opening). In (notes_of_sent n.keys p x f os).hashed (commitment_text_of sid o) × OpeningFits o) (os ++ [])
          used_all = used_in os opens (λ o i. i)

      act_done : Out known s LeftBy st who n (Act sid0 label values (map F values)) its_answer (notes_of_sent n.keys p x f os)
      act_done = elim (cases_Bool (bytes_eq sid0 sid)) [
        | inl h ↦ act_mine h
        | inr h ↦ nothing known s LeftBy st who n (Act sid0 label values (map F values)) its_answer (notes_of_sent n.keys p x f os) (other h) (event_other sid event (ap (λ y. bytes_eq y sid) x_sid ∙ h)) (quiet_event sid event (ap (λ y. bytes_eq y sid) x_sid ∙ h)) (note_other x p f os x_long (ap (λ y. bytes_eq y sid) x_sid ∙ h) refl) (inl (other_live h)) (λ r j. j) (λ r j. j)
      ]
        where
          other_live : bytes_eq sid0 sid ≡ false → filter (of_sid sid) (replace which now n.live) ≡ filter (of_sid sid) n.live
          other_live h = replace-other which now (λ z e. subst (λ y. bytes_eq y sid ≡ false) (sym (same_bytes z.sid sid0 e)) h) (λ z e. now_other z (subst (λ y. bytes_eq y sid ≡ false) (sym (same_bytes z.sid sid0 e)) h)) n.live

          other : bytes_eq sid0 sid ≡ false → NodeOk known s LeftBy st who (goes_on n which now)
          other h = record {
            me = ok.me;
            has_programs = ok.has_programs;
            lengths = all_replaced (λ (x : Session). length x.sid ≡ 32) which now n.live (λ z q l. now_long z l) ok.lengths;
            status = other_status known s LeftBy st who n (goes_on n which now) (replace-other which now (λ z e. subst (λ y. bytes_eq y sid ≡ false) (sym (same_bytes z.sid sid0 e)) h) (λ z e. now_other z (subst (λ y. bytes_eq y sid ≡ false) (sym (same_bytes z.sid sid0 e)) h)) n.live) (λ r j. j) ok.status;
          }

    abbrev act_of_rows : Session → Program → Option ActFault → Answer
    act_of_rows x p o = acted (sent sha n.keys p x label values (map F values)) o

    abbrev act_of_program : Session → Option Program → Answer
    act_of_program x o = option_map_or (λ p. act_of_rows x p (first_some (rows_of_act p x label values))) o (NotActed ActFault.UnknownSession)

    abbrev act_of_session : Option Session → Answer
    act_of_session o = option_map_or (λ x. act_of_program x (program_for n.programs x.cast.graph x.role)) o (NotActed ActFault.UnknownSession)

    abbrev notes_with : Option Session → Frame → Notes
    notes_with o f = option_map_or (λ x. option_map_or (λ p. notes_of_sent n.keys p x f os) (program_for n.programs x.cast.graph x.role) no_notes) o no_notes

    not_acted : (fault : ActFault) → answer_act sha n sid0 label values (map F values) ≡ NotActed fault → Out known s LeftBy st who n (Act sid0 label values (map F values)) (answer sha n (Act sid0 label values (map F values))) (notes sha n (Act sid0 label values (map F values)))
    not_acted fault e = subst (λ a. Out known s LeftBy st who n (Act sid0 label values (map F values)) a (notes_of_act n sid0 os a)) (sym e) (nothing known s LeftBy st who n (Act sid0 label values (map F values)) (NotActed fault) no_notes ok refl refl (λ nt i. absurd i) (inl refl) (λ r j. j) (λ r j. j))

    pub act_out : ((e : Event) (to : Name) (f : Frame) → answer sha n (Act sid0 label values (map F values)) ≡ Sends e to f → HasSpelling f) → Out known s LeftBy st who n (Act sid0 label values (map F values)) (answer sha n (Act sid0 label values (map F values))) (notes sha n (Act sid0 label values (map F values)))
    act_out spelled = by_session (session_with n.live sid0) refl
      where
        by_rows : (x : Session) (p : Program) → session_with n.live sid0 ≡ Some x → program_for n.programs x.cast.graph x.role ≡ Some p → (o : Option ActFault) → first_some (rows_of_act p x label values) ≡ o → Out known s LeftBy st who n (Act sid0 label values (map F values)) (answer sha n (Act sid0 label values (map F values))) (notes sha n (Act sid0 label values (map F values)))
        by_rows x p e e2 (Some fault) e3 = not_acted fault (ap act_of_session e ∙ ap (act_of_program x) e2 ∙ ap (act_of_rows x p) e3)
        by_rows x p e e2 None e3 =
            let ans : answer sha n (Act sid0 label values (map F values)) ≡ act_of_rows x p None = ap act_of_session e ∙ ap (act_of_program x) e2 ∙ ap (act_of_rows x p) e3 in
            let nts : notes_with (session_with n.live sid0) (frame_sent sha n.keys p x label os) ≡ notes_of_sent n.keys p x (frame_sent sha n.keys p x label os) os = ap (λ o. notes_with o (frame_sent sha n.keys p x label os)) e ∙ ap (λ o. option_map_or (λ p'. notes_of_sent n.keys p' x (frame_sent sha n.keys p x label os) os) o no_notes) e2 in
            subst (λ a. Out known s LeftBy st who n (Act sid0 label values (map F values)) a (notes_of_act n sid0 os a)) (sym ans)
            (subst (Out known s LeftBy st who n (Act sid0 label values (map F values)) (act_of_rows x p None)) (sym nts) (act_done x p e e2 e3 (spelled _ _ _ ans)))

        by_program : (x : Session) → session_with n.live sid0 ≡ Some x → (o : Option Program) → program_for n.programs x.cast.graph x.role ≡ o → Out known s LeftBy st who n (Act sid0 label values (map F values)) (answer sha n (Act sid0 label values (map F values))) (notes sha n (Act sid0 label values (map F values)))
        by_program x e None e2 = not_acted ActFault.UnknownSession (ap act_of_session e ∙ ap (act_of_program x) e2)
        by_program x e (Some p) e2 = by_rows x p e e2 (first_some (rows_of_act p x label values)) refl

        by_session : (o : Option Session) → session_with n.live sid0 ≡ o → Out known s LeftBy st who n (Act sid0 label values (map F values)) (answer sha n (Act sid0 label values (map F values))) (notes sha n (Act sid0 label values (map F values)))
        by_session None e = not_acted ActFault.UnknownSession (ap act_of_session e)
        by_session (Some x) e = by_program x e (program_for n.programs x.cast.graph x.role) refl
