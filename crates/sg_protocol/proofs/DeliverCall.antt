-- What a frame that is delivered is to the law.
use Rattle.sg_law.specs.Accept.{TimedLabel}
use Rattle.std.specs.Prelude.{◌≡◌, ℕ, ◌<◌, ◌==◌, ◌⊎◌, Bool, true, false, List, [], ◌∷◌, ◌++◌, map, filter, flat_map, length, bytes_eq, refl, Option, Some, None, option_map, unwrap_or}
use Rattle.std.specs.List.{list_all, AllByRecursion}
use Rattle.std.specs.Option.{option_map_or}
use Rattle.std.proofs.Common.{sym, ◌∙◌, ap, subst, inl, inr, append-nil}
use Rattle.std.proofs.lemmas.Bool.{eqb-true, eq-eqb, cases_Bool, and_parts}
use Rattle.std.proofs.lemmas.Slice.Eq.{bytes_eq-Decides}
use Rattle.sg_model.specs.Last.{has, last, up_to_last}
use Rattle.sg_model.specs.Lists.{first_some}
use Rattle.sg_model.specs.Shape.{role_at, target, receiver}
use Rattle.sg_model.specs.Values.{Opening, Code}
use Rattle.sg_model.specs.Names.{Name}
use Rattle.sg_protocol.specs.Graph.{Graph, IsGraph, shape}
use Rattle.sg_protocol.specs.Evidence.{IsView, IsViewTable}
use Rattle.sg_protocol.specs.Frame.{Cast, Item, Frame, IsOpening}
use Rattle.sg_protocol.specs.Spelling.{HasSpelling}
use Rattle.sg_protocol.specs.Texts.{Hash, commitment, commitment_text_of, session_text_of}
use Rattle.sg_protocol.specs.TextLaws.{OpeningFits}
use Rattle.sg_protocol.specs.Keyring.{Program}
use Rattle.sg_protocol.specs.Session.{Session, Took, principal, items_of, origin, place, at_turn, last_label, extended, new_session}
use Rattle.sg_protocol.specs.Calls.{Refusal, Deliver, Happened, NotDelivered, UnknownGraph, UnknownSession, NotWaiting, Malformed}
use Rattle.sg_protocol.specs.Verdict.{row, rows_of_session, is_right, seen, decided, receipt, verdict_on, rows_of_join, rows_of_next, join_rows, next_rows, rows}
use Rattle.sg_protocol.specs.Notes.{Note, notes_in_session, Notes, notes, no_notes, notes_of_read, session_of_frame, hashed_of_join, hashed_openings, row_number}
use Rattle.sg_protocol.specs.Walk.{is_typed_or_hidden, shown}
use Rattle.sg_protocol.specs.Schedule.{Schedule, is_honest, honest_role}
use Rattle.sg_law.specs.Last as B
use Rattle.sg_law.specs.Run as R
use Rattle.sg_law.specs.Values as V
use Rattle.sg_law.specs.Values.{State, Commit, moved, MayTake}
use Rattle.sg_law.specs.Values.Move.{Takes}
use Rattle.sg_law.specs.Values.Deed.{ReadAlong}
use Rattle.sg_law.proofs.Cut.{last-option_map}
use Rattle.sg_protocol.proofs.Bridge.{has_view-Contains}
use Rattle.sg_protocol.proofs.Entries.{entry, entries, Roles}
use Rattle.sg_protocol.proofs.Moves.{NoteOk, Matches, row_none}
use Rattle.sg_protocol.specs.Acting.{answer}
use Rattle.std.specs.Prelude.{Result, Ok, Err}
use Rattle.sg_model.specs.Bytes.{IsBytes}
use Rattle.sg_model.proofs.Small.{none_parts, same_bytes, none_some}
use Rattle.sg_model.proofs.Members.{In, in_right, in_map}
use Rattle.sg_model.proofs.Finding.{find_passes}
use Rattle.sg_protocol.specs.Reading.{read}
use Rattle.sg_protocol.specs.Node.{Node, is_for, session_for, has_joined, program_for}
use Rattle.sg_protocol.specs.NodeAfter.{node_after, joined, goes_on, still, takes_read}
use Rattle.sg_protocol.specs.Walk as Walk'
use Rattle.sg_protocol.proofs.Paths.{acts_of}
use Rattle.sg_protocol.proofs.TextLaws.{opening_fits}
use Rattle.sg_protocol.proofs.ReadBack.{read-SpellsFrame}
use Rattle.sg_protocol.proofs.Entries.{not_start}
use Rattle.sg_protocol.proofs.KnownSession.{SessionOfCast}
use Rattle.sg_protocol.proofs.Takes as T
use Rattle.sg_protocol.proofs.Finding.{one_index, joined_more, joined_less, joined_now}
use Rattle.sg_protocol.proofs.Calls.{transcript_in, quiet_event, Fresh, NodeOk, TakesFrame, Out}
use Rattle.sg_protocol.proofs.AfterCalls.{event_other, joined_other, kept_takes, new_matches, transcript_step, join_now, goes_now, join_status, goes_status, other_status, nothing, no_two, joined_ok, other_joined, the_session}
use Rattle.sg_protocol.proofs.OfSid.{of_sid, replace-other, still-own, still-other, for_sid}
use Rattle.sg_protocol.proofs.NoRows.{JoinRows, no_join_row, joining_session, continued_session, text_hashed, join_fits, rows_join, rows_next, cast_parts}
use Rattle.sg_protocol.proofs.Nodes.{all_still, all_replaced}

ok_same : (r : Result Frame ℕ) (f f' : Frame) → r ≡ Ok f → r ≡ Ok f' → f ≡ f'
ok_same r f f' a b = cc

module _ {sha : Hash} {programs : List Program} {sid : List ℕ} {cast : Cast} {g : Graph} {Hashed : List ℕ → Type 0} (known : SessionOfCast sha programs sid cast g Hashed) (s : Schedule) (LeftBy : Name → Type 0) (st : State) (who : Name) (n : Node) (ok : NodeOk known s LeftBy st who n) (hon : is_honest s who ≡ true) where
  abbrev commit : Commit
  commit o = commitment sha sid o

  abbrev honest : ℕ → Bool
  honest h = honest_role s cast h

  module _ (f : Frame) (spelled : HasSpelling f) where
    -- what a session takes, in the graph z
    record TakenAt (z : Graph) (x : Session) : Type 0 where
      node : ℕ
      may : MayTake (shape z) honest commit st x.role node (entries f.items) f.openings
      matches : Matches z sid cast (moved commit st (Takes x.role node (entries f.items) f.openings)) who (extended x (Took f))
      last_one : Item
      is_last : last f.items ≡ Some last_one
      by_me : receiver (shape z) last_one.label ≡ x.role
      no_own : has (λ (i : Item). i.role) x.role f.items ≡ false
      view : IsView z x.role (record { origin = option_map (λ (t : TimedLabel). t.label) (st.machine.at x.role).own; items = map seen f.items })
      typed : list_all (is_typed_or_hidden z) (V.values_of f.openings) ≡ true
      its_origin : origin x ≡ option_map (λ (t : TimedLabel). t.label) (st.machine.at x.role).own

    taken_at : (x : Session) (p : Program) → p.graph ≡ g → IsViewTable p.graph x.role p.views → Matches g sid cast st who x → at_turn g x ≡ false → f.sid ≡ sid → f.receiver ≡ x.role → T.Rows sha n.keys p x f
        → ((nt : Note) → In (notes_in_session sha n.keys p x f 16).found nt → is_honest s nt.one ≡ true → is_honest s nt.two ≡ true → NoteOk g sid st.log nt) → TakenAt g x
    taken_at x p pg views m wait fs fr rs found =
        let is' : IsGraph p.graph = subst IsGraph (sym pg) known.is_graph in
        let m' : Matches p.graph sid cast st who x = subst (λ z. Matches z sid cast st who x) (sym pg) m in
        let wait' : at_turn p.graph x ≡ false = subst (λ z. at_turn z x ≡ false) (sym pg) wait in
        let found' : (nt : Note) → In (notes_in_session sha n.keys p x f 16).found nt → is_honest s nt.one ≡ true → is_honest s nt.two ≡ true → NoteOk p.graph sid st.log nt = subst (λ z. (nt : Note) → In (notes_in_session sha n.keys p x f 16).found nt → is_honest s nt.one ≡ true → is_honest s nt.two ≡ true → NoteOk z sid st.log nt) (sym pg) found in
        subst (λ z. TakenAt z x) pg record {
          node = T.n sha s sid cast n.keys p x f st who is' m' ok.me hon views known.is_version known.long_sid wait' spelled fs fr rs found';
          may = T.may sha s sid cast n.keys p x f st who is' m' ok.me hon views known.is_version known.long_sid wait' spelled fs fr rs found';
          matches = T.taken sha s sid cast n.keys p x f st who is' m' ok.me hon views known.is_version known.long_sid wait' spelled fs fr rs found';
          last_one = (T.last_item sha s sid cast n.keys p x f st who is' m' ok.me hon views known.is_version known.long_sid wait' spelled fs fr rs found').0;
          is_last = (T.last_item sha s sid cast n.keys p x f st who is' m' ok.me hon views known.is_version known.long_sid wait' spelled fs fr rs found').1;
          no_own = T.no_own sha s sid cast n.keys p x f st who is' m' ok.me hon views known.is_version known.long_sid wait' spelled fs fr rs found';
          view = T.law_view sha s sid cast n.keys p x f st who is' m' ok.me hon views known.is_version known.long_sid wait' spelled fs fr rs found';
          by_me = T.by_me sha s sid cast n.keys p x f st who is' m' ok.me hon views known.is_version known.long_sid wait' spelled fs fr rs found';
          its_origin = T.law_origin sha s sid cast n.keys p x f st who is' m' ok.me hon views known.is_version known.long_sid wait' spelled fs fr rs found';
          typed = T.values_typed sha s sid cast n.keys p x f st who is' m' ok.me hon views known.is_version known.long_sid wait' spelled fs fr rs found';
        }

    abbrev nts_in : ℕ → Option (Program × Session) → Notes
    nts_in k o = option_map_or (λ (y : Program × Session). notes_in_session sha n.keys y.0 y.1 f k) o no_notes

    abbrev nts_of : ℕ → Option (Program × Session) → Notes
    nts_of k o = record { made = (nts_in k o).made; found = (nts_in k o).found; hashed = hashed_of_join f k ++ (nts_in k o).hashed }

    no_made : (k : ℕ) (o : Option (Program × Session)) (nt : Note) → In (nts_of k o).made nt → ⊥
    no_made k None nt i = i
    no_made k (Some y) nt i = i

    hashed_all : (z : Graph) (x : Session) (os : List Opening) → list_all (is_right sha z x f) os ≡ true → hashed_openings sha z x f os ≡ os
    hashed_all z x [] h = refl
    hashed_all z x (o ∷ os) h = let ps = and_parts (is_right sha z x f o) (list_all (is_right sha z x f) os) h in rw ps.0 (ap (λ l. o ∷ l) (hashed_all z x os ps.1))

    shown_openings : (os : List Opening) → shown (map (λ (o : Opening). (o.variable, o.value)) os) ≡ V.values_of os
    shown_openings [] = refl
    shown_openings (o ∷ os) = ap (λ l. (o.variable, Some o.value) ∷ l) (shown_openings os)

    fit_openings : (os : List Opening) → AllByRecursion IsOpening os → AllByRecursion OpeningFits os
    fit_openings [] h = tt
    fit_openings (o ∷ os) h = (opening_fits o h.0, fit_openings os h.1)

    -- the answer to a frame that session x takes
    take_done : (bs : List ℕ) → read bs ≡ Ok f → (x : Session) (p : Program) → session_of_frame n f ≡ Some (p, x) → (rs : T.Rows sha n.keys p x f) → Matches g sid cast st who x → x.sid ≡ sid → f.sid ≡ sid → f.receiver ≡ x.role → principal cast x.role ≡ who → (t : TakenAt g x)
        → NodeOk known s LeftBy (moved commit st (Takes x.role t.node (entries f.items) f.openings)) who (node_after n (Deliver bs) (Happened (receipt f)))
        → at_turn g x ≡ false → p.graph ≡ g
        → ((filter (of_sid sid) n.live ≡ x ∷ []) × (f.join ≡ None)) ⊎ ((filter (of_sid sid) n.live ≡ []) × (has_joined n.joins sid x.role ≡ false) × (x ≡ new_session sid cast x.role))
        → filter (of_sid sid) (node_after n (Deliver bs) (Happened (receipt f))).live ≡ still programs (extended x (Took f)) → has_joined (node_after n (Deliver bs) (Happened (receipt f))).joins sid x.role ≡ true
        → ((r : ℕ) → has_joined n.joins sid r ≡ true → has_joined (node_after n (Deliver bs) (Happened (receipt f))).joins sid r ≡ true) → Out known s LeftBy st who n (Deliver bs) (Happened (receipt f)) (nts_of 16 (Some (p, x)))
    take_done bs is_read x p sess rs m xs fs fr is_who t node' wait pg before now_ joined_ more_ = record {
      moves = Takes x.role t.node (entries f.items) f.openings ∷ [];
      may = (t.may, tt);
      node = node';
      kept = kept_takes known s LeftBy who st x.role t.node (entries f.items) f.openings is_who;
      events = rw ((bytes_eq-Decides f.sid sid).1 fs) (
          ap (λ o. Walk'.Receives f.receiver (unwrap_or (option_map (λ (i : Item). i.label) o) 0) (shown (map (λ (o : Opening). (o.variable, o.value)) f.openings)) ∷ []) t.is_last
          ∙ ap (λ l. Walk'.Receives f.receiver (t.last_one).label l ∷ []) (shown_openings f.openings)
          ∙ ap (λ r. Walk'.Receives r (t.last_one).label (V.values_of f.openings) ∷ []) (fr ∙ sym t.by_me)
          ∙ ap (λ o. flat_map (acts_of g) (ReadAlong (option_map (λ (i : B.Entry TimedLabel Code). i.step.label) o) (V.values_of f.openings) ∷ [])) (sym (last-option_map entry f.items ∙ ap (option_map entry) t.is_last)));
      typed = (t.typed, tt);
      used = used_in f.openings (fit_openings f.openings spelled.fields.openings) (λ o i. i);
      made = λ nt i. absurd (no_made 16 (Some (p, x)) nt i);
      log = λ mk i. i;
      transcript = λ r e l. subst (λ k. ((moved commit st (Takes x.role t.node (entries f.items) f.openings)).transcript k ≡ st.transcript k ++ entries (transcript_in sid k (Deliver bs) (Happened (receipt f)))) × Roles (shape g) (transcript_in sid k (Deliver bs) (Happened (receipt f))))
          (one_index cast.names x.role r known.names_differ m.inside l (m.is_who ∙ sym e))
          (rw took_transcript (transcript_step known s LeftBy st (moved commit st (Takes x.role t.node (entries f.items) f.openings)) who x (Took f) m t.matches));
      sent = (sym (append-nil st.machine.sent), tt);
      took = λ f' q. (
          let same : Deliver bs ≡ Deliver q.bs = q.is_call in
          let same' : bs ≡ q.bs = cc in
          let ff : f ≡ f' = ok_same (read bs) f f' is_read (ap read same' ∙ q.is_read) in
          subst (TakesFrame known s LeftBy who (Takes x.role t.node (entries f.items) f.openings ∷ [])) ff record {
            node = t.node;
            are = ap (λ r. Takes r t.node (entries f.items) f.openings ∷ []) (sym fr);
            is_who = ap (principal cast) fr ∙ m.is_who;
            inside = subst (λ r. r < length cast.names) (sym fr) m.inside;
            no_own = subst (λ r. has (λ (i : Item). i.role) r f.items ≡ false) (sym fr) t.no_own;
            roles = (transcript_step known s LeftBy st (moved commit st (Takes x.role t.node (entries f.items) f.openings)) who x (Took f) m t.matches).1;
          }
          );
      views = λ f' q. (
          let same : Deliver bs ≡ Deliver q.bs = q.is_call in
          let same' : bs ≡ q.bs = cc in
          let ff : f ≡ f' = ok_same (read bs) f f' is_read (ap read same' ∙ q.is_read) in
          subst (λ (f : Frame). IsView g f.receiver (record { origin = option_map (λ (t : TimedLabel). t.label) (st.machine.at f.receiver).own; items = map seen f.items })) ff
          (subst (λ r. IsView g r (record { origin = option_map (λ (t : TimedLabel). t.label) (st.machine.at r).own; items = map seen f.items })) (sym fr) t.view)
          );
      origins = λ f' p' x' q e. (
          let same : Deliver bs ≡ Deliver q.bs = q.is_call in
          let same' : bs ≡ q.bs = cc in
          let ff : f ≡ f' = ok_same (read bs) f f' is_read (ap read same' ∙ q.is_read) in
          let two : Some (p, x) ≡ Some (p', x') = sym sess ∙ ap (session_of_frame n) ff ∙ e in
          let pair : (p, x) ≡ (p', x') = cc in
          subst (λ (z : Session). origin z ≡ option_map (λ (t : TimedLabel). t.label) (st.machine.at f'.receiver).own) (ap (λ (z : Program × Session). z.1) pair)
          (t.its_origin ∙ ap (λ r. option_map (λ (t : TimedLabel). t.label) (st.machine.at r).own) (sym fr ∙ ap (λ (z : Frame). z.receiver) ff))
          );
      life = inr (inr (inr (inl record {
        f = f;
        spelled = spelled;
        took = record { bs = bs; is_call = refl; is_read = is_read; is_answer = refl; is_sid = fs };
        x = x;
        same_sid = xs;
        same_cast = m.same_cast;
        same_role = fr;
        is_who = is_who;
        inside = m.inside;
        wait = wait;
        p = p;
        is_graph = pg;
        rows = rs;
        before = before;
        now = now_;
        was_joined = joined_;
        turn = turn_now (cases_Bool (at_turn g (extended x (Took f))));
      })));
      more_joins = more_;
    }
      where
        turn_now : (at_turn g (extended x (Took f)) ≡ true) ⊎ (at_turn g (extended x (Took f)) ≡ false) → at_turn g (extended x (Took f)) ≡ true
        turn_now (inl a) = a
        turn_now (inr b) = absurd (none_some (record { node = t.node; time = R.time_after (R.time_of_own (st.machine.at x.role).own) (V.steps_of (entries f.items)) }) (sym (rw (eq-eqb x.role x.role refl) at (t.matches.waits b))))

        took_transcript : transcript_in sid x.role (Deliver bs) (Happened (receipt f)) ≡ f.items
        took_transcript = rw ((bytes_eq-Decides f.sid sid).1 fs, eq-eqb f.receiver x.role fr, is_read) (append-nil f.items)

        used_in : (zs : List Opening) → AllByRecursion OpeningFits zs → ((o : Opening) → In zs o → In f.openings o) → AllByRecursion (λ (o : Opening). In (nts_of 16 (Some (p, x))).hashed (commitment_text_of sid o) × OpeningFits o) (zs ++ [])
        used_in [] a w = tt
        used_in (o ∷ zs) a w = (
          (
            in_right (hashed_of_join f 16) (map (commitment_text_of x.sid) (hashed_openings sha p.graph x f f.openings)) (commitment_text_of sid o)
                (subst (λ l. In (map (commitment_text_of x.sid) l) (commitment_text_of sid o)) (sym (hashed_all p.graph x f.openings rs.openings)) (subst (λ y. In (map (commitment_text_of y) f.openings) (commitment_text_of sid o)) (sym xs) (in_map (commitment_text_of sid) f.openings o (w o (inl refl))))),
            a.0,
          ),
          used_in zs a.1 (λ z i. w z (inr i)),
        )

    module _ (bs : List ℕ) (is_read : read bs ≡ Ok f)
        (founds : (nt : Note) → In (notes_of_read sha n (Ok f)).found nt → is_honest s nt.one ≡ true → is_honest s nt.two ≡ true → NoteOk g sid st.log nt)
        (hs : (t : List ℕ) → In (notes_of_read sha n (Ok f)).hashed t → Hashed t) where
      abbrev took : Session → List Session
      took z = still n.programs (extended z (Took f))

      abbrev nexts : Option Cast → Node
      nexts o = option_map_or (λ c. joined n (extended (new_session f.sid c f.receiver) (Took f))) o (goes_on n (is_for f) took)

      other_node : bytes_eq f.sid sid ≡ false → (o : Option Cast) → NodeOk known s LeftBy st who (nexts o)
      other_node h (Some c) = other_joined known s LeftBy st who n ok (extended (new_session f.sid c f.receiver) (Took f)) h spelled.fields.sid.0
      other_node h None = record {
        me = ok.me;
        has_programs = ok.has_programs;
        lengths = all_replaced (λ (x : Session). length x.sid ≡ 32) (is_for f) took n.live (λ z q l. all_still (λ (x : Session). length x.sid ≡ 32) n.programs (extended z (Took f)) l) ok.lengths;
        status = other_status known s LeftBy st who n (goes_on n (is_for f) took) (replace-other (is_for f) took (λ z e. subst (λ y. bytes_eq y sid ≡ false) (sym (for_sid f z e)) h) (λ z e. still-other sid n.programs (extended z (Took f)) (subst (λ y. bytes_eq y sid ≡ false) (sym (for_sid f z e)) h)) n.live) (λ r j. j) ok.status;
      }

      other_live : bytes_eq f.sid sid ≡ false → (o : Option Cast) → filter (of_sid sid) (nexts o).live ≡ filter (of_sid sid) n.live
      other_live h (Some c) = joined_other sid n (extended (new_session f.sid c f.receiver) (Took f)) h
      other_live h None = replace-other (is_for f) took (λ z e. subst (λ y. bytes_eq y sid ≡ false) (sym (for_sid f z e)) h) (λ z e. still-other sid n.programs (extended z (Took f)) (subst (λ y. bytes_eq y sid ≡ false) (sym (for_sid f z e)) h)) n.live

      other_joins : (r : ℕ) → has_joined n.joins sid r ≡ true → (o : Option Cast) → has_joined (nexts o).joins sid r ≡ true
      other_joins r j (Some c) = joined_more n.joins (f.sid, f.receiver) sid r j
      other_joins r j None = j

      other_fewer : bytes_eq f.sid sid ≡ false → (r : ℕ) (o : Option Cast) → has_joined (nexts o).joins sid r ≡ true → has_joined n.joins sid r ≡ true
      other_fewer h r (Some c) j = joined_less n.joins (f.sid, f.receiver) sid r h j
      other_fewer h r None j = j

      other_done : bytes_eq f.sid sid ≡ false → Out known s LeftBy st who n (Deliver bs) (Happened (receipt f)) (notes_of_read sha n (Ok f))
      other_done h = nothing known s LeftBy st who n (Deliver bs) (Happened (receipt f)) (notes_of_read sha n (Ok f)) (subst (NodeOk known s LeftBy st who) (sym (ap (takes_read n) is_read)) (other_node h f.join)) (event_other sid (receipt f) h) (quiet_event sid (receipt f) h) (λ nt i. absurd (no_made (row_number (first_some (rows sha n f))) (session_of_frame n f) nt i)) (inl (ap (λ (m : Node). filter (of_sid sid) m.live) (ap (takes_read n) is_read) ∙ other_live h f.join)) (λ r j. subst (λ (m : Node). has_joined m.joins sid r ≡ true) (sym (ap (takes_read n) is_read)) (other_joins r j f.join)) (λ r j. other_fewer h r f.join (subst (λ (m : Node). has_joined m.joins sid r ≡ true) (ap (takes_read n) is_read) j))

      -- if no row holds, the notes are those of the session
      notes_are : first_some (rows sha n f) ≡ None → (y : Program × Session) → session_of_frame n f ≡ Some y → notes_of_read sha n (Ok f) ≡ nts_of 16 (Some y)
      notes_are e y e2 = ap (λ r. nts_of (row_number r) (session_of_frame n f)) e ∙ ap (nts_of 16) e2

      join_done : first_some (rows sha n f) ≡ None → f.sid ≡ sid → (c : Cast) → f.join ≡ Some c → (p : Program) → program_for n.programs c.graph f.receiver ≡ Some p → first_some (rows_of_join sha n f c p) ≡ None → Out known s LeftBy st who n (Deliver bs) (Happened (receipt f)) (notes_of_read sha n (Ok f))
      join_done e fs c jc p pc rj =
          let x : Session = new_session f.sid c f.receiver in
          let r : JoinRows sha n f c p = no_join_row sha n f c p rj in
          let rs : T.Rows sha n.keys p x f = T.rows_of sha n.keys p x f r.rows in
          let sess : session_of_frame n f ≡ Some (p, x) = joining_session sha n f c jc p pc in
          let nts : notes_of_read sha n (Ok f) ≡ nts_of 16 (Some (p, x)) = notes_are e (p, x) sess in
          let its : c ≡ cast = known.one_cast c (join_fits sha n f c jc spelled) (hs (session_text_of c) (text_hashed sha n f c jc e)) (sym r.sid ∙ fs) in
          let cp = cast_parts n.keys p.graph c f.receiver r.cast in
          let free : has_joined n.joins sid f.receiver ≡ false = subst (λ z. has_joined n.joins z f.receiver ≡ false) fs r.unjoined in
          let is_who : principal cast f.receiver ≡ who = subst (λ (z : Cast). principal z f.receiver ≡ who) its (cp.1 ∙ ok.me) in
          let inside : f.receiver < length cast.names = subst (λ (z : Cast). f.receiver < length z.names) its cp.0 in
          let fresh : Fresh known s LeftBy st who n = no_two known s LeftBy st who n f.receiver ok.status is_who inside free in
          let m : Matches g sid cast st who x = new_matches known s LeftBy st who c f.sid f.receiver fs its is_who inside (fresh.all f.receiver is_who inside) in
          let pr = known.programs_of f.receiver p (subst (λ ps. program_for ps cast.graph f.receiver ≡ Some p) ok.has_programs (subst (λ (z : Cast). program_for n.programs z.graph f.receiver ≡ Some p) its pc)) in
          let wait : at_turn g x ≡ false = no_turn p x pr.0 pr.1 rs refl in
          let t : TakenAt g x = taken_at x p pr.0 pr.1 m wait fs refl rs (λ nt i. founds nt (subst (λ (z : Notes). In z.found nt) (sym nts) i)) in
          subst (Out known s LeftBy st who n (Deliver bs) (Happened (receipt f))) (sym nts)
          (take_done bs is_read x p sess rs m fs fs refl is_who t
          (subst (NodeOk known s LeftBy (moved commit st (Takes f.receiver t.node (entries f.items) f.openings)) who) (sym (ap (takes_read n) is_read ∙ ap nexts jc))
          (joined_ok known s LeftBy st who n ok (extended x (Took f)) (moved commit st (Takes f.receiver t.node (entries f.items) f.openings)) spelled.fields.sid.0 (join_status known s LeftBy (moved commit st (Takes f.receiver t.node (entries f.items) f.openings)) who n (extended x (Took f)) ok.has_programs fresh.alone t.matches)))
          wait pr.0 (inr (fresh.alone, free, ap (λ z. new_session z c f.receiver) fs ∙ ap (λ z. new_session sid z f.receiver) its))
          (ap (λ (m : Node). filter (of_sid sid) m.live) (ap (takes_read n) is_read ∙ ap nexts jc) ∙ join_now known s LeftBy n (extended x (Took f)) ok.has_programs fresh.alone fs)
          (subst (λ (m : Node). has_joined m.joins sid f.receiver ≡ true) (sym (ap (takes_read n) is_read ∙ ap nexts jc)) (subst (λ z. has_joined (n.joins ++ (z, f.receiver) ∷ []) sid f.receiver ≡ true) (sym fs) (joined_now n.joins sid f.receiver)))
          (λ r j. subst (λ (m : Node). has_joined m.joins sid r ≡ true) (sym (ap (takes_read n) is_read ∙ ap nexts jc)) (joined_more n.joins (f.sid, f.receiver) sid r j)))
        where
          no_turn : (p : Program) (x : Session) → p.graph ≡ g → IsViewTable p.graph x.role p.views → T.Rows sha n.keys p x f → x.exchanges ≡ [] → at_turn g x ≡ false
          no_turn p x pg views rs none = elim (cases_Bool (at_turn g x)) [
            | inl a ↦ absurd (not_start p.graph x.role (record { origin = origin x; items = map seen f.items }) ((views.each (record { origin = origin x; items = map seen f.items })).0 (has_view-Contains p.views (record { origin = origin x; items = map seen f.items }) rs.viewed))
                (ap (λ es. last_label (up_to_last (λ (i : Item). i.role) x.role (flat_map items_of es))) none)
                (ap (λ z. role_at (shape z) 0) pg ∙ ap (λ es. role_at (shape g) (unwrap_or (option_map (target (shape g)) (last_label (flat_map items_of es))) 0)) (sym none) ∙ eqb-true (role_at (shape g) (place g x)) x.role a))
            | inr b ↦ b
          ]

      next_done : first_some (rows sha n f) ≡ None → f.sid ≡ sid → f.join ≡ None → (x : Session) → session_for n.live f ≡ Some x → (p : Program) → program_for n.programs x.cast.graph x.role ≡ Some p → first_some (rows_of_next sha n f x p) ≡ None → Out known s LeftBy st who n (Deliver bs) (Happened (receipt f)) (notes_of_read sha n (Ok f))
      next_done e fs jn x sx p px rn =
          let own : (z : Session) → is_for f z ≡ true → of_sid sid z ≡ true = λ z w. (bytes_eq-Decides z.sid sid).1 (for_sid f z w ∙ fs) in
          let h = the_session known s LeftBy st who n ok (is_for f) own x sx in
          let m : Matches g sid cast st who x = subst (Matches g sid cast st who) (sym h.1) (h.0).matches in
          let pr = known.programs_of x.role p (subst (λ ps. program_for ps cast.graph x.role ≡ Some p) ok.has_programs (subst (λ (c : Cast). program_for n.programs c.graph x.role ≡ Some p) m.same_cast px)) in
          let r1 = none_parts (row (at_turn p.graph x) NotWaiting) (rows_of_session sha n.keys p x f) rn in
          let rs : T.Rows sha n.keys p x f = T.rows_of sha n.keys p x f r1.1 in
          let wait : at_turn g x ≡ false = subst (λ z. at_turn z x ≡ false) pr.0 (row_none _ _ r1.0) in
          let role : f.receiver ≡ x.role = sym (eqb-true x.role f.receiver (and_parts (bytes_eq x.sid f.sid) (x.role == f.receiver) (and_parts _ (x.cast.version == f.version) (find_passes (is_for f) n.live x sx)).0).1) in
          let sess : session_of_frame n f ≡ Some (p, x) = continued_session sha n f x jn sx p px in
          let nts : notes_of_read sha n (Ok f) ≡ nts_of 16 (Some (p, x)) = notes_are e (p, x) sess in
          let t : TakenAt g x = taken_at x p pr.0 pr.1 m wait fs role rs (λ nt i. founds nt (subst (λ (z : Notes). In z.found nt) (sym nts) i)) in
          subst (Out known s LeftBy st who n (Deliver bs) (Happened (receipt f))) (sym nts)
          (take_done bs is_read x p sess rs m m.same_sid fs role m.is_who t
          (subst (NodeOk known s LeftBy (moved commit st (Takes x.role t.node (entries f.items) f.openings)) who) (sym (ap (takes_read n) is_read ∙ ap nexts jn)) record {
            me = ok.me;
            has_programs = ok.has_programs;
            lengths = all_replaced (λ (x : Session). length x.sid ≡ 32) (is_for f) took n.live (λ z q l. all_still (λ (x : Session). length x.sid ≡ 32) n.programs (extended z (Took f)) l) ok.lengths;
            status = goes_status known s LeftBy st who n h.0 (is_for f) took (moved commit st (Takes x.role t.node (entries f.items) f.openings)) (extended x (Took f)) ok.has_programs own (λ z w. still-own sid n.programs (extended z (Took f)) (own z w)) h.2 (ap took (sym h.1)) (ap (λ (z : Session). z.role) h.1) t.matches;
          })
          wait pr.0 (inl ((h.0).alone ∙ ap (λ z. z ∷ []) (sym h.1), jn))
          (ap (λ (m : Node). filter (of_sid sid) m.live) (ap (takes_read n) is_read ∙ ap nexts jn) ∙ goes_now known s LeftBy n x (is_for f) took (extended x (Took f)) ((h.0).alone ∙ ap (λ z. z ∷ []) (sym h.1)) ok.has_programs own (λ z w. still-own sid n.programs (extended z (Took f)) (own z w)) (find_passes (is_for f) n.live x sx) refl)
          (subst (λ (m : Node). has_joined m.joins sid x.role ≡ true) (sym (ap (takes_read n) is_read ∙ ap nexts jn)) (ap (λ (z : Session). has_joined n.joins sid z.role) h.1 ∙ (h.0).was_joined))
          (λ r j. subst (λ (m : Node). has_joined m.joins sid r ≡ true) (sym (ap (takes_read n) is_read ∙ ap nexts jn)) j))

      join_program : first_some (rows sha n f) ≡ None → f.sid ≡ sid → (c : Cast) → f.join ≡ Some c → (o : Option Program) → program_for n.programs c.graph f.receiver ≡ o → Out known s LeftBy st who n (Deliver bs) (Happened (receipt f)) (notes_of_read sha n (Ok f))
      join_program e fs c jc None pc = (let q : first_some (rows sha n f) ≡ Some UnknownGraph = rows_join sha n f c jc None pc in absurd (cc))
      join_program e fs c jc (Some p) pc = join_done e fs c jc p pc (sym (rows_join sha n f c jc (Some p) pc) ∙ e)

      next_program : first_some (rows sha n f) ≡ None → f.sid ≡ sid → f.join ≡ None → (x : Session) → session_for n.live f ≡ Some x → (o : Option Program) → program_for n.programs x.cast.graph x.role ≡ o → Out known s LeftBy st who n (Deliver bs) (Happened (receipt f)) (notes_of_read sha n (Ok f))
      next_program e fs jn x sx None px = (let q : first_some (rows sha n f) ≡ Some UnknownSession = rows_next sha n f x jn sx None px in absurd (cc))
      next_program e fs jn x sx (Some p) px = next_done e fs jn x sx p px (sym (rows_next sha n f x jn sx (Some p) px) ∙ e)

      next_session : first_some (rows sha n f) ≡ None → f.sid ≡ sid → f.join ≡ None → (o : Option Session) → session_for n.live f ≡ o → Out known s LeftBy st who n (Deliver bs) (Happened (receipt f)) (notes_of_read sha n (Ok f))
      next_session e fs jn None sx = (let q : first_some (rows sha n f) ≡ Some UnknownSession = ap (λ o. first_some (option_map_or (join_rows sha n f) o (next_rows sha n f))) jn ∙ ap (λ o. first_some (option_map_or (λ z. option_map_or (rows_of_next sha n f z) (program_for n.programs z.cast.graph z.role) (Some UnknownSession ∷ [])) o (Some UnknownSession ∷ []))) sx in absurd (cc))
      next_session e fs jn (Some x) sx = next_program e fs jn x sx (program_for n.programs x.cast.graph x.role) refl

      by_join : first_some (rows sha n f) ≡ None → f.sid ≡ sid → (o : Option Cast) → f.join ≡ o → Out known s LeftBy st who n (Deliver bs) (Happened (receipt f)) (notes_of_read sha n (Ok f))
      by_join e fs None j = next_session e fs j (session_for n.live f) refl
      by_join e fs (Some c) j = join_program e fs c j (program_for n.programs c.graph f.receiver) refl

      by_rows : (o : Option Refusal) → first_some (rows sha n f) ≡ o → Out known s LeftBy st who n (Deliver bs) (decided (receipt f) o) (notes_of_read sha n (Ok f))
      by_rows (Some r) e = nothing known s LeftBy st who n (Deliver bs) (NotDelivered r) (notes_of_read sha n (Ok f)) ok refl refl (λ nt i. absurd (no_made (row_number (first_some (rows sha n f))) (session_of_frame n f) nt i)) (inl refl) (λ r j. j) (λ r j. j)
      by_rows None e = elim (cases_Bool (bytes_eq f.sid sid)) [ inl h ↦ by_join e (same_bytes f.sid sid h) f.join refl | inr h ↦ other_done h ]

  pub deliver_out : (bs : List ℕ) → IsBytes bs → ((nt : Note) → In (notes sha n (Deliver bs)).found nt → is_honest s nt.one ≡ true → is_honest s nt.two ≡ true → NoteOk g sid st.log nt) → ((t : List ℕ) → In (notes sha n (Deliver bs)).hashed t → Hashed t)
      → Out known s LeftBy st who n (Deliver bs) (answer sha n (Deliver bs)) (notes sha n (Deliver bs))
  deliver_out bs bytes founds hs = go (read bs) refl
    where
      go : (r : Result Frame ℕ) → read bs ≡ r → Out known s LeftBy st who n (Deliver bs) (answer sha n (Deliver bs)) (notes sha n (Deliver bs))
      go (Err at) e = subst (λ r. Out known s LeftBy st who n (Deliver bs) (verdict_on sha n r) (notes_of_read sha n r)) (sym e) (nothing known s LeftBy st who n (Deliver bs) (NotDelivered (Malformed at)) no_notes ok refl refl (λ nt i. absurd i) (inl refl) (λ r j. j) (λ r j. j))
      go (Ok f) e = subst (λ r. Out known s LeftBy st who n (Deliver bs) (verdict_on sha n r) (notes_of_read sha n r)) (sym e)
          (by_rows f (read-SpellsFrame bs f bytes e).is_frame bs e (subst (λ r. (nt : Note) → In (notes_of_read sha n r).found nt → is_honest s nt.one ≡ true → is_honest s nt.two ≡ true → NoteOk g sid st.log nt) e founds) (subst (λ r. (t : List ℕ) → In (notes_of_read sha n r).hashed t → Hashed t) e hs) (first_some (rows sha n f)) refl)
