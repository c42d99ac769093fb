-- In each call of a run the walk that is made event by event goes on as the law makes it move by move.
use Rattle.std.specs.Prelude.{◌≡◌, ℕ, ◌+◌, Bool, true, List, [], ◌∷◌, ◌++◌, map, filter, filter_map, flat_map, bytes_eq, refl, Option, Some, None, option_map, Ok}
use Rattle.std.specs.List.{AllByRecursion}
use Rattle.std.proofs.Common.{sym, ◌∙◌, ap, subst, inl, inr, append-nil}
use Rattle.std.proofs.lemmas.List.{map-append}
use Rattle.std.proofs.lemmas.Slice.Eq.{bytes_eq-Decides}
use Rattle.sg_model.specs.Last.{Map, last, after_last}
use Rattle.sg_model.specs.Shape.{sender, end_of}
use Rattle.sg_model.specs.Values.{Value, Opening, Code}
use Rattle.sg_model.specs.Names.{Name}
use Rattle.sg_model.proofs.Small.{no_last}
use Rattle.sg_model.proofs.Members.{In, split_at_end}
use Rattle.sg_model.proofs.Finding.{none_filter}
use Rattle.sg_law.specs.Accept.{TimedLabel}
use Rattle.sg_law.specs.Last as B
use Rattle.sg_law.specs.Run as R
use Rattle.sg_law.specs.Values as V
use Rattle.sg_law.specs.Values.{State, Stored, Commit, Move, Sight, MayTake, AllMay, moved_all, Binding, all_openings}
use Rattle.sg_law.specs.Values.Move.{Writes, Takes}
use Rattle.sg_law.specs.Explaining as G
use Rattle.sg_law.specs.Explaining.{unknown, after_honest, moves_of}
use Rattle.sg_law.proofs.Cut.{last-option_map}
use Rattle.sg_law.proofs.Follow.{own_is_sent}
use Rattle.sg_protocol.specs.Graph.{Graph, shape, IsGraph}
use Rattle.sg_protocol.specs.Evidence.{View, IsView}
use Rattle.sg_protocol.specs.Frame.{Cast, Frame, Item}
use Rattle.sg_protocol.specs.Texts.{Hash, commitment, commitment_text_of}
use Rattle.sg_protocol.specs.Keyring.{Program}
use Rattle.sg_protocol.specs.Reading.{read}
use Rattle.sg_protocol.specs.Calls.{Deliver, Event, Started, Sent, Call, Answer, Happened, sid_of, events_of_answer}
use Rattle.sg_protocol.specs.Acting.{answer}
use Rattle.sg_protocol.specs.Verdict.{receipt, seen}
use Rattle.sg_protocol.specs.Notes.{notes, no_notes, session_of_frame}
use Rattle.sg_protocol.specs.Session.{Session, origin}
use Rattle.sg_protocol.specs.Past.{Past, node_of}
use Rattle.sg_protocol.specs.Walk.{StoredStep, shown, acts_of_event}
use Rattle.sg_protocol.specs.Schedule.{Schedule, honest_role}
use Rattle.sg_protocol.specs.World.{World, Logged, Answered, past_of, Outcome}
use Rattle.sg_protocol.specs.Run.{called, events_of, frame_in, uncalled, events_of_outcome}
use Rattle.sg_protocol.specs.Explaining.{filled, walk_after_events, walk_after_steps, label_sent, view_in, IsExample, IsShown, AllShown}
use Rattle.sg_protocol.specs.Accepted.{Accepted}
use Rattle.sg_protocol.specs.Premises.{hashed}
use Rattle.sg_protocol.specs.TextLaws.{OpeningFits}
use Rattle.sg_protocol.proofs.Paths.{steps_of}
use Rattle.sg_protocol.proofs.Entries.{entries, sight, sight-since, view_ends}
use Rattle.sg_protocol.proofs.Moves.{writes_below}
use Rattle.sg_protocol.proofs.Progressing.{Suffix}
use Rattle.sg_protocol.proofs.Explaining.{shown_split, walk_after_steps-last}
use Rattle.sg_protocol.proofs.Calls.{Quiet, TookFrame}
use Rattle.sg_protocol.proofs.Going.{SessionInRun, Progress, idle, progress_called, progress_moves}
use Rattle.sg_protocol.proofs.Agreeing.{Outs}
use Rattle.sg_protocol.proofs.Making.{filled_same, hidden_same, label_of_act, labels_of, labels_sent, by_role, no_moves, one_write, shown-last, sight_ends, split_marked, values_in, walk_after_moves-last}
use Rattle.sg_protocol.proofs.Happenings.{IsGiven}

-- ---- a call

module _ {sha : Hash} {s : Schedule} {sid : List ℕ} {cast : Cast} {g : Graph} {wf : World} {Own : List Program → Type 0} (known : SessionInRun sha s sid cast g wf Own) (is_graph : IsGraph g) (accepted : Accepted g)
    (binding : (ms : List Move) → AllByRecursion (λ (o : Opening). In (hashed s wf) (commitment_text_of sid o) × OpeningFits o) (all_openings ms) → Binding (λ o. commitment sha sid o) (all_openings ms)) where
  abbrev commit : Commit
  commit o = commitment sha sid o

  abbrev honest : ℕ → Bool
  honest k = honest_role s cast k

  abbrev Prog : World → Type 0
  Prog w = Progress known w

  -- an honest role's own last label is the last that it sent
  own_label : (w : World) (p : Prog w) (r : ℕ) → honest r ≡ true → last (filter_map (label_sent r) (events_of sid w.log)) ≡ option_map (λ (t : TimedLabel). t.label) ((moved_all commit (V.at_first (shape g)) p.moves).machine.at r).own
  own_label w p r hon =
      ap last (labels_sent g honest commit r (events_of sid w.log) ∙ ap (filter_map (label_of_act g honest commit r)) p.events ∙ sym (labels_of g honest commit r (V.at_first (shape g)) p.moves))
      ∙ last-option_map (λ (t : TimedLabel). t.label) (filter (by_role g honest commit r) (moved_all commit (V.at_first (shape g)) p.moves).machine.sent)
      ∙ ap (option_map (λ (t : TimedLabel). t.label)) (sym (own_is_sent (shape g) honest commit p.moves accepted.sighted (binding p.moves p.used) p.may r hon))

  -- the moves, each beside steps that show it, make the walk that the events make
  pub record Made (moves : List Move) (log : List (Logged × List ℕ)) : Type 0 where
    pub ms : List (Move × List ℕ)
    pub are : moves_of ms ≡ moves
    pub shown : G.AllShownBy (shape g) (R.start (shape g)) ms
    pub same : walk_after_steps g honest sid [] log ≡ steps_of (G.walk_after_moves (shape g) honest (R.start (shape g)) [] ms)

  abbrev pub Explains : (w : World) → Prog w → Type 0
  Explains w p = (log : List (Logged × List ℕ)) → map (λ (x : Logged × List ℕ). x.0) log ≡ w.log → AllShown g sid [] log → Made p.moves log

  -- each frame of the session that was taken shows its receiver a view
  abbrev pub Shown : World → Type 0
  Shown w = (before : List Logged) (l : Logged) (after : List Logged) (bs : List ℕ) (f : Frame) → w.log ≡ before ++ l ∷ after → l.call ≡ Some (Deliver bs) → read bs ≡ Ok f → l.outcome ≡ Answered (Happened (receipt f)) → f.sid ≡ sid → IsView g f.receiver (view_in (events_of sid before) f)

  -- an entry without a move
  add_none : (moves : List Move) (m : List (Logged × List ℕ)) (x : Logged × List ℕ) → Made moves m → ((steps : List StoredStep) → walk_after_events g honest steps (events_of sid (x.0 ∷ [])) x.1 ≡ steps) → Made moves (m ++ x ∷ [])
  add_none moves m x k e = record { ms = k.ms; are = k.are; shown = k.shown; same = walk_after_steps-last g honest sid [] m x ∙ e (walk_after_steps g honest sid [] m) ∙ k.same }

  -- an entry with a move
  add_one : (moves : List Move) (m : List (Logged × List ℕ)) (x : Logged × List ℕ) (mv : Move) (since : List ℕ) → Made moves m → G.ShownBy (shape g) (moved_all commit (V.at_first (shape g)) moves).machine mv since
      → ((S : List Stored) → walk_after_events g honest (steps_of S) (events_of sid (x.0 ∷ [])) x.1 ≡ steps_of (G.walk_after_move (shape g) honest (moved_all commit (V.at_first (shape g)) moves).machine S mv since)) → Made (moves ++ mv ∷ []) (m ++ x ∷ [])
  add_one moves m x mv since k by e =
      let S : List Stored = G.walk_after_moves (shape g) honest (R.start (shape g)) [] k.ms in
      record {
        ms = k.ms ++ (mv, since) ∷ [];
        are = map-append (λ (m : Move × List ℕ). m.0) k.ms ((mv, since) ∷ []) ∙ ap (λ l. l ++ mv ∷ []) k.are;
        shown = shown-last g honest commit (V.at_first (shape g)) k.ms (mv, since) k.shown (subst (λ l. G.ShownBy (shape g) (moved_all commit (V.at_first (shape g)) l).machine mv since) (sym k.are) by);
        same = walk_after_steps-last g honest sid [] m x ∙ ap (λ l. walk_after_events g honest l (events_of sid (x.0 ∷ [])) x.1) k.same ∙ e S
            ∙ ap (λ l. steps_of (G.walk_after_move (shape g) honest (moved_all commit (V.at_first (shape g)) l).machine S mv since)) (sym k.are)
            ∙ ap steps_of (sym (walk_after_moves-last g honest commit (V.at_first (shape g)) [] k.ms (mv, since)));
      }

  -- an entry without a call
  pub explains_idle : (w : World) (k : ℕ) (p : Prog w) → Explains w p → (who : Option Name) (o : Outcome) (fr : Option (List ℕ)) (ev : events_of_outcome o ≡ []) → Explains (uncalled w k who o fr) (idle known w k who o fr ev p)
  unfolding idle
  explains_idle w k p old who o fr ev log e b =
      let d = split_marked log w.log (record { number = k; who = who; call = None; outcome = o; frame = fr; notes = no_notes }) e in
      let q = shown_split g sid [] d.before (record { number = k; who = who; call = None; outcome = o; frame = fr; notes = no_notes }, d.walk) (subst (AllShown g sid []) d.is b) in
      subst (Made p.moves) (sym d.is) (add_none p.moves d.before (record { number = k; who = who; call = None; outcome = o; frame = fr; notes = no_notes }, d.walk) (old d.before d.are q.0)
      (λ steps. ap (λ es. walk_after_events g honest steps (filter (λ e. bytes_eq (sid_of e) sid) (es ++ [])) d.walk) ev))

  pub shown_idle : (w : World) (k : ℕ) → Shown w → (who : Option Name) (o : Outcome) (fr : Option (List ℕ)) → Shown (uncalled w k who o fr)
  shown_idle w k old who o fr before l' rest bs f e is_call is_read is_outcome is_sid = elim (split_at_end w.log (record { number = k; who = who; call = None; outcome = o; frame = fr; notes = no_notes }) before l' rest e) [
    | inl r ↦ old before l' r.0 bs f r.2 is_call is_read is_outcome is_sid
    | inr r ↦ absurd (let z : None ≡ Some (Deliver bs) = ap (λ (z : Logged). z.call) (sym r.0) ∙ is_call in cc)
  ]

  module _ (w : World) (k : ℕ) (p : Prog w) (who : Name) (past : Past) (its_past : past_of w who ≡ Some past) (c : Call) (range : IsGiven c) (after : Suffix (k + 1) (called sha w k who c past).log wf.log) (out : Outs known w k p who past its_past c range after) where
    abbrev st : State
    st = moved_all commit (V.at_first (shape g)) p.moves

    abbrev a : Answer
    a = answer sha (node_of past) c

    abbrev l : Logged
    l = record { number = k; who = Some who; call = Some c; outcome = Answered (answer sha (node_of past) c); frame = frame_in (answer sha (node_of past) c); notes = notes sha (node_of past) c }

    -- the session's events in the call
    abbrev here : List Event
    here = filter (λ e. bytes_eq (sid_of e) sid) (events_of_answer a)

    here_is : events_of sid (l ∷ []) ≡ here
    here_is = ap (filter (λ e. bytes_eq (sid_of e) sid)) (append-nil (events_of_answer a))

    module _ (m : List (Logged × List ℕ)) (walk : List ℕ) (log_is : map (λ (x : Logged × List ℕ). x.0) m ≡ w.log) (made : Made p.moves m) (its : IsShown g sid (map (λ (x : Logged × List ℕ). x.0) m) l walk) where
      abbrev Now : Type 0
      Now = Made (p.moves ++ out.moves) (m ++ (l, walk) ∷ [])

      -- nothing was sent or taken
      made_none : flat_map acts_of_event here ≡ [] → ((steps : List StoredStep) → walk_after_events g honest steps here walk ≡ steps) → Now
      made_none none e =
          let q : out.moves ≡ [] = no_moves g honest commit st out.moves out.may (sym none ∙ out.events) in
          subst (λ ms. Made ms (m ++ (l, walk) ∷ [])) (sym (append-nil p.moves) ∙ ap (λ z. p.moves ++ z) (sym q))
          (add_none p.moves m (l, walk) made (λ steps. ap (λ es. walk_after_events g honest steps es walk) here_is ∙ e steps))

      quiet_case : Quiet sid a → Now
      quiet_case q = (let none : here ≡ [] = none_filter (λ e. bytes_eq (sid_of e) sid) (events_of_answer a) q in made_none (ap (flat_map acts_of_event) none) (λ steps. ap (λ es. walk_after_events g honest steps es walk) none))

      one_event : (e : Event) (b : Answer) → a ≡ b → events_of_answer b ≡ e ∷ [] → sid_of e ≡ sid → here ≡ e ∷ []
      one_event e b q r i = ap (λ z. filter (λ e. bytes_eq (sid_of e) sid) (events_of_answer z)) q ∙ ap (filter (λ e. bytes_eq (sid_of e) sid)) r ∙ (rw ((bytes_eq-Decides (sid_of e) sid).1 i) refl)

      started_case : (r : ℕ) → a ≡ Happened (Started sid r) → Now
      started_case r q = (let one = one_event (Started sid r) (Happened (Started sid r)) q refl refl in made_none (ap (flat_map acts_of_event) one) (λ steps. ap (λ es. walk_after_events g honest steps es walk) one))

      given_case : (sid' : List ℕ) (r label time : ℕ) (values : Map Value) (b : Answer) → a ≡ b → events_of_answer b ≡ Sent sid' r label time values ∷ [] → sid' ≡ sid → Now
      given_case sid' r label time values b q e i =
          let one = one_event (Sent sid' r label time values) b q e i in
          let wr = one_write g honest commit st out.moves r label (shown values) out.may (sym (ap (flat_map acts_of_event) one) ∙ out.events) in
          subst (λ ms. Made ms (m ++ (l, walk) ∷ [])) (ap (λ z. p.moves ++ z) (sym wr.2))
          (add_one p.moves m (l, walk) (Writes wr.0 label wr.1) [] made tt (λ S.
          ap (λ es. walk_after_events g honest (steps_of S) es walk) (here_is ∙ one)
          ∙ ap (λ (ws : Map (Option Value)). steps_of S ++ record { label = label; writes = ws } ∷ []) wr.3
          ∙ sym (map-append (λ (t : Stored). record { label = V.along t; writes = t.values }) S (record { step = record { label = label; time = R.turn_time (st.machine.at wr.0).turn + 1 }; values = V.values_of wr.1 } ∷ []))))

      -- a frame was taken
      module _ (f : Frame) (example : IsExample g f.receiver (view_in (events_of sid (map (λ (x : Logged × List ℕ). x.0) m)) f) walk) (node : ℕ) (are : out.moves ≡ Takes f.receiver node (entries f.items) f.openings ∷ []) where
        abbrev v : View
        v = view_in (events_of sid (map (λ (x : Logged × List ℕ). x.0) m)) f

        abbrev own : Option TimedLabel
        own = (st.machine.at f.receiver).own

        may : MayTake (shape g) honest commit st f.receiver node (entries f.items) f.openings
        may = (subst (AllMay (shape g) honest commit st) are out.may).0

        origin_is : v.origin ≡ option_map (λ (t : TimedLabel). t.label) own
        origin_is = ap (λ l. last (filter_map (label_sent f.receiver) (events_of sid l))) log_is ∙ own_label w p f.receiver may.is_honest

        seen_by : Sight (shape g) f.receiver own (end_of (shape g) 0 (example.0).walk) (entries f.items)
        seen_by = sight g (writes_below g is_graph) f.receiver v example.0 own f.items origin_is refl may.sight.rises

        -- the steps of the walk since the receiver's own last one
        abbrev since : List ℕ
        since = after_last (sender (shape g)) f.receiver walk

        since_is : seen_by.since ≡ since
        unfolding seen_by
        since_is = sight-since g (writes_below g is_graph) f.receiver v example.0 own f.items origin_is refl may.sight.rises ∙ ap (after_last (sender (shape g)) f.receiver) example.1

        abbrev law_item : Item → B.Entry TimedLabel Code
        law_item i = record { step = record { label = i.label; time = i.time }; writes = i.delta }

        ends : (o : Option Item) → last f.items ≡ o → end_of (shape g) 0 (example.0).walk ≡ node
        ends None e = absurd (may.some (ap entries (no_last f.items e)))
        ends (Some i) e =
            view_ends g f.receiver v example.0 f.items i refl e
            ∙ sym (sight_ends g honest commit f.receiver own node (entries f.items) (law_item i) may.sight (last-option_map law_item f.items ∙ ap (option_map law_item) e))

        shows : G.Shows (shape g) f.receiver own node (entries f.items) since
        shows = (record { before = seen_by.before; since = seen_by.since; walk = seen_by.walk; ends = seen_by.ends ∙ ends (last f.items) refl; turn = may.sight.turn; own_last = seen_by.own_last; no_own = seen_by.no_own; alike = seen_by.alike; rises = seen_by.rises }, since_is)

        taken_case : a ≡ Happened (receipt f) → f.sid ≡ sid → Now
        taken_case q i =
            let hidden : List Stored = unknown (shape g) (after_honest (shape g) honest since) in
            subst (λ ms. Made ms (m ++ (l, walk) ∷ [])) (ap (λ z. p.moves ++ z) (sym are))
            (add_one p.moves m (l, walk) (Takes f.receiver node (entries f.items) f.openings) since made shows (λ S.
            ap (λ es. walk_after_events g honest (steps_of S) es walk) (here_is ∙ one_event (receipt f) (Happened (receipt f)) q refl i)
            ∙ sym (filled_same f.openings (S ++ hidden)
            ∙ ap (filled (values_in f.openings)) (map-append (λ (t : Stored). record { label = V.along t; writes = t.values }) S hidden)
            ∙ ap (λ l. filled (values_in f.openings) (steps_of S ++ l)) (hidden_same g (after_honest (shape g) honest since)))))

      made_now : Now
      made_now = elim out.life [
        | inl u ↦ quiet_case u.quiet
        | inr (inl u) ↦ quiet_case u.quiet
        | inr (inr (inl u)) ↦ started_case u.role u.is_answer
        | inr (inr (inr (inl u))) ↦
            let t = out.took u.f u.took in
            taken_case u.f (its (u.took).bs u.f (ap (λ z. Some z) (u.took).is_call) (u.took).is_read (ap (λ z. Answered z) (u.took).is_answer) (u.took).is_sid) t.node t.are (u.took).is_answer (u.took).is_sid
        | inr (inr (inr (inr u))) ↦ given_case (u.x).sid (u.x).role u.label _ u.values _ u.is_answer refl u.same_sid
      ]

    pub explains_called : Explains w p → Explains (called sha w k who c past) (progress_called known w k p who past its_past c range after out)
    explains_called h log e b =
        let d = split_marked log w.log l e in
        let q = shown_split g sid [] d.before (l, d.walk) (subst (AllShown g sid []) d.is b) in
        subst (λ ms. Made ms log) (sym (progress_moves known w k p who past its_past c range after out))
        (subst (Made (p.moves ++ out.moves)) (sym d.is) (made_now d.before d.walk d.are (h d.before d.are q.0) q.1))

    module _ (f : Frame) (took : TookFrame sid c a f) where
      own_sent : last (filter_map (label_sent f.receiver) (events_of sid w.log)) ≡ option_map (λ (t : TimedLabel). t.label) (st.machine.at f.receiver).own
      own_sent = own_label w p f.receiver (subst (AllMay (shape g) honest commit st) (out.took f took).are out.may).0.is_honest

      shown_took : IsView g f.receiver (view_in (events_of sid w.log) f)
      shown_took = subst (λ o. IsView g f.receiver (record { origin = o; items = map seen f.items })) (sym own_sent) (out.views f took)

      -- the origin of the session in which a frame is taken is the last label that its role sent
      pub origin_took : (q : Program) (x : Session) → session_of_frame (node_of past) f ≡ Some (q, x) → origin x ≡ last (filter_map (label_sent f.receiver) (events_of sid w.log))
      origin_took q x e = out.origins f q x took e ∙ sym own_sent

    pub shown_called : Shown w → Shown (called sha w k who c past)
    shown_called old before l' rest bs f e is_call is_read is_outcome is_sid = elim (split_at_end w.log l before l' rest e) [
      | inl r ↦ old before l' r.0 bs f r.2 is_call is_read is_outcome is_sid
      | inr r ↦
          let one : Some c ≡ Some (Deliver bs) = ap (λ (z : Logged). z.call) (sym r.0) ∙ is_call in
          let two : Answered a ≡ Answered (Happened (receipt f)) = ap (λ (z : Logged). z.outcome) (sym r.0) ∙ is_outcome in
          subst (λ z. IsView g f.receiver (view_in (events_of sid z) f)) (sym r.1) (shown_took f (record { bs = bs; is_call = cc; is_read = is_read; is_answer = cc; is_sid = is_sid }))
    ]
