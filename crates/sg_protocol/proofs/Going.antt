-- What happens in a run is to the law one list of moves of a session.
use Rattle.std.specs.Prelude.{◌≡◌, ℕ, suc, ◌+◌, ◌==◌, nat_lt, not, if◌then◌else◌, ◌&&◌, Bool, true, false, List, [], ◌∷◌, ◌++◌, map, filter, flat_map, length, bytes_eq, refl, Option, Some, None}
use Rattle.std.specs.List.{AllByRecursion}
use Rattle.std.specs.Option.{option_map_or}
use Rattle.std.proofs.Common.{sym, ◌∙◌, ap, subst, inl, inr, arith, append-nil}
use Rattle.std.proofs.lemmas.Bool.{cases_Bool, eq-eqb, and_parts}
use Rattle.std.proofs.lemmas.List.{map-append}
use Rattle.sg_model.specs.Last.{Map}
use Rattle.sg_model.specs.Lists.{first_some, is_in, keys_of, rises_from}
use Rattle.sg_model.specs.Names.{Name}
use Rattle.sg_model.specs.Values.{Value, Opening}
use Rattle.sg_model.proofs.Numbers.{absent}
use Rattle.sg_model.proofs.Small.{all-append, all_weaker}
use Rattle.sg_model.proofs.Members.{In, in_from_Contains, contains_from_in, in_right, in_parts, in_flat, in_last}
use Rattle.sg_model.proofs.Finding.{find_all}
use Rattle.sg_law.specs.Values as V
use Rattle.sg_law.specs.Values.{State, Move, Commit, AllMay, moved_all, deed_of, all_openings}
use Rattle.sg_protocol.specs.Graph.{Graph, shape}
use Rattle.sg_protocol.specs.Frame.{Cast, Frame, IsOpening}
use Rattle.sg_protocol.specs.Spelling.{HasSpelling}
use Rattle.sg_protocol.specs.Texts.{Hash, IsHash, commitment, commitment_text_of, graph_text_of}
use Rattle.sg_protocol.specs.TextLaws.{OpeningFits}
use Rattle.sg_protocol.specs.Keyring.{Program}
use Rattle.sg_protocol.specs.Session.{Session}
use Rattle.sg_protocol.specs.Sending.{frame_sent}
use Rattle.sg_protocol.specs.Calls.{ActFault, Event, Call, Start, Act, Abandon, Deliver, Answer, Sends, Abandoned, NotActed, events_of_answer, sid_of}
use Rattle.sg_protocol.specs.Node.{Node, session_with, program_for}
use Rattle.sg_protocol.specs.NodeAfter.{node_after}
use Rattle.sg_protocol.specs.Acting.{answer, answer_act, acted, sent, rows_of_act, openings_for}
use Rattle.sg_protocol.specs.Notes.{Note, notes, notes_of_act, no_notes}
use Rattle.sg_protocol.specs.Past.{Past, node_of, past_after}
use Rattle.sg_protocol.specs.Walk.{acts_of_event}
use Rattle.sg_protocol.specs.Schedule.{Schedule, is_honest, honest_role}
use Rattle.sg_protocol.specs.World.{World, Logged, Outcome, Answered, past_of}
use Rattle.sg_protocol.specs.Run.{called, uncalled, frame_in, events_of, events_of_outcome}
use Rattle.sg_protocol.specs.Premises.{hashed, Unforged}
use Rattle.sg_protocol.specs.Completeness.{HadAnswer}
use Rattle.sg_protocol.specs.IsSchedule.{IsProgram}
use Rattle.sg_protocol.specs.Ranges.{AreValues}
use Rattle.sg_protocol.specs.Bounds.{IsSession}
use Rattle.sg_protocol.proofs.Acts as C
use Rattle.sg_protocol.proofs.AfterCalls.{nothing, node_kept}
use Rattle.sg_protocol.proofs.AbandonCall.{abandon_out}
use Rattle.sg_protocol.proofs.ActCall.{act_out}
use Rattle.sg_protocol.proofs.Calls.{NodeOk, Out}
use Rattle.sg_protocol.proofs.Progressing.{Suffix, suffix_one, suffix_trans, in_before, in_after, moved-append, may-append, openings-append, events-append, note_more, small_values, node_next}
use Rattle.sg_protocol.proofs.DeliverCall.{deliver_out}
use Rattle.sg_protocol.proofs.Gives.{keys_are}
use Rattle.sg_protocol.proofs.KnownSession.{SessionOfCast}
use Rattle.sg_protocol.proofs.Moves.{NoteOk}
use Rattle.sg_protocol.proofs.Nodes.{ActSent}
use Rattle.sg_protocol.proofs.Paths.{acts_of, TypedDeed, flat_map-append, writes_rise}
use Rattle.sg_protocol.proofs.Ranges.{act_in_range}
use Rattle.sg_protocol.proofs.StartCall.{start_out}
use Rattle.sg_protocol.proofs.TextLaws.{opening_fits}
use Rattle.sg_protocol.proofs.Happenings.{Happening, IsGiven, IsRight, all_happen, cast_given, given_in_range, keep_course, pasts_kept, keep_prefix}

-- ---- confounders

other : (c : List ℕ) (k : ℕ) (G : ℕ × Value → List ℕ) (vs : Map Value) → is_in k (keys_of vs) ≡ false → map (λ (u : ℕ × Value). if u.0 == k then c else G u) vs ≡ map G vs
other c k G [] h = refl
other c k G (v ∷ vs) h = elim (cases_Bool (v.0 == k)) [
  | inl e ↦ absurd (let f : true ≡ false = rw e at h in cc)
  | inr e ↦ rw e (ap (λ l. G v ∷ l) (other c k G vs (rw e at h)))
]

-- as many confounders as values of different variables are some function of these
as_function : (vs : Map Value) (cs : List (List ℕ)) (n : ℕ) → rises_from n (keys_of vs) ≡ true → length cs ≡ length vs → (F : ℕ × Value → List ℕ) × (map F vs ≡ cs)
as_function [] [] n r l = ((λ v. []), refl)
as_function [] (c ∷ cs) n r l = absurd (omega (arith, l))
as_function (v ∷ vs) [] n r l = absurd (omega (arith, l))
as_function (v ∷ vs) (c ∷ cs) n r l =
    let rest : rises_from (suc v.0) (keys_of vs) ≡ true = (and_parts (not (nat_lt v.0 n)) (rises_from (suc v.0) (keys_of vs)) r).1 in
    let f : (F : ℕ × Value → List ℕ) × (map F vs ≡ cs) = as_function vs cs (suc v.0) rest (omega (arith, l)) in
    ((λ u. if u.0 == v.0 then c else f.0 u), (rw (eq-eqb v.0 v.0 refl) (ap (λ l. c ∷ l) (other c v.0 f.0 vs (absent (suc v.0) v.0 (omega arith) (keys_of vs) rest) ∙ f.1))))

-- a session in a run that ends in the world wf. Own says which programs a principal may have
pub record SessionInRun (sha : Hash) (s : Schedule) (sid : List ℕ) (cast : Cast) (g : Graph) (wf : World) (Own : List Program → Type 0) : Type 0 where
  pub is_hash : IsHash sha
  pub of_cast : (ps : List Program) → Own ps → SessionOfCast sha ps sid cast g (λ t. In (hashed s wf) t)
  pub programs : (ps : List Program) → Own ps → AllByRecursion (IsProgram sha) ps
  pub unforged : Unforged s wf

module _ {sha : Hash} {s : Schedule} {sid : List ℕ} {cast : Cast} {g : Graph} {wf : World} {Own : List Program → Type 0} (known : SessionInRun sha s sid cast g wf Own) where
  abbrev commit : Commit
  commit o = commitment sha sid o

  abbrev honest : ℕ → Bool
  honest h = honest_role s cast h

  abbrev Hashed : List ℕ → Type 0
  Hashed t = In (hashed s wf) t

  -- the principal left the session, in the end
  abbrev pub Left : Name → Type 0
  Left who = HadAnswer wf.log who (Abandon sid) Abandoned

  -- a principal's node and the law's state fit
  pub record Fits (st : State) (who : Name) (p : Past) : Type 0 where
    pub own : Own p.programs
    pub ok : NodeOk (known.of_cast p.programs own) s Left st who (node_of p)
    pub honest : is_honest s who ≡ true
    pub live : AllByRecursion IsSession (node_of p).live

  pub record Progress (w : World) : Type 0 where
    pub moves : List Move
    pub may : AllMay (shape g) honest commit (V.at_first (shape g)) moves
    pub nodes : (who : Name) (p : Past) → past_of w who ≡ Some p → Fits (moved_all commit (V.at_first (shape g)) moves) who p
    pub noted : (l : Logged) (nt : Note) → In w.log l → In l.notes.made nt → NoteOk g sid (moved_all commit (V.at_first (shape g)) moves).log nt
    pub events : flat_map acts_of_event (events_of sid w.log) ≡ flat_map (acts_of g) (map deed_of moves)
    pub typed : AllByRecursion (TypedDeed g honest) (map deed_of moves)
    pub used : AllByRecursion (λ (o : Opening). Hashed (commitment_text_of sid o) × OpeningFits o) (all_openings moves)

  -- an entry without a call
  unfoldable pub idle : (w : World) (k : ℕ) (who : Option Name) (o : Outcome) (fr : Option (List ℕ)) → events_of_outcome o ≡ [] → Progress w → Progress (uncalled w k who o fr)
  idle w k who o fr e p = record {
    moves = p.moves;
    may = p.may;
    nodes = p.nodes;
    noted = λ l nt i j. elim (in_parts w.log _ l i) [
      | inl a ↦ p.noted l nt a j
      | inr a ↦ elim a [ inl b ↦ absurd (subst (λ (z : Logged). In z.notes.made nt) b j) | inr b ↦ absurd b ]
    ];
    events = events-append sid w.log _ ∙ ap (λ l. flat_map acts_of_event (events_of sid w.log) ++ flat_map acts_of_event (filter (λ e. bytes_eq (sid_of e) sid) (l ++ []))) e ∙ append-nil _ ∙ p.events;
    typed = p.typed;
    used = p.used;
  }

  module _ (w : World) (k : ℕ) (p : Progress w) (who : Name) (past : Past) (its_past : past_of w who ≡ Some past) where
    abbrev pub st : State
    st = moved_all commit (V.at_first (shape g)) p.moves

    abbrev pub n : Node
    n = node_of past

    abbrev pub here : Fits st who past
    here = p.nodes who past its_past

    abbrev pub its : SessionOfCast sha past.programs sid cast g Hashed
    its = known.of_cast past.programs here.own

    programs : AllByRecursion (IsProgram sha) n.programs
    programs = subst (AllByRecursion (IsProgram sha)) (sym (here.ok).has_programs) (known.programs past.programs here.own)

    abbrev pub Outs : Call → Type 0
    Outs c = Out its s Left st who n c (answer sha n c) (notes sha n c)

    abbrev entry_ : Call → Logged
    entry_ c = record { number = k; who = Some who; call = Some c; outcome = Answered (answer sha n c); frame = frame_in (answer sha n c); notes = notes sha n c }

    -- an act, whatever its confounders
    module _ (sid0 : List ℕ) (label : ℕ) (values : Map Value) (confs : List (List ℕ)) (good : AreValues values confs) where
      abbrev act_of_rows : Session → Program → Option ActFault → Answer
      act_of_rows x q o = acted (sent sha n.keys q x label values confs) o

      abbrev act_of_program : Session → Option Program → Answer
      act_of_program x o = option_map_or (λ q. act_of_rows x q (first_some (rows_of_act q x label values))) o (NotActed ActFault.UnknownSession)

      abbrev act_of_session : Option Session → Answer
      act_of_session o = option_map_or (λ x. act_of_program x (program_for n.programs x.cast.graph x.role)) o (NotActed ActFault.UnknownSession)

      not_acted : (fault : ActFault) → answer_act sha n sid0 label values confs ≡ NotActed fault → Outs (Act sid0 label values confs)
      not_acted fault e = subst (λ a. Out its s Left st who n (Act sid0 label values confs) a (notes_of_act n sid0 (openings_for values confs) a)) (sym e) (nothing its s Left st who n (Act sid0 label values confs) (NotActed fault) no_notes here.ok refl refl (λ nt i. absurd i) (inl refl) (λ r j. j) (λ r j. j))

      abbrev Spelled : List (List ℕ) → Type 0
      Spelled z = ((e : Event) (to : Name) (f : Frame) → answer sha n (Act sid0 label values z) ≡ Sends e to f → HasSpelling f) × AllByRecursion OpeningFits (openings_for values z)

      act_done : (x : Session) → session_with n.live sid0 ≡ Some x → (q : Program) → program_for n.programs x.cast.graph x.role ≡ Some q → first_some (rows_of_act q x label values) ≡ None → Outs (Act sid0 label values confs)
      act_done x found q found_q rows =
          let ip : IsProgram sha q = find_all (λ (z : Program). bytes_eq z.digest x.cast.graph && (z.role == x.role)) (IsProgram sha) n.programs q programs found_q in
          let small = small_values values good.each in
          let ks : keys_of values ≡ _ = keys_are q.graph ip.is_graph label values small (C.act_rows q x label values rows).good in
          let rise : rises_from 0 (keys_of values) ≡ true = subst (λ l. rises_from 0 l ≡ true) (sym ks) (writes_rise q.graph ip.is_graph label) in
          let f : (F : ℕ × Value → List ℕ) × (map F values ≡ confs) = as_function values confs 0 rise good.count in
          let a : ActSent sha n sid0 label values confs (frame_sent sha n.keys q x label (openings_for values confs)) = record { x = x; found = found; p = q; found_p = found_q; rows = rows; its = refl } in
          let r = act_in_range sha known.is_hash n programs here.live sid0 label values confs good (frame_sent sha n.keys q x label (openings_for values confs)) a in
          let ans : answer sha n (Act sid0 label values confs) ≡ act_of_rows x q None = ap act_of_session found ∙ ap (act_of_program x) found_q ∙ ap (act_of_rows x q) rows in
          let sp : Spelled confs = ((λ e to y b. (let same : act_of_rows x q None ≡ Sends e to y = sym ans ∙ b in let its_frame : frame_sent sha n.keys q x label (openings_for values confs) ≡ y = cc in subst HasSpelling its_frame r.0.spelled)), all_weaker IsOpening OpeningFits (λ o h. opening_fits o h) (openings_for values confs) r.1) in
          let sp' : Spelled (map f.0 values) = subst Spelled (sym f.1) sp in
          subst (λ z. Outs (Act sid0 label values z)) f.1 (act_out its s Left st who n here.ok here.honest sid0 label values f.0 small sp'.1 sp'.0)

      act_any : Outs (Act sid0 label values confs)
      act_any = by_session (session_with n.live sid0) refl
        where
          by_rows : (x : Session) (q : Program) → session_with n.live sid0 ≡ Some x → program_for n.programs x.cast.graph x.role ≡ Some q → (o : Option ActFault) → first_some (rows_of_act q x label values) ≡ o → Outs (Act sid0 label values confs)
          by_rows x q e e2 (Some fault) e3 = not_acted fault (ap act_of_session e ∙ ap (act_of_program x) e2 ∙ ap (act_of_rows x q) e3)
          by_rows x q e e2 None e3 = act_done x e q e2 e3

          by_program : (x : Session) → session_with n.live sid0 ≡ Some x → (o : Option Program) → program_for n.programs x.cast.graph x.role ≡ o → Outs (Act sid0 label values confs)
          by_program x e None e2 = not_acted ActFault.UnknownSession (ap act_of_session e ∙ ap (act_of_program x) e2)
          by_program x e (Some q) e2 = by_rows x q e e2 (first_some (rows_of_act q x label values)) refl

          by_session : (o : Option Session) → session_with n.live sid0 ≡ o → Outs (Act sid0 label values confs)
          by_session None e = not_acted ActFault.UnknownSession (ap act_of_session e)
          by_session (Some x) e = by_program x e (program_for n.programs x.cast.graph x.role) refl

    -- any call
    module _ (c : Call) (range : IsGiven c) (after : Suffix (k + 1) (called sha w k who c past).log wf.log) where
      in_end : In wf.log (entry_ c)
      in_end = in_after (k + 1) (called sha w k who c past).log wf.log after (entry_ c) (in_last w.log (entry_ c))

      founds : (nt : Note) → In (notes sha n c).found nt → is_honest s nt.one ≡ true → is_honest s nt.two ≡ true → NoteOk g sid st.log nt
      founds nt i h1 h2 =
          let m = known.unforged (entry_ c) nt (contains_from_in wf.log (entry_ c) in_end) (contains_from_in (notes sha n c).found nt i) h1 h2 in
          let before : Suffix k w.log wf.log = suffix_trans k (k + 1) w.log (called sha w k who c past).log wf.log (omega arith) (suffix_one k w.log (entry_ c) refl) after in
          p.noted m.0 nt (in_before k w.log wf.log before m.0 (in_from_Contains wf.log m.0 m.1) m.2) (in_from_Contains (m.0).notes.made nt m.3)

      hashes : (t : List ℕ) → In (notes sha n c).hashed t → Hashed t
      hashes t i = in_right (map graph_text_of s.graphs) (flat_map (λ (l : Logged). l.notes.hashed) wf.log) t (in_flat (λ (l : Logged). l.notes.hashed) wf.log (entry_ c) t in_end i)

      lefts : (sid0 : List ℕ) → c ≡ Abandon sid0 → sid0 ≡ sid → answer sha n c ≡ Abandoned → Left who
      lefts sid0 call q a = (entry_ c, contains_from_in wf.log (entry_ c) in_end, refl, ap (λ z. Some z) (call ∙ ap (λ z. Abandon z) q), ap (λ z. Answered z) a)

    pub out_of : (c : Call) → IsGiven c → Suffix (k + 1) (called sha w k who c past).log wf.log → Outs c
    out_of (Start c) h after = start_out its s Left st who n here.ok c (cast_given c h) (hashes (Start c) h after)
    out_of (Act sid0 label values confs) h after = act_any sid0 label values confs h
    out_of (Abandon sid0) h after = abandon_out its s Left st who n here.ok sid0 (lefts (Abandon sid0) h after sid0 refl)
    out_of (Deliver bs) h after = deliver_out its s Left st who n here.ok here.honest bs h (founds (Deliver bs) h after) (hashes (Deliver bs) h after)

    pub progress_called : (c : Call) → IsGiven c → Suffix (k + 1) (called sha w k who c past).log wf.log → Outs c → Progress (called sha w k who c past)
    progress_called c range after out = record {
      moves = p.moves ++ out.moves;
      may = may-append (shape g) honest commit (V.at_first (shape g)) p.moves out.moves p.may out.may;
      nodes = λ me p' e. subst (λ z. Fits z me p') (sym (moved-append commit (V.at_first (shape g)) p.moves out.moves)) (pasts_kept sha w k who past its_past c (Fits (moved_all commit st out.moves)) called_fits (λ me y ne q. other_fits me y ne (p.nodes me y q)) me p' e);
      noted = λ l nt i j. subst (λ (z : State). NoteOk g sid z.log nt) (sym (moved-append commit (V.at_first (shape g)) p.moves out.moves)) (elim (in_parts w.log (entry_ c ∷ []) l i) [
        | inl a ↦ note_more g sid st.log (moved_all commit st out.moves).log out.log nt (p.noted l nt a j)
        | inr a ↦ elim a [ inl b ↦ out.made nt (subst (λ (z : Logged). In z.notes.made nt) b j) | inr b ↦ absurd b ]
      ]);
      events = events-append sid w.log (entry_ c ∷ []) ∙ ap (λ l. l ++ flat_map acts_of_event (events_of sid (entry_ c ∷ []))) p.events
          ∙ ap (λ l. flat_map (acts_of g) (map deed_of p.moves) ++ flat_map acts_of_event (filter (λ e. bytes_eq (sid_of e) sid) l)) (append-nil (events_of_answer (answer sha n c)))
          ∙ ap (λ l. flat_map (acts_of g) (map deed_of p.moves) ++ l) out.events ∙ sym (flat_map-append (acts_of g) (map deed_of p.moves) (map deed_of out.moves)) ∙ ap (flat_map (acts_of g)) (sym (map-append deed_of p.moves out.moves));
      typed = subst (AllByRecursion (TypedDeed g honest)) (sym (map-append deed_of p.moves out.moves)) (all-append (TypedDeed g honest) (map deed_of p.moves) (map deed_of out.moves) p.typed out.typed);
      used = subst (AllByRecursion (λ (o : Opening). Hashed (commitment_text_of sid o) × OpeningFits o)) (sym (openings-append p.moves out.moves)) (all-append (λ (o : Opening). Hashed (commitment_text_of sid o) × OpeningFits o) (all_openings p.moves) (all_openings out.moves) p.used (all_weaker _ _ (λ o h. (hashes c range after (commitment_text_of sid o) h.0, h.1)) (all_openings out.moves) out.used));
    }
      where
        node_is : node_of (past_after sha past c) ≡ node_after n c (answer sha n c)
        node_is = node_next sha past c

        called_fits : Fits (moved_all commit st out.moves) who (past_after sha past c)
        called_fits = record {
          own = here.own;
          ok = subst (NodeOk its s Left (moved_all commit st out.moves) who) (sym node_is) out.node;
          honest = here.honest;
          live = subst (λ (z : Node). AllByRecursion IsSession z.live) (sym node_is) (given_in_range sha known.is_hash n programs here.live c range);
        }

        other_fits : (me : Name) (y : Past) → (me ≡ who → ⊥) → Fits st me y → Fits (moved_all commit st out.moves) me y
        other_fits me y ne f = record {
          own = f.own;
          ok = node_kept (known.of_cast y.programs f.own) s Left st (moved_all commit st out.moves) who me (node_of y) ne (record { transcript = (out.kept).transcript; machine = (out.kept).machine }) f.ok;
          honest = f.honest;
          live = f.live;
        }

    pub progress_moves : (c : Call) (range : IsGiven c) (after : Suffix (k + 1) (called sha w k who c past).log wf.log) (out : Outs c) → (progress_called c range after out).moves ≡ p.moves ++ out.moves
    unfolding progress_called
    progress_moves c range after out = refl

  moves_called : (w : World) (k : ℕ) (p : Progress w) (who : Name) (past : Past) (its_past : past_of w who ≡ Some past) (c : Call) (range : IsGiven c) → Suffix (k + 1) (called sha w k who c past).log wf.log → Progress (called sha w k who c past)
  moves_called w k p who past q c range after = progress_called w k p who past q c range after (out_of w k p who past q c range after)

  -- all that happens, and what happens first
  pub all_moves : (w : World) (k : ℕ) → Progress w → (hs : List Happening) → AllByRecursion IsRight hs → all_happen sha w k hs ≡ wf → Progress wf
  all_moves = keep_course sha wf Progress (λ w k p who o fr e. idle w k who o fr e p) moves_called

  pub moves_before : (w : World) (k : ℕ) → Progress w → (hs gs : List Happening) → AllByRecursion IsRight hs → all_happen sha w k (hs ++ gs) ≡ wf → Progress (all_happen sha w k hs)
  moves_before = keep_prefix sha wf Progress (λ w k p who o fr e. idle w k who o fr e p) moves_called
