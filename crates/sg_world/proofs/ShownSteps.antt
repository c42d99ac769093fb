-- What an entry with an event has learnt is what the session's trace asks of it.
use Rattle.std.proofs.Common.{◌≡◌, ℕ, zero, suc, ◌+◌, ◌-◌, ◌<◌, length, take, get_or, true, false, Bool, ◌||◌, List, [], ◌∷◌, ◌++◌, map, Option, Some, None, option_map, option_and_then, slice_get, refl, sym, ◌∙◌, ap, subst, inl}
use Rattle.std.specs.Prelude.{if◌then◌else◌, bytes_eq, find, Contains, IfSome}
use Rattle.std.specs.List.{AllByRecursion, list_any}
use Rattle.std.specs.Option.{option_to_list}
use Rattle.std.specs.Result.{result_ok}
use Rattle.std.proofs.lemmas.Slice.Eq.{bytes_eq-Decides}
use Rattle.sg_model.specs.Lists.{has_text}
use Rattle.sg_model.proofs.Members.{In, contains_from_in, in_right}
use Rattle.sg_protocol.proofs.ExplainingWalks.{origins_are_last_labels}
use Rattle.sg_protocol.proofs.NamedRuns.{entries_are_answered, entries_are_named, entries_have_one_graph}
use Rattle.sg_protocol.proofs.RealHash.{real_hash}
use Rattle.sg_protocol.specs.Acting.{answer}
use Rattle.sg_protocol.specs.Beginnings.{first_steps}
use Rattle.sg_protocol.specs.Calls.{Answer, Call, Deliver, Event, Happened, Sends, events_of_answer, role_of, sid_of}
use Rattle.sg_protocol.specs.Evidence.{View}
use Rattle.sg_protocol.specs.Explaining.{IsExample, IsShown, view_in}
use Rattle.sg_protocol.specs.Frame.{Cast}
use Rattle.sg_protocol.specs.Graph.{Graph}
use Rattle.sg_protocol.specs.Keyring.{Program}
use Rattle.sg_protocol.specs.Named.{IsAnswered, IsNamed, IsOfOneGraph, graph_of_call, names_numbers, session_of_call}
use Rattle.sg_protocol.specs.Notes.{session_of_frame}
use Rattle.sg_protocol.specs.Past.{Past, node_of}
use Rattle.sg_protocol.specs.Run.{cast_in, cast_of_session, events_of, events_of_outcome, run}
use Rattle.sg_protocol.specs.Schedule.{Schedule, graph_with}
use Rattle.sg_protocol.specs.Session.{Session, origin}
use Rattle.sg_protocol.specs.Texts.{real}
use Rattle.sg_protocol.specs.Verdict.{receipt, seen}
use Rattle.sg_protocol.specs.World.{Answered, Logged, past_of}
use Rattle.sg_certify.proofs.Going.{goes_past, no_steps}
use Rattle.sg_certify.proofs.Stepping.{traces_go_on}
use Rattle.sg_certify.specs.Adding.{AreHonestIn, IsAdded}
use Rattle.sg_certify.specs.Runs.{AreTraces, IsShownStep, IsTraceOf, IsUnbroken, sids_of}
use Rattle.sg_certify.specs.Traces.{Trace, Traces}
use Rattle.sg_certify.specs.Sessions.{is_of_session}
use Rattle.sg_node.specs.Answers.{graph_named}
use Rattle.sg_node.specs.Receipts.{IsReceiptAt, IsWalkOf, Receipt}
use Rattle.sg_report.specs.Outcome.{graph_in, graph_of_event, outcome_of}
use Rattle.sg_report.specs.Reported.{event_reported, reported_outcome}
use Rattle.sg_report.specs.declared.outcome.Outcome.{Outcome}
use Rattle.sg_report.specs.declared.outcome.Outcome.TheVariants as OfStep
use Rattle.sg_world.specs.Entries.{answer_in, graph_of_entry, past_before}
use Rattle.sg_walk.specs.Model.{event_of}
use Rattle.sg_world.specs.EntriesOfRun.{FitsEntry, IsEntryAdded, IsOutcomeAdded}
use Rattle.sg_world.specs.RecordModel.{IfReceived, IsLearnt, TakenStep}
use Rattle.sg_setting.specs.Replay.{Replay, run_of}
use Rattle.sg_world.proofs.Passing.{AreOfRun, IsAt, entry_there, reported_event}

-- the graph beside an event is the one by which its numbers have names
event_graph : (o : Outcome) (e : Event) → event_reported (outcome_of o) ≡ Some e → graph_in o ≡ graph_of_event o
event_graph (OfStep.NotActed why) e h = (let q : None ≡ Some e = h in absurd (cc))
event_graph (OfStep.NotDelivered why) e h = (let q : None ≡ Some e = h in absurd (cc))
event_graph other e h = refl

-- an answer with an event names numbers
event_names : (a : Answer) (e : Event) → events_of_answer a ≡ e ∷ [] → names_numbers a ≡ true
event_names (Happened f) e h = refl
event_names (Sends f to frame) e h = refl
event_names other e h = (let q : [] ≡ e ∷ [] = h in absurd (cc))

-- the first entry with an event of a session has its cast
first_cast : (sid : List ℕ) (before : List Logged) (l : Logged) (after : List Logged) → has_text sid (sids_of before) ≡ false → is_of_session sid l ≡ true → cast_of_session sid (before ++ l ∷ after) ≡ option_and_then cast_in l.call
first_cast sid before l after none here =
    ap (option_and_then (λ (z : Logged). option_and_then cast_in z.call)) ((no_steps sid before none).1 (l ∷ after))
    ∙ ap (λ b. option_and_then (λ (z : Logged). option_and_then cast_in z.call) (if b then Some l else find (is_of_session sid) after)) here

module _ (programs : List Program) (s : Schedule) (u : IsUnbroken programs s) (before : List Logged) (l : Logged) (after : List Logged) (parts : (run real programs s).log ≡ before ++ l ∷ after)
    (e : TakenStep) (learnt : IsLearnt programs s e l) (n : ℕ) (reported : outcome_of e.outcome ≡ reported_outcome n l.outcome) (c : Call) (call : l.call ≡ Some c)
    (ev : Event) (is_event : event_reported (outcome_of e.outcome) ≡ Some ev) (g : Graph) (is_graph : graph_of_event e.outcome ≡ Some g) where
  there : Contains (run real programs s).log l
  there = contains_from_in (run real programs s).log l (subst (λ z. In z l) (sym parts) (in_right before (l ∷ after) l (inl refl)))

  event : events_of_outcome l.outcome ≡ ev ∷ []
  event = reported_event n l.outcome ∙ ap (λ o. option_to_list (event_reported o)) (sym reported) ∙ ap option_to_list is_event

  a : IsAnswered real programs s l c
  a = entries_are_answered real programs s l c there call

  events : events_of_answer (answer real (node_of a.past) c) ≡ ev ∷ []
  events = sym (ap events_of_outcome a.outcome) ∙ event

  names : names_numbers (answer real (node_of a.past) c) ≡ true
  names = event_names (answer real (node_of a.past) c) ev events

  t : IsNamed real (node_of a.past) c (answer real (node_of a.past) c)
  t = entries_are_named real real_hash programs s u.compiled u.schedule l c there call a names

  one : IsOfOneGraph real s (run real programs s) (node_of a.past) (answer real (node_of a.past) c) t.program t.session
  one = entries_have_one_graph real real_hash programs s u.compiled u.schedule u.premises.collision_free l c there call a names t

  has_event : Contains (events_of_answer (answer real (node_of a.past) c)) ev
  has_event = subst (λ es. Contains es ev) (sym events) (contains_from_in (ev ∷ []) ev (inl refl))

  its : (sid_of ev ≡ t.session.sid) × (role_of ev ≡ t.session.role)
  its = t.event ev has_event

  its_cast : cast_of_session (sid_of ev) (run real programs s).log ≡ Some t.session.cast
  its_cast = ap (λ z. cast_of_session z (run real programs s).log) its.0 ∙ one.event ev has_event

  before_is : past_before programs s l ≡ Some a.past
  before_is = ap (option_and_then (past_of (run real programs (first_steps (l.number - 1) s)))) a.is_who ∙ a.is_past

  entry_graph : graph_of_entry programs s l ≡ Some t.program.graph
  entry_graph =
      ap (option_and_then (λ (z : Call). option_and_then (λ (past : Past). graph_of_call real (node_of past) z) (past_before programs s l))) call
      ∙ ap (option_and_then (λ (past : Past). graph_of_call real (node_of past) c)) before_is
      ∙ ap (option_map (λ (x : Program × Session). x.0.graph)) t.is_session

  graph_is : g ≡ t.program.graph
  graph_is =
      let two : Some g ≡ Some t.program.graph =
      sym is_graph ∙ sym (event_graph e.outcome ev is_event) ∙ learnt.graph
      ∙ ap (λ o. option_and_then (λ z. graph_named z (graph_of_entry programs s l)) (answer_in o)) a.outcome
      ∙ ap (λ b. if b then graph_of_entry programs s l else None) names ∙ entry_graph in
      cc

  -- its graph is that of the cast that the session has in the run
  pub its_graph : (cast : Cast) → cast_of_session (sid_of ev) (run real programs s).log ≡ Some cast → graph_with real s.graphs cast.graph ≡ Some g
  its_graph cast is =
      let two : Some t.session.cast ≡ Some cast = sym its_cast ∙ is in
      let same : t.session.cast ≡ cast = cc in
      ap (λ (z : Cast). graph_with real s.graphs z.graph) (sym same) ∙ one.graph ∙ ap (λ z. Some z) (sym graph_is)

  -- its honest roles are those of the cast, if it is the session's first
  its_honest : (cast : Cast) → cast_of_session (sid_of ev) (run real programs s).log ≡ Some cast → has_text (sid_of ev) (sids_of before) ≡ false → AreHonestIn s.honest cast e.honest
  its_honest cast is none =
      let here : is_of_session (sid_of ev) l ≡ true = ap (λ (es : List Event). own es) event ∙ ap (λ b. b || false) ((bytes_eq-Decides (sid_of ev) (sid_of ev)).1 refl) in
      let begun : option_and_then cast_in l.call ≡ Some cast = sym (first_cast (sid_of ev) before l after none here) ∙ ap (cast_of_session (sid_of ev)) (sym parts) ∙ is in
      subst (λ (o : Option Cast). IfSome o (λ d. AreHonestIn s.honest d e.honest)) begun (learnt.honest (λ empty. (let q : [] ≡ ev ∷ [] = sym empty ∙ event in absurd (cc))))
    where
      own : List Event → Bool
      own es = list_any (λ z. bytes_eq (sid_of z) (sid_of ev)) es

  -- the walk beside it shows what it took
  module _ (walk : List ℕ) (fits : (r : Receipt) → e.outcome ≡ OfStep.Received r → IsWalkOf r walk) where
    its_walk : IsShown g (sid_of ev) before l walk
    its_walk bs f is_call reads outcome same = received e.outcome refl (learnt.shown a.past bs f before_is is_call reads)
      where
        delivered : c ≡ Deliver bs
        delivered = (let two : Some c ≡ Some (Deliver bs) = sym call ∙ is_call in cc)

        at_node : IsAnswered real programs s l (Deliver bs)
        at_node = record { who = a.who; past = a.past; is_who = a.is_who; is_past = a.is_past; outcome = a.outcome ∙ ap (λ z. Answered (answer real (node_of a.past) z)) delivered }

        its_session : session_of_frame (node_of a.past) f ≡ Some (t.program, t.session)
        its_session =
            sym (ap (λ z. option_and_then (session_of_frame (node_of a.past)) (result_ok z)) reads)
            ∙ ap (session_of_call real (node_of a.past)) (sym delivered) ∙ t.is_session

        its_role : role_of ev ≡ f.receiver
        its_role = (let two : ev ∷ [] ≡ receipt f ∷ [] = sym event ∙ ap events_of_outcome outcome in let is : ev ≡ receipt f = cc in ap role_of is)

        received : (o : Outcome) → e.outcome ≡ o → IfReceived o (IsReceiptAt (node_of a.past) f) → IsExample g f.receiver (view_in (events_of (sid_of ev) before) f) walk
        received (OfStep.Received r) is at =
            let w : IsWalkOf r walk = fits r is in
            let views : Some w.view ≡ Some (record { origin = origin at.session; items = map seen f.items }) = sym w.is_view ∙ at.view in
            let shows : w.view ≡ record { origin = origin at.session; items = map seen f.items } = cc in
            let two : Some (r.program, at.session) ≡ Some (t.program, t.session) = sym at.is_session ∙ its_session in
            let both : (r.program, at.session) ≡ (t.program, t.session) = cc in
            let program : r.program ≡ t.program = ap (λ (z : Program × Session). z.0) both in
            let session : at.session ≡ t.session = ap (λ (z : Program × Session). z.1) both in
            let follows : origin at.session ≡ (view_in (events_of (sid_of ev) before) f).origin =
            subst (λ (sid : List ℕ). origin at.session ≡ (view_in (events_of sid before) f).origin) same
            (origins_are_last_labels real real_hash programs s before l after bs f r.program at.session u.compiled u.schedule u.premises parts is_call reads outcome at_node at.is_session) in
            let role : r.program.role ≡ f.receiver = ap (λ (p : Program). p.role) program ∙ sym t.is_role ∙ sym its.1 ∙ its_role in
            subst (λ (z : Graph). IsExample z f.receiver (view_in (events_of (sid_of ev) before) f) walk) (ap (λ (p : Program). p.graph) program ∙ sym graph_is)
            (subst (λ k. IsExample r.program.graph k (view_in (events_of (sid_of ev) before) f) walk) role
            (subst (λ (v : View). IsExample r.program.graph r.program.role v walk) (shows ∙ ap (λ z. record { origin = z; items = map seen f.items }) follows) w.example))
        received (OfStep.Started h) is at = absurd at
        received (OfStep.Sent h to frame) is at = absurd at
        received other is at = (let q : None ≡ Some ev = ap (λ (z : Outcome). event_reported (outcome_of z)) (sym is) ∙ is_event in absurd (cc))

    pub shown_step : IsShownStep programs s before l g e.honest ev walk
    shown_step = record { call = c; is_call = call; event = event; graph = its_graph; honest = its_honest; shown = its_walk }

-- ---- the traces of a record's entries

-- what holds of all holds at an index
all_at : {A : Type 0} (P : A → Type 0) (xs : List A) (i : ℕ) (x : A) → AllByRecursion P xs → slice_get xs i ≡ Some x → P x
all_at P [] i x h e = absurd (cc)
all_at P (y ∷ ys) zero x h e = (let same : y ≡ x = cc in subst P same h.0)
all_at P (y ∷ ys) (suc i) x h e = all_at P ys i x h.1 e

-- the call of an entry that isn't silent
a_call : (l : Logged) → (l.call ≡ None → events_of_outcome l.outcome ≡ []) → (ev : Event) → events_of_outcome l.outcome ≡ ev ∷ [] → (c : Call) × (l.call ≡ Some c)
a_call l silent ev is = go l.call refl
  where
    go : (o : Option Call) → l.call ≡ o → (c : Call) × (l.call ≡ Some c)
    go None e = (let q : [] ≡ ev ∷ [] = sym (silent e) ∙ is in absurd (cc))
    go (Some c) e = (c, e)

module _ (z : Replay) (entries : List TakenStep) (h : AreOfRun z entries) (i : ℕ) (e : TakenStep) (less : i < length entries) (is : e ≡ get_or entries i e) (old : Traces) (are : AreTraces z.programs z.schedule (take i (run_of z).log) old) where
  at : IsAt z i e
  at = entry_there z entries h i e less is

  one_event : (ev : Event) → event_reported (outcome_of e.outcome) ≡ Some ev → events_of_outcome at.entry.outcome ≡ ev ∷ []
  one_event ev is_event = reported_event at.number at.entry.outcome ∙ ap (λ o. option_to_list (event_reported o)) (sym at.reported) ∙ ap option_to_list is_event

  -- the trace of the session of its event is of the event's graph
  pub fits_entry : FitsEntry e old
  fits_entry ev g j x is_event is_graph there =
      let c = a_call at.entry at.silent ev (one_event ev is_event) in
      let of : IsTraceOf z.schedule (run real z.programs z.schedule).log (take i (run_of z).log) (sid_of ev) x = all_at (λ (y : List ℕ × Trace). IsTraceOf z.schedule (run real z.programs z.schedule).log (take i (run_of z).log) y.0 y.1) old j (sid_of ev, x) are.each there in
      let two : Some x.graph ≡ Some g = sym of.graph ∙ its_graph z.programs z.schedule h.unbroken (take i (run_of z).log) at.entry at.after at.parts e at.learnt at.number at.reported c.0 c.1 ev is_event g is_graph of.cast of.is_cast in
      cc

  goes : (ev : Event) (g : Graph) (walk : List ℕ) (new : Traces) → event_reported (outcome_of e.outcome) ≡ Some ev → graph_of_event e.outcome ≡ Some g → ((r : Receipt) → e.outcome ≡ OfStep.Received r → IsWalkOf r walk) → IsAdded g e.honest ev walk old new
      → AreTraces z.programs z.schedule (take i (run_of z).log ++ at.entry ∷ []) new
  goes ev g walk new is_event is_graph fits added =
      let c = a_call at.entry at.silent ev (one_event ev is_event) in
      traces_go_on z.programs z.schedule (take i (run_of z).log) at.entry g e.honest ev walk old new h.unbroken (record { after = at.after; parts = at.parts })
      (shown_step z.programs z.schedule h.unbroken (take i (run_of z).log) at.entry at.after at.parts e at.learnt at.number at.reported c.0 c.1 ev is_event g is_graph walk fits) are added

  -- with the event added, the traces are those of the steps so far
  pub next_traces : (new : Traces) → IsEntryAdded e old new → AreTraces z.programs z.schedule (take (i + 1) (run_of z).log) new
  next_traces new added = subst (λ ls. AreTraces z.programs z.schedule ls new) (sym at.next) (by e.outcome refl added)
    where
      silent : (o : Outcome) → e.outcome ≡ o → event_reported (outcome_of o) ≡ None → new ≡ old → AreTraces z.programs z.schedule (take i (run_of z).log ++ at.entry ∷ []) new
      silent o q none same =
          let no_event : events_of_outcome at.entry.outcome ≡ [] = reported_event at.number at.entry.outcome ∙ ap (λ o. option_to_list (event_reported o)) (sym at.reported) ∙ ap (λ (o : Outcome). option_to_list (event_reported (outcome_of o))) q ∙ ap option_to_list none in
          subst (AreTraces z.programs z.schedule (take i (run_of z).log ++ at.entry ∷ [])) (sym same) (goes_past z.programs z.schedule (take i (run_of z).log) at.entry old no_event are)

      by : (o : Outcome) → e.outcome ≡ o → IsOutcomeAdded o e.honest old new → AreTraces z.programs z.schedule (take i (run_of z).log ++ at.entry ∷ []) new
      by (OfStep.Started d) q added =
          goes (event_of d.event) d.graph.now [] new (ap (λ (o : Outcome). event_reported (outcome_of o)) q) (ap graph_of_event q) (λ r other. (let n : OfStep.Started d ≡ OfStep.Received r = sym q ∙ other in absurd (cc))) added
      by (OfStep.Sent d to frame) q added =
          goes (event_of d.event) d.graph.now [] new (ap (λ (o : Outcome). event_reported (outcome_of o)) q) (ap graph_of_event q) (λ r other. (let n : OfStep.Sent d to frame ≡ OfStep.Received r = sym q ∙ other in absurd (cc))) added
      by (OfStep.Received r) q added =
          goes r.event r.program.graph added.0 new (ap (λ (o : Outcome). event_reported (outcome_of o)) q) (ap graph_of_event q)
          (λ x other. (let n : OfStep.Received r ≡ OfStep.Received x = sym q ∙ other in let same : r ≡ x = cc in subst (λ (y : Receipt). IsWalkOf y added.0) same added.1)) added.2
      by other q added = silent other q refl added
