-- The entries of a run have their names in the graphs of their calls.
use Rattle.std.specs.Prelude.{◌≡◌, ℕ, ◌+◌, ◌-◌, ◌⊎◌, true, List, ◌∷◌, ◌++◌, map, flat_map, take, length, bytes_eq, refl, Some, None, option_and_then, Result, Ok, Err, Contains}
use Rattle.std.specs.List.{AllByRecursion}
use Rattle.std.specs.Result.{result_ok}
use Rattle.std.proofs.Common.{sym, ◌∙◌, ap, subst, inl, inr, arith}
use Rattle.std.proofs.lemmas.Slice.Eq.{bytes_eq-Decides}
use Rattle.sg_model.proofs.Small.{same_bytes, bytes_same, all-right}
use Rattle.sg_model.proofs.Members.{In, in_from_Contains, contains_from_in, in_left, in_right, in_map, in_flat, rec_in, all_in, in_split}
use Rattle.sg_model.proofs.Finding.{find_passes, found_in, find_some}
use Rattle.sg_protocol.specs.Graph.{Graph, IsGraph}
use Rattle.sg_protocol.specs.Frame.{Cast, Frame}
use Rattle.sg_protocol.specs.Reading.{read}
use Rattle.sg_protocol.specs.Texts.{Hash, IsHash, session_id, session_text_of, graph_text_of, graph_digest}
use Rattle.sg_protocol.specs.TextLaws.{CastFits}
use Rattle.sg_protocol.specs.Keyring.{Program}
use Rattle.sg_protocol.specs.Session.{Session, new_session}
use Rattle.sg_protocol.specs.Calls.{Event, events_of_answer, Call, Start, Act, Abandon, Deliver}
use Rattle.sg_protocol.specs.Node.{Node}
use Rattle.sg_protocol.specs.Acting.{answer}
use Rattle.sg_protocol.specs.Notes.{notes}
use Rattle.sg_protocol.specs.Past.{Past, node_of}
use Rattle.sg_protocol.specs.Schedule.{Schedule, graph_with}
use Rattle.sg_protocol.specs.World.{World, Logged, past_of, new_world, Answered}
use Rattle.sg_protocol.specs.Run.{world_after_all, run, events_of_outcome, cast_in, cast_of_session}
use Rattle.sg_protocol.specs.Premises.{hashed, CollisionFree}
use Rattle.sg_protocol.specs.Beginnings.{first_steps}
use Rattle.sg_protocol.specs.IsSchedule.{IsProgram, AreCompiled, IsSchedule}
use Rattle.sg_protocol.specs.Headline.{IsOfCast}
use Rattle.sg_protocol.specs.Named.{IsNamed, GivesVariables, IsAnswered, EntriesAreAnswered, EntriesAreNamed, EntriesHaveOneGraph, IsOfOneGraph, StepsAreNamed, names_numbers}
use Rattle.sg_protocol.proofs.TextLaws as TL
use Rattle.sg_protocol.proofs.Progressing.{small_values}
use Rattle.sg_protocol.proofs.OneWalk.{FirstCast, first_cast, first_of_live}
use Rattle.sg_protocol.proofs.FirstSteps.{run_first}
use Rattle.sg_protocol.proofs.Answered.{WasAsked, was_asked}
use Rattle.sg_protocol.proofs.Courses.{all_same, course, course_first, course_from, is_course, same_run}
use Rattle.sg_protocol.proofs.Happenings.{Asked, IsGiven, IsRight, all_happen, are_programs, cast_given, run_of}
use Rattle.sg_protocol.proofs.Ranges.{joined_in_range}
use Rattle.sg_protocol.proofs.ReadBack.{read-SpellsFrame}
use Rattle.sg_protocol.proofs.Roles.{sessions_have_one_cast}
use Rattle.sg_protocol.proofs.KnownLogs.{At, known_before}
use Rattle.sg_protocol.proofs.LiveSessions.{Known, no_entry}
use Rattle.sg_protocol.specs.Bounds.{IsSession}
use Rattle.sg_protocol.proofs.Named.{NamesFrom, call_named, answers_are_named}
use Rattle.sg_protocol.proofs.Whole.{same_name, same_named}

-- ---- the entry of a call

-- after the first that happens in a schedule's run, a principal is asked the call, and the entry is of its answer
abbrev pub AskedInRun : Hash → List Program → Schedule → List Logged → Logged → Call → Type 0
AskedInRun sha programs s before l c = WasAsked sha (new_world programs s) 1 (course_from sha s (new_world programs s) 1 s.steps) before l c

pub asked_in_run : (sha : Hash) (programs : List Program) (s : Schedule) (before : List Logged) (l : Logged) (after : List Logged) (c : Call) → (run sha programs s).log ≡ before ++ l ∷ after → l.call ≡ Some c → AskedInRun sha programs s before l c
asked_in_run sha programs s before l after c e call =
    was_asked sha (new_world programs s) 1 (course_from sha s (new_world programs s) 1 s.steps) before l after c (ap (λ (w : World). w.log) (all_same sha s (new_world programs s) 1 s.steps) ∙ e) call

entry_asked : (sha : Hash) (programs : List Program) (s : Schedule) (l : Logged) (c : Call) → Contains (run sha programs s).log l → l.call ≡ Some c → (before : List Logged) × AskedInRun sha programs s before l c
entry_asked sha programs s l c i e = let split = in_split (run sha programs s).log l (in_from_Contains (run sha programs s).log l i) in (split.0, asked_in_run sha programs s split.0 l split.1 c split.2 e)

module _ (sha : Hash) (programs : List Program) (s : Schedule) (before : List Logged) (l : Logged) (c : Call) (r : AskedInRun sha programs s before l c) where
  answered_by : past_of (run sha programs (first_steps (l.number - 1) s)) r.who ≡ Some r.past
  answered_by =
      let n : l.number - 1 ≡ length r.first = (let h : l.number ≡ 1 + length r.first = ap (λ (z : Logged). z.number) r.is in omega (arith, h)) in
      ap (λ w. past_of w r.who) (run_first sha programs s (l.number - 1)
      ∙ ap (λ n. world_after_all sha s (new_world programs s) 1 (take n s.steps)) n
      ∙ sym (all_same sha s (new_world programs s) 1 (take (length r.first) s.steps))
      ∙ ap (all_happen sha (new_world programs s) 1) (course_first sha s (new_world programs s) 1 s.steps r.first (Asked r.who c ∷ r.rest) r.parts))
      ∙ r.is_past

  its_outcome : l.outcome ≡ Answered (answer sha (node_of r.past) c)
  its_outcome = ap (λ (z : Logged). z.outcome) r.is

  is_answered : IsAnswered sha programs s l c
  is_answered = record { who = r.who; past = r.past; is_who = ap (λ (z : Logged). z.who) r.is; is_past = answered_by; outcome = its_outcome }

  -- the past of an entry is the one of its principal then
  pub same_past : (a : IsAnswered sha programs s l c) → r.past ≡ a.past
  same_past a =
      let two : Some r.who ≡ Some a.who = sym (ap (λ (z : Logged). z.who) r.is) ∙ a.is_who in
      let who : r.who ≡ a.who = cc in
      let pasts : Some r.past ≡ Some a.past = sym answered_by ∙ ap (past_of (run sha programs (first_steps (l.number - 1) s))) who ∙ a.is_past in
      let same : r.past ≡ a.past = cc in
      same

pub entries_are_answered : (sha : Hash) → EntriesAreAnswered sha
entries_are_answered sha programs s l c i e = let r = entry_asked sha programs s l c i e in is_answered sha programs s r.0 l c r.1

-- ---- what is known of the node before it

gives_variables : (c : Call) → IsGiven c → GivesVariables c
gives_variables (Start c) h = tt
gives_variables (Act sid label values confounders) h = small_values values h.each
gives_variables (Abandon sid) h = tt
gives_variables (Deliver bytes) h = tt

module _ (sha : Hash) (hash : IsHash sha) (programs : List Program) (s : Schedule) (compiled : AreCompiled sha s.graphs programs) (sched : IsSchedule sha s) (before : List Logged) (l : Logged) (c : Call) (r : AskedInRun sha programs s before l c) where
  abbrev n : Node
  n = node_of r.past

  its_given : IsGiven c
  its_given = (all-right IsRight r.first (Asked r.who c ∷ r.rest) (subst (AllByRecursion IsRight) r.parts (is_course sha hash programs s compiled sched).right)).0

  known_past : At sha hash s (new_world programs s).pasts (course sha hash programs s compiled sched) (is_course sha hash programs s compiled sched) r.who r.past
  known_past = (known_before sha hash s (new_world programs s).pasts (course sha hash programs s compiled sched) (is_course sha hash programs s compiled sched) r.first (Asked r.who c ∷ r.rest) r.parts).nodes r.who r.past r.is_past

  programs_are : AllByRecursion (IsProgram sha) n.programs
  programs_are = are_programs sha s n.programs (known_past.known).programs

  named : names_numbers (answer sha n c) ≡ true → NamesFrom sha n programs_are c (answer sha n c)
  named h = call_named sha n programs_are c (gives_variables c its_given) (answer sha n c) refl h

pub entries_are_named : (sha : Hash) → IsHash sha → EntriesAreNamed sha
entries_are_named sha hash programs s compiled sched l c i e a h =
    let r = entry_asked sha programs s l c i e in
    let same = same_past sha programs s r.0 l c r.1 a in
    subst (λ p. IsNamed sha (node_of p) c (answer sha (node_of p) c)) same
    (named sha hash programs s compiled sched r.0 l c r.1 (subst (λ p. names_numbers (answer sha (node_of p) c) ≡ true) (sym same) h)).is_named

-- ---- one cast and one graph

module _ (sha : Hash) (hash : IsHash sha) (programs : List Program) (s : Schedule) (compiled : AreCompiled sha s.graphs programs) (sched : IsSchedule sha s) (before : List Logged) (l : Logged) (c : Call) (i : In (run sha programs s).log l)
    (r : AskedInRun sha programs s before l c) (h : names_numbers (answer sha (node_of r.past) c) ≡ true) where
  abbrev w : World
  w = run sha programs s

  abbrev n' : Node
  n' = node_of r.past

  abbrev t : NamesFrom sha n' (programs_are sha hash programs s compiled sched before l c r) c (answer sha n' c)
  t = named sha hash programs s compiled sched before l c r h

  -- the session's cast is one whose text was hashed
  record IsNoted (x : Session) : Type 0 where
    fits : CastFits x.cast
    id : session_id sha x.cast ≡ x.sid
    is_hashed : In (hashed s w) (session_text_of x.cast)

  abbrev w' : World
  w' = run_of sha (new_world programs s).pasts (course sha hash programs s compiled sched)

  one_run : w' ≡ w
  one_run = same_run sha hash programs s compiled sched

  hashed_in : (t : List ℕ) → In (hashed s w') t → In (hashed s w) t
  hashed_in t j = subst (λ (z : World). In (hashed s z) t) one_run j

  cast_in_run : (sid : List ℕ) → cast_of_session sid w'.log ≡ cast_of_session sid w.log
  cast_in_run sid = ap (λ (z : World). cast_of_session sid z.log) one_run

  noted : (x : Session) → In n'.live x ⊎ ((cast_in c ≡ Some x.cast) × (session_id sha x.cast ≡ x.sid) × In (notes sha n' c).hashed (session_text_of x.cast)) → IsNoted x
  noted x (inl j) =
      let q = (known_past sha hash programs s compiled sched before l c r).known in
      let k : Known sha (λ t. In (hashed s w') t) r.who x = rec_in (Known sha (λ t. In (hashed s w') t) r.who) n'.live x q.known j in
      let f : IsSession x = rec_in IsSession n'.live x q.fits j in
      record { fits = TL.cast_fits x.cast f.version f.cast; id = k.id; is_hashed = hashed_in (session_text_of x.cast) k.is_hashed }
  noted x (inr b) = record {
    fits = by_call c (its_given sha hash programs s compiled sched before l c r) b.0;
    id = b.1;
    is_hashed = in_right (map graph_text_of s.graphs) (flat_map (λ (z : Logged). z.notes.hashed) w.log) (session_text_of x.cast) (in_flat (λ (z : Logged). z.notes.hashed) w.log l (session_text_of x.cast) i (subst (λ z. In z.hashed (session_text_of x.cast)) (sym (ap (λ (z : Logged). z.notes) r.is)) b.2));
  }
    where
      by_call : (d : Call) → IsGiven d → cast_in d ≡ Some x.cast → CastFits x.cast
      by_call (Start y) h q = (let is : y ≡ x.cast = cc in subst CastFits is (cast_given y h))
      by_call (Act sid label values confs) h q = absurd (cc)
      by_call (Abandon sid) h q = absurd (cc)
      by_call (Deliver bs) h q = go (read bs) refl q
        where
          go : (m : Result Frame ℕ) → read bs ≡ m → option_and_then (λ (f : Frame). f.join) (result_ok m) ≡ Some x.cast → CastFits x.cast
          go (Err at) rd q = absurd (cc)
          go (Ok f) rd q = let z : IsSession (new_session f.sid x.cast f.receiver) = joined_in_range f x.cast (read-SpellsFrame bs f h rd).is_frame q in TL.cast_fits x.cast z.version z.cast

  -- the cast of a sid is that of each such session of it
  abbrev First : List ℕ → Type 0
  First sid = FirstCast sha hash s (new_world programs s).pasts (course sha hash programs s compiled sched) (is_course sha hash programs s compiled sched) sid

  first_is : (sid : List ℕ) (cast : Cast) → cast_of_session sid w.log ≡ Some cast → First sid
  first_is sid cast q = first_cast sha hash s (new_world programs s).pasts (course sha hash programs s compiled sched) (is_course sha hash programs s compiled sched) sid
      (λ none. let two : None ≡ Some cast = sym (ap (option_and_then (λ (z : Logged). option_and_then cast_in z.call)) (no_entry sid w'.log none)) ∙ cast_in_run sid ∙ q in cc)

  same_cast : CollisionFree sha (hashed s w) → (x : Session) → IsNoted x → (cast : Cast) → cast_of_session x.sid w.log ≡ Some cast → x.cast ≡ cast
  same_cast free x nt cast q =
      let f : First x.sid = first_is x.sid cast q in
      let two : Some f.cast ≡ Some cast = sym f.is_cast ∙ cast_in_run x.sid ∙ q in
      let is : f.cast ≡ cast = cc in
      TL.one_cast x.cast f.cast nt.fits f.fits (free (session_text_of x.cast) (session_text_of f.cast) (contains_from_in (hashed s w) (session_text_of x.cast) nt.is_hashed) (contains_from_in (hashed s w) (session_text_of f.cast) (hashed_in (session_text_of f.cast) f.is_hashed)) (nt.id ∙ sym f.sid_is)) ∙ is

  same_digest : CollisionFree sha (hashed s w) → (a b : Graph) → In s.graphs a → In s.graphs b → graph_digest sha a ≡ graph_digest sha b → a ≡ b
  same_digest free a b i j e =
      let there : (g : Graph) → In s.graphs g → Contains (hashed s w) (graph_text_of g) = λ g k. contains_from_in (hashed s w) (graph_text_of g) (in_left (map graph_text_of s.graphs) _ (graph_text_of g) (in_map graph_text_of s.graphs g k)) in
      let t : graph_text_of a ≡ graph_text_of b = free (graph_text_of a) (graph_text_of b) (there a i) (there b j) e in
      same_named s.graphs a b sched.graph_names i j (same_name a b (all_in IsGraph s.graphs a sched.are_graphs i) (all_in IsGraph s.graphs b sched.are_graphs j) (TL.one_canonical a b t))

  graph_found : CollisionFree sha (hashed s w) → (p : Program) → IsProgram sha p → In s.graphs p.graph → (digest : List ℕ) → digest ≡ p.digest → graph_with sha s.graphs digest ≡ Some p.graph
  graph_found free p ip there digest d =
      let test = λ (z : Graph). bytes_eq (graph_digest sha z) digest in
      let y = find_some test s.graphs p.graph there ((bytes_eq-Decides (graph_digest sha p.graph) digest).1 (sym ip.digest ∙ sym d)) in
      y.1 ∙ ap (λ z. Some z) (same_digest free y.0 p.graph (found_in test s.graphs y.0 y.1) there (same_bytes (graph_digest sha y.0) digest (find_passes test s.graphs y.0 y.1) ∙ d ∙ ip.digest))

  one_graph : CollisionFree sha (hashed s w) → (u : IsNamed sha n' c (answer sha n' c)) → IsOfOneGraph sha s w n' (answer sha n' c) u.program u.session
  one_graph free u =
      let two : Some (t.is_named.program, t.is_named.session) ≡ Some (u.program, u.session) = sym t.is_named.is_session ∙ u.is_session in
      let pair : (t.is_named.program, t.is_named.session) ≡ (u.program, u.session) = cc in
      let xs : t.is_named.session ≡ u.session = ap (λ (z : Program × Session). z.1) pair in
      let ps : t.is_named.program ≡ u.program = ap (λ (z : Program × Session). z.0) pair in
      let its : IsProgram sha u.program × In s.graphs u.program.graph = subst (λ (z : Program). IsProgram sha z × In s.graphs z.graph) ps (rec_in (λ (z : Program). IsProgram sha z × In s.graphs z.graph) n'.programs t.is_named.program ((known_past sha hash programs s compiled sched before l c r).known).programs t.there) in
      let same : (cast : Cast) → cast_of_session u.session.sid w.log ≡ Some cast → u.session.cast ≡ cast = same_cast free u.session (subst IsNoted xs (noted t.is_named.session t.is_from)) in
      record { graph = graph_found free u.program its.0 its.1 u.session.cast.graph u.is_graph; cast = same; event = had same; live = λ j. is_live same (in_from_Contains n'.live u.session j) }
    where
      is_live : ((cast : Cast) → cast_of_session u.session.sid w.log ≡ Some cast → u.session.cast ≡ cast) → In n'.live u.session → cast_of_session u.session.sid w.log ≡ Some u.session.cast
      is_live same j =
          let f : First u.session.sid = first_of_live sha hash s (new_world programs s).pasts (course sha hash programs s compiled sched) (is_course sha hash programs s compiled sched) u.session.sid
          r.first (Asked r.who c ∷ r.rest) r.parts r.who r.past r.is_past u.session j (bytes_same u.session.sid u.session.sid refl) in
          let is : cast_of_session u.session.sid w.log ≡ Some f.cast = sym (cast_in_run u.session.sid) ∙ f.is_cast in
          is ∙ ap (λ z. Some z) (sym (same f.cast is))

      had : ((cast : Cast) → cast_of_session u.session.sid w.log ≡ Some cast → u.session.cast ≡ cast) → (v : Event) → Contains (events_of_answer (answer sha n' c)) v → cast_of_session u.session.sid w.log ≡ Some u.session.cast
      had same v j =
          let o : IsOfCast sha s w l r.who v = sessions_have_one_cast sha hash programs s compiled sched free l r.who v (contains_from_in w.log l i, ap (λ (z : Logged). z.who) r.is, subst (λ z. Contains (events_of_outcome z) v) (sym (ap (λ (z : Logged). z.outcome) r.is)) j) in
          let its : cast_of_session u.session.sid w.log ≡ Some o.cast = ap (λ z. cast_of_session z w.log) (sym (u.event v j).0) ∙ o.is_cast in
          its ∙ ap (λ z. Some z) (sym (same o.cast its))

-- what is claimed of an entry, with the past of its principal
abbrev HasOneGraph : (sha : Hash) (programs : List Program) (s : Schedule) (c : Call) → Past → Type 0
HasOneGraph sha programs s c p = names_numbers (answer sha (node_of p) c) ≡ true → (u : IsNamed sha (node_of p) c (answer sha (node_of p) c)) → IsOfOneGraph sha s (run sha programs s) (node_of p) (answer sha (node_of p) c) u.program u.session

pub entries_have_one_graph : (sha : Hash) → IsHash sha → EntriesHaveOneGraph sha
entries_have_one_graph sha hash programs s compiled sched free l c i e a =
    let r = entry_asked sha programs s l c i e in
    subst (HasOneGraph sha programs s c) (same_past sha programs s r.0 l c r.1 a) (λ h u. one_graph sha hash programs s compiled sched r.0 l c (in_from_Contains (run sha programs s).log l i) r.1 h free u)

pub steps_are_named : (sha : Hash) → IsHash sha → StepsAreNamed sha
steps_are_named sha hash = record { at_nodes = answers_are_named sha; answered = entries_are_answered sha; entries = entries_are_named sha hash; one_graph = entries_have_one_graph sha hash }
