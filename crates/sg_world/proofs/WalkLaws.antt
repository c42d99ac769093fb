-- The walks of a replay's sessions, in the order in which they are reported.
use Rattle.std.specs.Prelude.{◌≡◌, ◌≢◌, ℕ, Bool, true, false, ◌||◌, if◌then◌else◌, List, [], ◌∷◌, ◌++◌, map, filter, filter_map, flat_map, cond, length, bytes_eq, refl, Option, Some, None, option_map, option_and_then, IfOk, IfSome, MatchOption, Result, Ok, Err}
use Rattle.std.specs.List.{AllByRecursion, cons_option}
use Rattle.std.specs.Map.{lookup}
use Rattle.std.specs.Option.{option_map_or, option_to_list}
use Rattle.std.proofs.Common.{zero, suc, ◌+◌, take, slice_get, append_assoc, sym, ◌∙◌, ap, subst, arith}
use Rattle.std.proofs.lemmas.Grind.{flat_map-append}
use Rattle.std.proofs.lemmas.List.{length-map, map-append}
use Rattle.std.proofs.lemmas.Option.{same_Some}
use Rattle.std.proofs.Math.Seq.{take-length}
use Rattle.std.proofs.lemmas.Slice.Eq.{bytes_eq-Decides}
use Rattle.std.proofs.lemmas.List.Elements.{filter_map-append}
use Rattle.sg_certify.specs.Traces.{Trace, Traces}
use Rattle.sg_certify.specs.Runs.{AreTraces, IsTraceOf, IsExplainedBy, IsUnbroken, sids_of}
use Rattle.sg_certify.proofs.Traced.{traces_are_explained}
use Rattle.sg_certify.specs.Events.{explaining_walk}
use Rattle.sg_text.proofs.Firsts.{has_text-firsts}
use Rattle.sg_text.proofs.Steps.{HasSteps-IsStoredWalk}
use Rattle.sg_text.specs.Sessions.{KnownSessions, all_sids, naming, session_name, sids_known}
use Rattle.sg_text.specs.Walks.{HasSteps}
use Rattle.sg_model.specs.Lists.{has_text}
use Rattle.sg_protocol.proofs.RealHash.{real_hash}
use Rattle.sg_protocol.specs.Calls.{Event, sid_of}
use Rattle.sg_protocol.specs.Frame.{Cast}
use Rattle.sg_protocol.specs.Graph.{Graph}
use Rattle.sg_protocol.specs.IsSchedule.{AreCompiled, IsSchedule}
use Rattle.sg_protocol.specs.Keyring.{Program}
use Rattle.sg_protocol.specs.Run.{run, events_of}
use Rattle.sg_protocol.specs.Schedule.{Schedule, graph_with, honest_role}
use Rattle.sg_protocol.specs.Texts.{real}
use Rattle.sg_protocol.specs.Walk.{StoredStep, OnePath}
use Rattle.sg_report.specs.Lines.{graph_or_none}
use Rattle.sg_report.specs.Report.{known_sessions}
use Rattle.sg_walk.specs.Model.{steps_of}
use Rattle.sg_walk.specs.declared.stored.StoredWalk.{StoredWalk}
use Rattle.sg_world.specs.Account.{account, cast_met, graph_of, honest_in}
use Rattle.sg_setting.specs.Replay.{Replay, run_of}
use Rattle.sg_world.specs.Walked.{CanWalkAll, IsPath, Path, PremisesHold, WalksAreMade, WalksAreWritten, path_at, path_of_trace, path_line, sid_and_steps, sid_and_walk, steps_of_trace}

-- ---- events

-- a sid of no event is that of no session
pub none_with_event : (es : List Event) (sid : List ℕ) → has_text sid (map sid_of es) ≡ false → filter (λ e. bytes_eq (sid_of e) sid) es ≡ []
none_with_event [] sid h = refl
none_with_event (e ∷ es) sid h = by (bytes_eq (sid_of e) sid) refl (none_with_event es sid)
  where
    other : (b : Bool) → bytes_eq sid (sid_of e) ≡ b → (bytes_eq sid (sid_of e) || has_text sid (map sid_of es)) ≡ false → (bytes_eq sid (sid_of e) ≡ false) × (has_text sid (map sid_of es) ≡ false)
    other true q h = absurd (let z : true ≡ false = sym (ap (λ b. b || has_text sid (map sid_of es)) q) ∙ h in cc)
    other false q h = (q, sym (ap (λ b. b || has_text sid (map sid_of es)) q) ∙ h)

    by : (b : Bool) → bytes_eq (sid_of e) sid ≡ b → (has_text sid (map sid_of es) ≡ false → filter (λ e. bytes_eq (sid_of e) sid) es ≡ []) → cond b (e ∷ filter (λ e. bytes_eq (sid_of e) sid) es) (filter (λ e. bytes_eq (sid_of e) sid) es) ≡ []
    by true q rest = absurd (let z : true ≡ false = sym ((bytes_eq-Decides sid (sid_of e)).1 (sym ((bytes_eq-Decides (sid_of e) sid).0 q))) ∙ (other (bytes_eq sid (sid_of e)) refl h).0 in cc)
    by false q rest = rest (other (bytes_eq sid (sid_of e)) refl h).1

pub some_with_event : (es : List Event) (sid : List ℕ) → has_text sid (map sid_of es) ≡ true → filter (λ e. bytes_eq (sid_of e) sid) es ≢ []
some_with_event [] sid h q = absurd (let z : false ≡ true = h in cc)
some_with_event (e ∷ es) sid h q = by (bytes_eq (sid_of e) sid) refl q (some_with_event es sid)
  where
    later : (b : Bool) → bytes_eq sid (sid_of e) ≡ b → bytes_eq (sid_of e) sid ≡ false → has_text sid (map sid_of es) ≡ true
    later true p q = absurd (let z : true ≡ false = sym ((bytes_eq-Decides (sid_of e) sid).1 (sym ((bytes_eq-Decides sid (sid_of e)).0 p))) ∙ q in cc)
    later false p q = sym (ap (λ b. b || has_text sid (map sid_of es)) p) ∙ h

    by : (b : Bool) → bytes_eq (sid_of e) sid ≡ b → cond b (e ∷ filter (λ e. bytes_eq (sid_of e) sid) es) (filter (λ e. bytes_eq (sid_of e) sid) es) ≡ []
        → (has_text sid (map sid_of es) ≡ true → filter (λ e. bytes_eq (sid_of e) sid) es ≢ []) → ⊥
    by true p z rest = cc
    by false p z rest = rest (later (bytes_eq sid (sid_of e)) refl p) z

-- ---- a table of walks

module _ {X : Type 0} (path_of : List ℕ × X → Path) (is_of : (sid : List ℕ) (w : X) → (path_of (sid, w)).sid ≡ sid) where
  abbrev at : List (List ℕ × X) → List ℕ → Option Path
  at es sid = option_map (λ (w : X). path_of (sid, w)) (lookup (bytes_eq sid) es)

  -- what is found is a path
  pub found_path : (r : Replay) (es : List (List ℕ × X)) → AllByRecursion (λ (e : List ℕ × X). IsPath r (path_of e)) es → (sid : List ℕ) → IfSome (lookup (bytes_eq sid) es) (λ (w : X). IsPath r (path_of (sid, w)))
  found_path r [] h sid = tt
  found_path r (e ∷ es) h sid = by (bytes_eq sid e.0) refl (found_path r es h.1 sid)
    where
      by : (b : Bool) → bytes_eq sid e.0 ≡ b → IfSome (lookup (bytes_eq sid) es) (λ (w : X). IsPath r (path_of (sid, w))) → IfSome (cond b (Some e.1) (lookup (bytes_eq sid) es)) (λ (w : X). IsPath r (path_of (sid, w)))
      by true q rest = subst (λ (z : List ℕ). IsPath r (path_of (z, e.1))) (sym ((bytes_eq-Decides sid e.0).0 q)) h.0
      by false q rest = rest

  -- each path that is reported is one
  pub reported_paths : (r : Replay) (es : List (List ℕ × X)) → AllByRecursion (λ (e : List ℕ × X). IsPath r (path_of e)) es → (sids : List (List ℕ)) → AllByRecursion (IsPath r) (filter_map (at es) sids)
  reported_paths r es h [] = tt
  reported_paths r es h (sid ∷ sids) = by (lookup (bytes_eq sid) es) (found_path r es h sid) (reported_paths r es h sids)
    where
      by : (o : Option X) → IfSome o (λ (w : X). IsPath r (path_of (sid, w))) → AllByRecursion (IsPath r) (filter_map (at es) sids) → AllByRecursion (IsPath r) (cons_option (option_map (λ (w : X). path_of (sid, w)) o) (filter_map (at es) sids))
      by None i rest = rest
      by (Some w) i rest = (i, rest)

  -- the sid that is asked for is found if it is among the keys
  key_found : (sid : List ℕ) (es : List (List ℕ × X)) → option_map (λ (w : X). sid) (lookup (bytes_eq sid) es) ≡ (if has_text sid (map (λ (e : List ℕ × X). e.0) es) then Some sid else None)
  key_found sid [] = refl
  key_found sid (e ∷ es) = by (bytes_eq sid e.0) (key_found sid es)
    where
      by : (b : Bool) → option_map (λ (w : X). sid) (lookup (bytes_eq sid) es) ≡ (if has_text sid (map (λ (e : List ℕ × X). e.0) es) then Some sid else None)
          → option_map (λ (w : X). sid) (cond b (Some e.1) (lookup (bytes_eq sid) es)) ≡ (if b || has_text sid (map (λ (e : List ℕ × X). e.0) es) then Some sid else None)
      by true rest = refl
      by false rest = rest

  -- the sids that have a walk, in the order in which they are asked for
  pub reported_sids : (es : List (List ℕ × X)) (sids : List (List ℕ)) → map (λ (p : Path). p.sid) (filter_map (at es) sids) ≡ filter (λ sid. has_text sid (map (λ (e : List ℕ × X). e.0) es)) sids
  reported_sids es [] = refl
  reported_sids es (sid ∷ sids) = by (lookup (bytes_eq sid) es) (has_text sid (map (λ (e : List ℕ × X). e.0) es)) (key_found sid es) (reported_sids es sids)
    where
      by : (o : Option X) (b : Bool) → option_map (λ (w : X). sid) o ≡ (if b then Some sid else None) → map (λ (p : Path). p.sid) (filter_map (at es) sids) ≡ filter (λ sid. has_text sid (map (λ (e : List ℕ × X). e.0) es)) sids
          → map (λ (p : Path). p.sid) (cons_option (option_map (λ (w : X). path_of (sid, w)) o) (filter_map (at es) sids))
          ≡ cond b (sid ∷ filter (λ sid. has_text sid (map (λ (e : List ℕ × X). e.0) es)) sids) (filter (λ sid. has_text sid (map (λ (e : List ℕ × X). e.0) es)) sids)
      by None true q rest = absurd (cc)
      by None false q rest = rest
      by (Some w) true q rest = λ i. is_of sid w i ∷ rest i
      by (Some w) false q rest = absurd (cc)

  -- if each session with an event has a walk, and no other, these are the sessions that are met
  pub reported_known : (es : List (List ℕ × X)) (m : KnownSessions) → ((sid : List ℕ) → has_text sid (map (λ (e : List ℕ × X). e.0) es) ≡ has_text sid m.events) → map (λ (p : Path). p.sid) (filter_map (at es) (all_sids m)) ≡ sids_known m
  reported_known es m h = reported_sids es (all_sids m) ∙ (λ i. filter (λ sid. h sid i) (all_sids m))

-- ---- the steps of a walk

-- the graph of a session has the steps of a walk that explains it
pub has_its_steps : (r : Replay) (p : Path) → IsPath r p → HasSteps p.graph p.steps
has_its_steps r p h = subst (λ (g : Graph). HasSteps g p.steps) (sym h.graph) (HasSteps-IsStoredWalk (graph_of r p.sid) p.steps h.path.walk)

-- ---- walks that are made

-- a walk that explains a session is a path with the graph and the honest roles of its cast
pub explained_path : (r : Replay) (sid : List ℕ) (cast : Cast) (g : Graph) (steps : List StoredStep) → cast_met r sid ≡ Some cast → graph_with real r.schedule.graphs cast.graph ≡ Some g
    → OnePath g (honest_role r.schedule cast) (events_of sid (run_of r).log) steps → OnePath (graph_of r sid) (honest_in r sid) (events_of sid (run_of r).log) steps
explained_path r sid cast g steps is_cast is_graph path =
    let graph : graph_of r sid ≡ g = ap graph_or_none (ap (option_and_then (λ (c : Cast). graph_with real r.schedule.graphs c.graph)) is_cast ∙ is_graph) in
    let honest : (role : ℕ) → honest_in r sid role ≡ honest_role r.schedule cast role = λ role. ap (λ (o : Option Cast). option_map_or (λ c. honest_role r.schedule c role) o false) is_cast in
    let alike : honest_in r sid ≡ honest_role r.schedule cast = λ i role. honest role i in
    subst (λ (h : Graph). OnePath h (honest_in r sid) (events_of sid (run_of r).log) steps) (sym graph)
    (subst (λ (h : ℕ → Bool). OnePath g h (events_of sid (run_of r).log) steps) (sym alike) path)

module _ (r : Replay) (compiled : AreCompiled real r.schedule.graphs r.programs) (schedule : IsSchedule real r.schedule) (hold : PremisesHold r) where
  -- the walk of a session's trace explains the session
  session_path : (sid : List ℕ) (c : Trace) → IsTraceOf r.schedule (run_of r).log (run_of r).log sid c → IsPath r (path_of_trace (sid, c))
  session_path sid c h =
      let graph : graph_of r sid ≡ c.graph = ap graph_or_none (ap (option_and_then (λ (c : Cast). graph_with real r.schedule.graphs c.graph)) h.is_cast ∙ h.graph) in
      let path : OnePath c.graph (honest_role r.schedule h.cast) (events_of sid (run_of r).log) (explaining_walk c.graph (honest_role r.schedule h.cast) [] c.shown) =
      traces_are_explained real real_hash r.programs r.schedule sid h.cast c.graph c.shown compiled schedule hold h.is_cast h.graph h.trace in
      let same : steps_of_trace c ≡ explaining_walk c.graph (honest_role r.schedule h.cast) [] c.shown = λ i. explaining_walk c.graph (λ role. h.honest role i) [] c.shown in
      record {
        graph = sym graph;
        honest = λ role. h.honest role ∙ sym (ap (λ (o : Option Cast). option_map_or (λ c. honest_role r.schedule c role) o false) h.is_cast);
        path = explained_path r sid h.cast c.graph (steps_of_trace c) h.is_cast h.graph (subst (OnePath c.graph (honest_role r.schedule h.cast) (events_of sid (run_of r).log)) (sym same) path);
      }

  session_paths : (es : List (List ℕ × Trace)) → AllByRecursion (λ (e : List ℕ × Trace). IsTraceOf r.schedule (run_of r).log (run_of r).log e.0 e.1) es → AllByRecursion (λ (e : List ℕ × Trace). IsPath r (path_of_trace e)) es
  session_paths [] h = tt
  session_paths (e ∷ es) h = (session_path e.0 e.1 h.0, session_paths es h.1)

  pub trace_paths : (c : Traces) → AreTraces r.programs r.schedule (run_of r).log c → AllByRecursion (λ (e : List ℕ × Trace). IsPath r (path_of_trace e)) c
  trace_paths c are = session_paths c are.each

  have_steps : (es : List (List ℕ × Trace)) → AllByRecursion (λ (e : List ℕ × Trace). IsPath r (path_of_trace e)) es → AllByRecursion (λ (e : List ℕ × Trace). HasSteps e.1.graph (steps_of_trace e.1)) es
  have_steps [] h = tt
  have_steps (e ∷ es) h = (has_its_steps r (path_of_trace e) h.0, have_steps es h.1)

  pub can_walk : (c : Traces) → AreTraces r.programs r.schedule (run_of r).log c → CanWalkAll c
  can_walk c are = have_steps c (trace_paths c are)

  all_explained : (es : List (List ℕ × Trace)) → AllByRecursion (λ (e : List ℕ × Trace). IsPath r (path_of_trace e)) es
      → AllByRecursion (λ (w : List ℕ × List StoredStep). OnePath (graph_of r w.0) (honest_in r w.0) (events_of w.0 (run_of r).log) w.1) (map sid_and_walk es)
  all_explained [] h = tt
  all_explained (e ∷ es) h = (h.0.path, all_explained es h.1)

  sids_beside : (es : List (List ℕ × Trace)) → map (λ (w : List ℕ × List StoredStep). w.0) (map sid_and_walk es) ≡ map (λ (e : List ℕ × Trace). e.0) es
  sids_beside [] = refl
  sids_beside (e ∷ es) = ap (λ (z : List (List ℕ)). e.0 ∷ z) (sids_beside es)

  -- the walks of all sessions with an event, in the order of their first events
  pub walks_made : (c : Traces) → AreTraces r.programs r.schedule (run_of r).log c → (walks : List (List ℕ × List StoredStep)) → walks ≡ map sid_and_walk c → WalksAreMade r walks
  walks_made c are walks is = subst (WalksAreMade r) (sym is) (record {
    sids = sids_beside c ∙ are.sids;
    each = all_explained c (trace_paths c are);
  })

  -- the walks of all sessions with an event, in their order
  pub walks_written : (c : Traces) → AreTraces r.programs r.schedule (run_of r).log c → (old new : List ℕ)
      → new ≡ old ++ flat_map (path_line (known_sessions (account r))) (filter_map (path_at c) (all_sids (known_sessions (account r)))) → WalksAreWritten r old new
  walks_written c are old new text = record {
    paths = filter_map (path_at c) (all_sids (known_sessions (account r)));
    each = reported_paths path_of_trace (λ sid w. refl) r c (trace_paths c are) (all_sids (known_sessions (account r)));
    sids = reported_known path_of_trace (λ sid w. refl) c (known_sessions (account r)) (λ sid. ap (has_text sid) are.sids ∙ has_text-firsts sid (sids_of (run_of r).log));
    text = text;
  }

-- of what is given, one thing follows from another
pub made_ok : {V E : Type 0} {P Q : V → Type 0} (res : Result V E) → ((v : V) → P v → Q v) → IfOk res P → IfOk res Q
made_ok (Ok v) f h = f v h
made_ok (Err e) f h = tt

-- what a trace's walk gives explains the session
pub trace_path : (r : Replay) (c : Traces) (sid : List ℕ) (o : Option StoredWalk) (w : StoredWalk) → IsUnbroken r.programs r.schedule → AreTraces r.programs r.schedule (run_of r).log c
    → ((programs : List Program) (s : Schedule) → IsUnbroken programs s → AreTraces programs s (run real programs s).log c → MatchOption o (events_of sid (run real programs s).log ≡ []) (λ w. IsExplainedBy programs s sid (steps_of w)))
    → o ≡ Some w → OnePath (graph_of r sid) (honest_in r sid) (events_of sid (run_of r).log) (steps_of w)
trace_path r c sid o w unbroken are gives is =
    let e : IsExplainedBy r.programs r.schedule sid (steps_of w) =
    subst (λ (z : Option StoredWalk). MatchOption z (events_of sid (run real r.programs r.schedule).log ≡ []) (λ w. IsExplainedBy r.programs r.schedule sid (steps_of w))) is (gives r.programs r.schedule unbroken are) in
    explained_path r sid e.0.cast e.0.graph (steps_of w) e.0.is_cast e.0.is_graph (subst (OnePath e.0.graph (honest_role r.schedule e.0.cast) (events_of sid (run_of r).log)) e.1 e.0.path)

-- ---- written one after another

-- the graph of a trace that is found has the steps of its walk
pub found_can_walk : (sid : List ℕ) (es : List (List ℕ × Trace)) (c : Trace) → AllByRecursion (λ (e : List ℕ × Trace). HasSteps e.1.graph (steps_of_trace e.1)) es → lookup (bytes_eq sid) es ≡ Some c → HasSteps c.graph (steps_of_trace c)
found_can_walk sid [] c h q = absurd (cc)
found_can_walk sid (e ∷ es) c h q = by (bytes_eq sid e.0) q (found_can_walk sid es c h.1)
  where
    by : (b : Bool) → cond b (Some e.1) (lookup (bytes_eq sid) es) ≡ Some c → (lookup (bytes_eq sid) es ≡ Some c → HasSteps c.graph (steps_of_trace c)) → HasSteps c.graph (steps_of_trace c)
    by true q rest = subst (λ (z : Trace). HasSteps z.graph (steps_of_trace z)) (same_Some e.1 c q) h.0
    by false q rest = rest q

none_taken : {A : Type 0} (i : ℕ) → take {A = A} i [] ++ [] ≡ []
none_taken zero = refl
none_taken (suc i) = refl

next_taken : {A : Type 0} (xs : List A) (i : ℕ) → take (i + 1) xs ≡ take i xs ++ option_to_list (slice_get xs i)
next_taken {A = A} [] i = (let q : i + 1 ≡ suc i = omega arith in ap (λ n. take {A = A} n []) q) ∙ sym (none_taken i)
next_taken (x ∷ xs) zero = refl
next_taken (x ∷ xs) (suc i) = (let q : suc i + 1 ≡ suc (i + 1) = omega arith in ap (λ n. take n (x ∷ xs)) q) ∙ ap (λ z. x ∷ z) (next_taken xs i)

-- one more walk is written
pub walk_more : (f : Path → List ℕ) (g : List ℕ → Option Path) (xs : List (List ℕ)) (i : ℕ) (old mid new : List ℕ) → mid ≡ old ++ flat_map f (filter_map g (take i xs)) → new ≡ mid ++ flat_map f (filter_map g (option_to_list (slice_get xs i)))
    → new ≡ old ++ flat_map f (filter_map g (take (i + 1) xs))
walk_more f g xs i old mid new before more =
    more ∙ ap (λ t. t ++ flat_map f (filter_map g (option_to_list (slice_get xs i)))) before
    ∙ append_assoc old (flat_map f (filter_map g (take i xs))) (flat_map f (filter_map g (option_to_list (slice_get xs i))))
    ∙ ap (λ t. old ++ t) (sym (ap (λ z. flat_map f (filter_map g z)) (next_taken xs i) ∙ ap (flat_map f) (filter_map-append g (take i xs) (option_to_list (slice_get xs i)))
    ∙ flat_map-append f (filter_map g (take i xs)) (filter_map g (option_to_list (slice_get xs i)))))

-- all walks are written
pub all_walks : (m : KnownSessions) (f : Path → List ℕ) (g : List ℕ → Option Path) (i : ℕ) (old new : List ℕ) → new ≡ old ++ flat_map f (filter_map g (take i (all_sids m))) → i ≡ length (naming 120 m).names → new ≡ old ++ flat_map f (filter_map g (all_sids m))
all_walks m f g i old new h l =
    h ∙ ap (λ n. old ++ flat_map f (filter_map g (take n (all_sids m)))) (l ∙ length-map (all_sids m) (λ (sid : List ℕ). (sid, session_name 120 m sid))) ∙ ap (λ z. old ++ flat_map f (filter_map g z)) (take-length (all_sids m))

-- ---- made one after another

-- one more walk is made
pub walk_added : (old new : List (List ℕ × StoredWalk)) (o : Option (List ℕ × Trace)) (sid : List ℕ) (w : StoredWalk) (c : Trace) → new ≡ old ++ (sid, w) ∷ [] → steps_of w ≡ steps_of_trace c → Some (sid, c) ≡ o
    → map sid_and_steps new ≡ map sid_and_steps old ++ map sid_and_walk (option_to_list o)
walk_added old new o sid w c is steps at =
    ap (map sid_and_steps) is ∙ map-append sid_and_steps old ((sid, w) ∷ []) ∙ ap (λ (s : List StoredStep). map sid_and_steps old ++ (sid, s) ∷ []) steps
    ∙ ap (λ (z : Option (List ℕ × Trace)). map sid_and_steps old ++ map sid_and_walk (option_to_list z)) at

-- so are those of one more trace
pub more_made : (es : List (List ℕ × Trace)) (i : ℕ) (mid new : List (List ℕ × List StoredStep)) → mid ≡ map sid_and_walk (take i es) → new ≡ mid ++ map sid_and_walk (option_to_list (slice_get es i)) → new ≡ map sid_and_walk (take (i + 1) es)
more_made es i mid new before more =
    more ∙ ap (λ t. t ++ map sid_and_walk (option_to_list (slice_get es i))) before
    ∙ sym (ap (map sid_and_walk) (next_taken es i) ∙ map-append sid_and_walk (take i es) (option_to_list (slice_get es i)))

-- and those of all
pub all_made : (es : List (List ℕ × Trace)) (i : ℕ) (walks : List (List ℕ × List StoredStep)) → walks ≡ map sid_and_walk (take i es) → i ≡ length es → walks ≡ map sid_and_walk es
all_made es i walks h l = h ∙ ap (λ n. map sid_and_walk (take n es)) l ∙ ap (map sid_and_walk) (take-length es)
