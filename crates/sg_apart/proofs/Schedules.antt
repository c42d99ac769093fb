-- The run of a schedule is one of its honest principals apart.
use Rattle.std.specs.Prelude.{◌≡◌, ℕ, ◌+◌, ◌≤◌, All, Bool, true, false, List, [], ◌∷◌, map, filter, flat_map, length, bytes_eq, is_some, refl, slice_get, Option, Some, None, option_map}
use Rattle.std.specs.List.{AllByRecursion, list_all}
use Rattle.std.specs.Option.{option_map_or}
use Rattle.std.proofs.Common.{sym, ◌∙◌, ap, subst, inl, inr, arith, append-nil}
use Rattle.std.proofs.lemmas.Bool.{cases_Bool, and_parts}
use Rattle.std.proofs.lemmas.List.Elements.{filter-append, All-from_recursion, recursion_from_All}
use Rattle.sg_model.specs.Lists.{all_differ, has_text}
use Rattle.sg_model.specs.Names.{Name, is_name}
use Rattle.sg_model.proofs.Small.{all-append, cases_Option, same_bytes}
use Rattle.sg_model.proofs.Members.{In, in_from_Contains, contains_from_in, in_left, in_right, in_parts, in_map, all_in, filter_in, in_filter, of_filtered}
use Rattle.sg_protocol.specs.Accepted.{Accepted}
use Rattle.sg_protocol.specs.Graph.{Graph, IsGraph}
use Rattle.sg_protocol.specs.Frame.{Cast}
use Rattle.sg_protocol.specs.Texts.{Hash, IsHash, graph_text_of}
use Rattle.sg_protocol.specs.Keyring.{Program}
use Rattle.sg_protocol.specs.Calls.{Call, Start, Act, Abandon, Deliver}
use Rattle.sg_protocol.specs.Notes.{no_notes}
use Rattle.sg_protocol.specs.Past.{Past}
use Rattle.sg_protocol.specs.Schedule.{PairKey, NamedSession, Schedule, Step, StartStep, ActStep, AbandonStep, DeliverStep, CraftStep, is_honest, who_of, cast_of}
use Rattle.sg_protocol.specs.World.{World, Logged, Outcome, Crafted, NoFrame, past_of, new_world, call_of, bytes_of}
use Rattle.sg_protocol.specs.Run.{called, called_if, uncalled, world_after, world_after_all, run}
use Rattle.sg_protocol.specs.Premises.{MadeBefore, Premises, hashed}
use Rattle.sg_protocol.specs.IsSchedule.{AreCompiled, IsDeclared, IsSchedule, IsStep}
use Rattle.sg_protocol.specs.Ranges.{IsCallInRange}
use Rattle.sg_protocol.proofs.Progressing.{past_called}
use Rattle.sg_protocol.proofs.Fits.{Fit, call_given, declared_in, fit_new, fit_next}
use Rattle.sg_protocol.proofs.Happenings.{IsGiven}
use Rattle.sg_protocol.proofs.Whole.{first_past, new_past, program_graph}
use Rattle.sg_apart.specs.Apart.{Begins, CallAt, honest_are, names_of, run_apart, world_after_calls, world_called}
use Rattle.sg_apart.specs.Laws.{IsApart, SchedulesRunApart}

-- ---- lists

-- ---- entries with a call

abbrev has_call : Logged → Bool
has_call l = is_some l.call

-- the world with these entries alone
abbrev bare : World → World
bare w = record { pasts = w.pasts; log = filter has_call w.log }

-- an entry without a call notes nothing
abbrev Quiet : Logged → Type 0
Quiet l = has_call l ≡ false → l.notes ≡ no_notes

-- a call that nobody gets
abbrev nothing : CallAt
nothing = record { who = []; call = Abandon [] }

abbrev call_at : Option Name → Option Call → CallAt
call_at (Some who) (Some c) = record { who = who; call = c }
call_at who c = nothing

module _ (sha : Hash) (s : Schedule) where
  -- the calls of steps
  abbrev calls_from : World → ℕ → List Step → List CallAt
  calls_from w k [] = []
  calls_from w k (x ∷ xs) = call_at (who_of x) (call_of sha s w k x) ∷ calls_from (world_after sha s w k x) (k + 1) xs

  module _ (w : World) (k : ℕ) (nobody : past_of w [] ≡ None) where
    quiet_call : world_called sha (bare w) k nothing ≡ bare w
    quiet_call = ap (λ o. option_map_or (called sha (bare w) k [] (Abandon [])) o (bare w)) nobody

    idle_bare : (who : Option Name) (o : Outcome) (fr : Option (List ℕ)) → bare w ≡ bare (uncalled w k who o fr)
    idle_bare who o fr = ap (λ l. record { pasts = w.pasts; log = l }) (sym (filter-append has_call w.log _ ∙ append-nil (filter has_call w.log)))

    past_bare : (who : Name) (c : Option Call) (o : Option Past) → past_of w who ≡ o → world_called sha (bare w) k (call_at (Some who) c) ≡ bare (option_map_or (called_if sha w k who c) o w)
    past_bare who None None e = quiet_call
    past_bare who None (Some past) e = quiet_call ∙ idle_bare (Some who) NoFrame None
    past_bare who (Some c) None e = ap (λ o. option_map_or (called sha (bare w) k who c) o (bare w)) e
    past_bare who (Some c) (Some past) e = ap (λ o. option_map_or (called sha (bare w) k who c) o (bare w)) e ∙ ap (λ l. record { pasts = (called sha w k who c past).pasts; log = l }) (sym (filter-append has_call w.log _))

    step_bare : (x : Step) → world_called sha (bare w) k (call_at (who_of x) (call_of sha s w k x)) ≡ bare (world_after sha s w k x)
    step_bare (CraftStep c) = quiet_call ∙ idle_bare None Crafted _
    step_bare (StartStep who n) = past_bare who (call_of sha s w k (StartStep who n)) (past_of w who) refl
    step_bare (ActStep who n label values) = past_bare who (call_of sha s w k (ActStep who n label values)) (past_of w who) refl
    step_bare (AbandonStep who n) = past_bare who (call_of sha s w k (AbandonStep who n)) (past_of w who) refl
    step_bare (DeliverStep who what) = past_bare who (call_of sha s w k (DeliverStep who what)) (past_of w who) refl

    -- nobody stays nobody
    past_nobody : (who : Name) (c : Option Call) (o : Option Past) → past_of (option_map_or (called_if sha w k who c) o w) [] ≡ None
    past_nobody who c None = nobody
    past_nobody who None (Some past) = nobody
    past_nobody who (Some c) (Some past) = past_called sha w k who c past [] ∙ ap (option_map _) nobody

    step_nobody : (x : Step) → past_of (world_after sha s w k x) [] ≡ None
    step_nobody (CraftStep c) = nobody
    step_nobody (StartStep who n) = past_nobody who (call_of sha s w k (StartStep who n)) (past_of w who)
    step_nobody (ActStep who n label values) = past_nobody who (call_of sha s w k (ActStep who n label values)) (past_of w who)
    step_nobody (AbandonStep who n) = past_nobody who (call_of sha s w k (AbandonStep who n)) (past_of w who)
    step_nobody (DeliverStep who what) = past_nobody who (call_of sha s w k (DeliverStep who what)) (past_of w who)

  all_bare : (w : World) (k : ℕ) (xs : List Step) → past_of w [] ≡ None → world_after_calls sha (bare w) k (calls_from w k xs) ≡ bare (world_after_all sha s w k xs)
  all_bare w k [] nobody = refl
  all_bare w k (x ∷ xs) nobody = ap (λ z. world_after_calls sha z (k + 1) (calls_from (world_after sha s w k x) (k + 1) xs)) (step_bare w k nobody x) ∙ all_bare (world_after sha s w k x) (k + 1) xs (step_nobody w k nobody x)

  -- entries without a call note nothing
  module _ (w : World) (k : ℕ) (h : AllByRecursion Quiet w.log) where
    past_quiet : (who : Name) (c : Option Call) (o : Option Past) → AllByRecursion Quiet (option_map_or (called_if sha w k who c) o w).log
    past_quiet who c None = h
    past_quiet who None (Some past) = all-append Quiet w.log _ h ((λ e. refl), tt)
    past_quiet who (Some c) (Some past) = all-append Quiet w.log _ h ((λ e. absurd (cc)), tt)

    step_quiet : (x : Step) → AllByRecursion Quiet (world_after sha s w k x).log
    step_quiet (CraftStep c) = all-append Quiet w.log _ h ((λ e. refl), tt)
    step_quiet (StartStep who n) = past_quiet who (call_of sha s w k (StartStep who n)) (past_of w who)
    step_quiet (ActStep who n label values) = past_quiet who (call_of sha s w k (ActStep who n label values)) (past_of w who)
    step_quiet (AbandonStep who n) = past_quiet who (call_of sha s w k (AbandonStep who n)) (past_of w who)
    step_quiet (DeliverStep who what) = past_quiet who (call_of sha s w k (DeliverStep who what)) (past_of w who)

  all_quiet : (w : World) (k : ℕ) (xs : List Step) → AllByRecursion Quiet w.log → AllByRecursion Quiet (world_after_all sha s w k xs).log
  all_quiet w k [] h = h
  all_quiet w k (x ∷ xs) h = all_quiet (world_after sha s w k x) (k + 1) xs (step_quiet w k h x)

-- ---- principals

begin_new : (sha : Hash) (keys : List PairKey) (programs : List Program) (gs : List Graph) → AreCompiled sha gs programs → (names : List Name) → AllByRecursion (Begins sha) (map (new_past keys programs) names)
begin_new sha keys programs gs compiled [] = tt
begin_new sha keys programs gs compiled (n ∷ ns) = (record { calls = refl; programs = compiled.each; first = refl }, begin_new sha keys programs gs compiled ns)

names_new : (keys : List PairKey) (programs : List Program) (names : List Name) → names_of (map (new_past keys programs) names) ≡ names
names_new keys programs [] = refl
names_new keys programs (n ∷ ns) = ap (λ l. n ∷ l) (names_new keys programs ns)

module _ (sha : Hash) (hash : IsHash sha) (programs : List Program) (s : Schedule) (compiled : AreCompiled sha s.graphs programs) (sched : IsSchedule sha s) (accepted : All Accepted s.graphs) where
  abbrev ps : List Past
  ps = (new_world programs s).pasts

  abbrev wf : World
  wf = run sha programs s

  nobody : past_of (new_world programs s) [] ≡ None
  nobody = elim (cases_Option (past_of (new_world programs s) [])) [
    | inl e ↦ e
    | inr p ↦ absurd (let t = first_past s.keys programs s.honest [] p.0 p.1 in let n : is_name [] ≡ true = named s.honest (and_parts (all_differ s.honest) (list_all is_name s.honest) sched.honest_names).1 t.1 in cc)
  ]
    where
      named : (ts : List Name) → list_all is_name ts ≡ true → has_text [] ts ≡ true → is_name [] ≡ true
      named [] a h = absurd (cc)
      named (t ∷ ts) a h =
          let p = and_parts (is_name t) (list_all is_name ts) a in
          elim (cases_Bool (bytes_eq [] t)) [ inl e ↦ subst (λ z. is_name z ≡ true) (sym (same_bytes [] t e)) p.0 | inr e ↦ named ts p.1 (rw e at h) ]

  -- ---- ranges

  declared_count : (n : ℕ) (c : Cast) → cast_of s n ≡ Some c → (2 ≤ length c.names) × (length c.names ≤ 16)
  declared_count n c e = go (slice_get s.sessions n) refl e
    where
      go : (o : Option NamedSession) → slice_get s.sessions n ≡ o → option_map (λ (d : NamedSession). d.cast) o ≡ Some c → (2 ≤ length c.names) × (length c.names ≤ 16)
      go None q e = absurd (cc)
      go (Some d) q e =
          let r : d.cast ≡ c = cc in
          let h : IsDeclared sha s.graphs d = declared_in NamedSession (IsDeclared sha s.graphs) s.sessions n d sched.sessions q in
          let i = in_from_Contains s.graphs h.graph h.is_there in
          let two = (all_in Accepted s.graphs h.graph accepted i).two_roles in
          let few = (all_in IsGraph s.graphs h.graph sched.are_graphs i).sizes.0 in
          let len = h.count in
          subst (λ (z : Cast). (2 ≤ length z.names) × (length z.names ≤ 16)) r (omega (arith, two, len), omega (arith, few, len))

  call_ranged : (w : World) (k : ℕ) (x : Step) → Fit sha hash programs s compiled sched w → IsStep sha s x → (c : Call) → call_of sha s w k x ≡ Some c → IsCallInRange c
  call_ranged w k x fit good c e = in_range c (call_given sha hash programs s compiled sched w fit k x good c e) (λ d q. started x d (e ∙ ap (λ z. Some z) q))
    where
      started : (y : Step) (d : Cast) → call_of sha s w k y ≡ Some (Start d) → (2 ≤ length d.names) × (length d.names ≤ 16)
      started (StartStep who n) d e = go (cast_of s n) refl e
        where
          go : (o : Option Cast) → cast_of s n ≡ o → option_map Start o ≡ Some (Start d) → (2 ≤ length d.names) × (length d.names ≤ 16)
          go None q e = absurd (cc)
          go (Some b) q e = let r : b ≡ d = cc in declared_count n d (q ∙ ap (λ z. Some z) r)
      started (ActStep who n label values) d e = absurd (cc)
      started (AbandonStep who n) d e = absurd (cc)
      started (DeliverStep who what) d e = go (bytes_of w what) e
        where
          go : (o : Option (List ℕ)) → option_map Deliver o ≡ Some (Start d) → (2 ≤ length d.names) × (length d.names ≤ 16)
          go None e = absurd (cc)
          go (Some bs) e = absurd (cc)
      started (CraftStep c) d e = absurd (cc)

      in_range : (c : Call) → IsGiven c → ((d : Cast) → c ≡ Start d → (2 ≤ length d.names) × (length d.names ≤ 16)) → IsCallInRange c
      in_range (Start d) h count = record { version = h.version; fields = record { version = refl; graph = h.graph; nonce = h.nonce; count = count d refl; names = h.names } }
      in_range (Act sid label values confounders) h count = h
      in_range (Abandon sid) h count = h
      in_range (Deliver bytes) h count = h

  at_ranged : (who : Option Name) (o : Option Call) → ((c : Call) → o ≡ Some c → IsCallInRange c) → IsCallInRange (call_at who o).call
  at_ranged None o h = tt
  at_ranged (Some who) None h = tt
  at_ranged (Some who) (Some c) h = h c refl

  all_ranged : (w : World) (k : ℕ) (xs : List Step) → Fit sha hash programs s compiled sched w → AllByRecursion (IsStep sha s) xs → AllByRecursion (λ (c : CallAt). IsCallInRange c.call) (calls_from sha s w k xs)
  all_ranged w k [] fit good = tt
  all_ranged w k (x ∷ xs) fit good = (at_ranged (who_of x) (call_of sha s w k x) (call_ranged w k x fit good.0), all_ranged (world_after sha s w k x) (k + 1) xs (fit_next sha hash programs s compiled sched w k x fit good.0) good.1)

  -- ---- assumptions

  same_honest : (n : Name) → is_honest (honest_are ps) n ≡ is_honest s n
  same_honest n = ap (has_text n) (names_new s.keys programs s.honest)

  graph_there : (names : List Name) (g : Graph) → In (flat_map (λ (p : Past). map (λ (q : Program). q.graph) p.programs) (map (new_past s.keys programs) names)) g → In s.graphs g
  graph_there [] g i = absurd i
  graph_there (n ∷ ns) g i = elim (in_parts (map (λ (q : Program). q.graph) programs) _ g i) [
    | inl j ↦ of_programs programs (λ q j. j) j
    | inr j ↦ graph_there ns g j
  ]
    where
      of_programs : (xs : List Program) → ((q : Program) → In xs q → In programs q) → In (map (λ (q : Program). q.graph) xs) g → In s.graphs g
      of_programs [] there j = absurd j
      of_programs (q ∷ xs) there (inl e) = subst (In s.graphs) (sym e) (program_graph sha s.graphs programs compiled q (there q (inl refl)))
      of_programs (q ∷ xs) there (inr j) = of_programs xs (λ z k. there z (inr k)) j

  text_there : (gs : List Graph) → ((g : Graph) → In gs g → In s.graphs g) → (t : List ℕ) → In (map graph_text_of gs) t → In (map graph_text_of s.graphs) t
  text_there [] f t i = absurd i
  text_there (g ∷ gs) f t (inl e) = subst (In (map graph_text_of s.graphs)) (sym e) (in_map graph_text_of s.graphs g (f g (inl refl)))
  text_there (g ∷ gs) f t (inr i) = text_there gs (λ z j. f z (inr j)) t i

  hashed_there : (t : List ℕ) → In (hashed (honest_are ps) (bare wf)) t → In (hashed s wf) t
  hashed_there t i = elim (in_parts (map graph_text_of (honest_are ps).graphs) (flat_map (λ (l : Logged). l.notes.hashed) (bare wf).log) t i) [
    | inl j ↦ in_left (map graph_text_of s.graphs) (flat_map (λ (l : Logged). l.notes.hashed) wf.log) t (text_there (honest_are ps).graphs (graph_there s.honest) t j)
    | inr j ↦ in_right (map graph_text_of s.graphs) (flat_map (λ (l : Logged). l.notes.hashed) wf.log) t (of_filtered has_call (λ (l : Logged). l.notes.hashed) wf.log t j)
  ]

  quiet_in : (xs : List Logged) (l : Logged) → AllByRecursion Quiet xs → In xs l → Quiet l
  quiet_in [] l a i = absurd i
  quiet_in (x ∷ xs) l a (inl e) = subst Quiet (sym e) a.0
  quiet_in (x ∷ xs) l a (inr i) = quiet_in xs l a.1 i

  premises_hold : Premises sha s wf → Premises sha (honest_are ps) (bare wf)
  premises_hold h = record {
    unforged = λ l n i j one two. made l.number n (h.unforged l n (contains_from_in wf.log l (in_filter has_call wf.log l (in_from_Contains (bare wf).log l i))) j (sym (same_honest n.one) ∙ one) (sym (same_honest n.two) ∙ two));
    collision_free = λ a b i j e. h.collision_free a b (contains_from_in (hashed s wf) a (hashed_there a (in_from_Contains (hashed (honest_are ps) (bare wf)) a i))) (contains_from_in (hashed s wf) b (hashed_there b (in_from_Contains (hashed (honest_are ps) (bare wf)) b j))) e;
  }
    where
      made : (k : ℕ) (n : _) → MadeBefore k n wf.log → MadeBefore k n (bare wf).log
      made k n m = elim (cases_Bool (has_call m.0)) [
        | inl e ↦ (m.0, contains_from_in (bare wf).log m.0 (filter_in has_call wf.log m.0 (in_from_Contains wf.log m.0 m.1) e), m.2, m.3)
        | inr e ↦ absurd (let q = quiet_in wf.log m.0 (all_quiet sha s (new_world programs s) 1 s.steps tt) (in_from_Contains wf.log m.0 m.1) e in subst (λ ns. In ns.made n) q (in_from_Contains (m.0).notes.made n m.3))
      ]

  is_apart : IsApart sha programs s
  is_apart =
      let calls : List CallAt = calls_from sha s (new_world programs s) 1 s.steps in
      let same : run_apart sha ps calls ≡ bare wf = all_bare sha s (new_world programs s) 1 s.steps nobody in
      record {
        begin = All-from_recursion (Begins sha) ps (begin_new sha s.keys programs s.graphs compiled s.honest);
        calls = calls;
        range = All-from_recursion (λ (c : CallAt). IsCallInRange c.call) calls (all_ranged (new_world programs s) 1 s.steps (fit_new sha hash programs s compiled sched) (recursion_from_All (IsStep sha s) s.steps sched.steps));
        pasts = ap (λ (w : World). w.pasts) same;
        log = ap (λ (w : World). w.log) same;
        premises = λ h. subst (Premises sha (honest_are ps)) (sym same) (premises_hold h);
      }

pub schedules_run_apart : (sha : Hash) → IsHash sha → SchedulesRunApart sha
schedules_run_apart sha hash programs s compiled sched accepted = is_apart sha hash programs s compiled sched accepted
