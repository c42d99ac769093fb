-- The traces of a run go on by a step.
use Rattle.std.proofs.Common.{◌≡◌, ℕ, zero, suc, ◌<◌, nat_lt, Bool, true, false, not, ◌||◌, ◌&&◌, cond, List, [], ◌∷◌, ◌++◌, map, filter, length, refl, sym, ◌∙◌, ap, subst, inl, inr, arith, append-nil}
use Rattle.std.specs.Prelude.{Some, bytes_eq, find, flat_map, slice_get}
use Rattle.std.specs.List.{AllByRecursion, list_any}
use Rattle.std.proofs.lemmas.Bool.{and_parts, or_parts, cases_Bool, not-true, or_right}
use Rattle.std.proofs.lemmas.Bool.Decides.{nat_tests}
use Rattle.std.proofs.lemmas.Grind.{flat_map-append}
use Rattle.std.proofs.lemmas.List.{map-append}
use Rattle.std.proofs.lemmas.List.Elements.{filter-append}
use Rattle.indexmap.specs.IndexMap.{set_value_at}
use Rattle.sg_certify.specs.Traces.{IsTrace, Trace, Traces}
use Rattle.sg_certify.specs.Sessions.{is_of_session, steps_of_session}
use Rattle.sg_certify.proofs.Parted.{events_of-part, same_shown}
use Rattle.sg_certify.proofs.Traced.{no_steps_yet, one_more}
use Rattle.sg_text.specs.Sessions.{firsts}
use Rattle.sg_text.proofs.Firsts.{has_text-firsts, has_text-filtered, firsts-new, firsts-again}
use Rattle.sg_model.specs.Lists.{has_text, all_differ, is_in}
use Rattle.sg_model.proofs.Small.{same_bytes, bytes_same, all-append, clash, or_false}
use Rattle.sg_protocol.specs.Calls.{Event, sid_of}
use Rattle.sg_protocol.specs.Explaining.{IsShown}
use Rattle.sg_protocol.specs.Frame.{Cast}
use Rattle.sg_protocol.specs.Graph.{Graph}
use Rattle.sg_protocol.specs.IsSchedule.{IsSchedule}
use Rattle.sg_protocol.specs.Keyring.{Program}
use Rattle.sg_protocol.specs.Run.{run, events_of, events_of_outcome, cast_of_session}
use Rattle.sg_protocol.specs.Schedule.{Schedule, graph_with, honest_role}
use Rattle.sg_protocol.specs.Session.{principal}
use Rattle.sg_protocol.specs.Texts.{real}
use Rattle.sg_protocol.specs.World.{Logged}
use Rattle.sg_protocol.proofs.Whole.{honest_inside}
use Rattle.sg_certify.specs.Runs.{IsTraceOf, AreTraces, sids_of}
use Rattle.sg_certify.specs.Adding.{AreHonestIn, begun, with_shown}

-- ---- texts that stand once

abbrev pub Entry : Type 0
Entry = List ℕ × Trace

abbrev pub keys : List Entry → List (List ℕ)
keys es = map (λ (e : Entry). e.0) es

not_itself : (t : List ℕ) (ts : List (List ℕ)) → has_text t (filter (λ s. not (bytes_eq s t)) ts) ≡ false
not_itself t [] = refl
not_itself t (u ∷ us) = by (bytes_eq u t) refl (not_itself t us)
  where
    turned : bytes_eq u t ≡ false → bytes_eq t u ≡ false
    turned n = elim (cases_Bool (bytes_eq t u)) [ inl y ↦ absurd (let z : true ≡ false = sym (bytes_same u t (sym (same_bytes t u y))) ∙ n in cc) | inr m ↦ m ]

    by : (b : Bool) → bytes_eq u t ≡ b → has_text t (filter (λ s. not (bytes_eq s t)) us) ≡ false → has_text t (cond (not b) (u ∷ filter (λ s. not (bytes_eq s t)) us) (filter (λ s. not (bytes_eq s t)) us)) ≡ false
    by true e rest = rest
    by false e rest = rw (turned e) rest

filter_differ : (q : List ℕ → Bool) (ts : List (List ℕ)) → all_differ ts ≡ true → all_differ (filter q ts) ≡ true
filter_differ q [] d = refl
filter_differ q (u ∷ us) d =
    let ps = and_parts (not (has_text u us)) (all_differ us) d in
    by (q u) (filter_differ q us ps.1) (has_text-filtered q u us (not-true (has_text u us) ps.0))
  where
    by : (b : Bool) → all_differ (filter q us) ≡ true → has_text u (filter q us) ≡ false → all_differ (cond b (u ∷ filter q us) (filter q us)) ≡ true
    by true rest none = rw none rest
    by false rest none = rest

-- each text that stands first stands once
pub firsts_differ : (ts : List (List ℕ)) → all_differ (firsts ts) ≡ true
firsts_differ [] = refl
firsts_differ (t ∷ ts) = rw (not_itself t (firsts ts)) (filter_differ (λ s. not (bytes_eq s t)) (firsts ts) (firsts_differ ts))

-- ---- what a step adds to a session

-- the step with its one event
of_session : (sid : List ℕ) (l : Logged) (e : Event) → events_of_outcome l.outcome ≡ e ∷ [] → is_of_session sid l ≡ (bytes_eq (sid_of e) sid || false)
of_session sid l e one = ap (list_any (λ x. bytes_eq (sid_of x) sid)) one

pub more_of : (sid : List ℕ) (before : List Logged) (l : Logged) (e : Event) → events_of_outcome l.outcome ≡ e ∷ [] → sid_of e ≡ sid → steps_of_session sid (before ++ l ∷ []) ≡ steps_of_session sid before ++ l ∷ []
more_of sid before l e one is =
    filter-append (is_of_session sid) before (l ∷ []) ∙ ap (λ (b : Bool). steps_of_session sid before ++ cond b (l ∷ []) []) (of_session sid l e one ∙ or_false (bytes_eq (sid_of e) sid) ∙ bytes_same (sid_of e) sid is)

none_of : (sid : List ℕ) (before : List Logged) (l : Logged) → is_of_session sid l ≡ false → steps_of_session sid (before ++ l ∷ []) ≡ steps_of_session sid before
none_of sid before l n = filter-append (is_of_session sid) before (l ∷ []) ∙ ap (λ (b : Bool). steps_of_session sid before ++ cond b (l ∷ []) []) n ∙ append-nil (steps_of_session sid before)

sids_more : (before : List Logged) (l : Logged) (e : Event) → events_of_outcome l.outcome ≡ e ∷ [] → sids_of (before ++ l ∷ []) ≡ sids_of before ++ sid_of e ∷ []
sids_more before l e one =
    ap (map sid_of) (flat_map-append (λ (x : Logged). events_of_outcome x.outcome) before (l ∷ []) ∙ ap (λ es. flat_map (λ (x : Logged). events_of_outcome x.outcome) before ++ (es ++ [])) one)
    ∙ map-append sid_of (flat_map (λ (x : Logged). events_of_outcome x.outcome) before) (e ∷ [])

-- a session without an event has no step
any_event : (sid : List ℕ) (es : List Event) → has_text sid (map sid_of es) ≡ false → list_any (λ x. bytes_eq (sid_of x) sid) es ≡ false
any_event sid [] h = refl
any_event sid (e ∷ es) h =
    let ps = or_parts (bytes_eq sid (sid_of e)) (has_text sid (map sid_of es)) h in
    rw (turned ps.0) (any_event sid es ps.1)
  where
    turned : bytes_eq sid (sid_of e) ≡ false → bytes_eq (sid_of e) sid ≡ false
    turned n = elim (cases_Bool (bytes_eq (sid_of e) sid)) [ inl y ↦ absurd (let z : true ≡ false = sym (bytes_same sid (sid_of e) (sym (same_bytes (sid_of e) sid y))) ∙ n in cc) | inr m ↦ m ]

has_text_parts : (t : List ℕ) (xs ys : List (List ℕ)) → has_text t (xs ++ ys) ≡ false → (has_text t xs ≡ false) × (has_text t ys ≡ false)
has_text_parts t [] ys h = (refl, h)
has_text_parts t (x ∷ xs) ys h =
    let ps = or_parts (bytes_eq t x) (has_text t (xs ++ ys)) h in
    let rest = has_text_parts t xs ys ps.1 in
    (rw ps.0 rest.0, rest.1)

pub no_steps : (sid : List ℕ) (before : List Logged) → has_text sid (sids_of before) ≡ false → (steps_of_session sid before ≡ []) × ((rest : List Logged) → find (is_of_session sid) (before ++ rest) ≡ find (is_of_session sid) rest)
no_steps sid [] h = (refl, λ rest. refl)
no_steps sid (x ∷ xs) h =
    let ps = has_text_parts sid (map sid_of (events_of_outcome x.outcome)) (sids_of xs) (ap (has_text sid) (sym (map-append sid_of (events_of_outcome x.outcome) (flat_map (λ (y : Logged). events_of_outcome y.outcome) xs))) ∙ h) in
    let none : is_of_session sid x ≡ false = any_event sid (events_of_outcome x.outcome) ps.0 in
    let rest = no_steps sid xs ps.1 in
    (rw none rest.0, λ more. rw none (rest.1 more))

-- ---- one trace

module _ (s : Schedule) (log : List Logged) (before : List Logged) (l : Logged) where
  abbrev pub Before : Entry → Type 0
  Before x = IsTraceOf s log before x.0 x.1

  abbrev pub Now : Entry → Type 0
  Now x = IsTraceOf s log (before ++ l ∷ []) x.0 x.1

  same_trace : (x : Entry) → steps_of_session x.0 (before ++ l ∷ []) ≡ steps_of_session x.0 before → Before x → Now x
  same_trace x same h = record { cast = h.cast; is_cast = h.is_cast; graph = h.graph; honest = h.honest; trace = subst (λ ls. IsTrace x.1.graph x.0 ls x.1.shown) (sym same) h.trace }

  -- a step of another session leaves it
  of_other : (e : Event) → events_of_outcome l.outcome ≡ e ∷ [] → (x : Entry) → bytes_eq (sid_of e) x.0 ≡ false → Before x → Now x
  of_other e one x n h = same_trace x (none_of x.0 before l (of_session x.0 l e one ∙ or_false (bytes_eq (sid_of e) x.0) ∙ n)) h

  all_others : (sid : List ℕ) → ((x : Entry) → bytes_eq sid x.0 ≡ false → Before x → Now x) → (es : List Entry) → has_text sid (keys es) ≡ false → AllByRecursion Before es → AllByRecursion Now es
  all_others sid other [] n a = tt
  all_others sid other (x ∷ xs) n a =
      let ps = or_parts (bytes_eq sid x.0) (has_text sid (keys xs)) n in
      (other x ps.0 a.0, all_others sid other xs ps.1 a.1)

  in_keys : (es : List Entry) (i : ℕ) (sid : List ℕ) (old : Trace) → slice_get es i ≡ Some (sid, old) → has_text sid (keys es) ≡ true
  in_keys [] i sid old at = absurd (cc)
  in_keys (x ∷ xs) zero sid old at = (let q : x ≡ (sid, old) = cc in rw (bytes_same sid x.0 (sym (ap (λ (z : Entry). z.0) q))) refl)
  in_keys (x ∷ xs) (suc i) sid old at = or_right (bytes_eq sid x.0) (has_text sid (keys xs)) (in_keys xs i sid old at)

  all_at : (sid : List ℕ) → ((x : Entry) → bytes_eq sid x.0 ≡ false → Before x → Now x) → (old new : Trace) → (Before (sid, old) → Now (sid, new)) → (es : List Entry) (i : ℕ) → all_differ (keys es) ≡ true → slice_get es i ≡ Some (sid, old)
      → AllByRecursion Before es → AllByRecursion Now (set_value_at es i new)
  all_at sid other old new step [] i d at a = absurd (cc)
  all_at sid other old new step (x ∷ xs) zero d at a =
      let q : x ≡ (sid, old) = cc in
      let name : x.0 ≡ sid = ap (λ (z : Entry). z.0) q in
      let ps = and_parts (not (has_text x.0 (keys xs))) (all_differ (keys xs)) d in
      (subst (λ z. Now (z, new)) (sym name) (step (subst Before q a.0)), all_others sid other xs (subst (λ z. has_text z (keys xs) ≡ false) name (not-true (has_text x.0 (keys xs)) ps.0)) a.1)
  all_at sid other old new step (x ∷ xs) (suc i) d at a =
      let ps = and_parts (not (has_text x.0 (keys xs))) (all_differ (keys xs)) d in
      (other x (differs x xs sid i old at (not-true (has_text x.0 (keys xs)) ps.0)) a.0, all_at sid other old new step xs i ps.1 at a.1)
    where
      differs : (x : Entry) (xs : List Entry) (sid : List ℕ) (i : ℕ) (old : Trace) → slice_get xs i ≡ Some (sid, old) → has_text x.0 (keys xs) ≡ false → bytes_eq sid x.0 ≡ false
      differs x xs sid i old at n = elim (cases_Bool (bytes_eq sid x.0)) [
        | inl y ↦ clash (has_text x.0 (keys xs)) (subst (λ z. has_text z (keys xs) ≡ true) (same_bytes sid x.0 y) (in_keys xs i sid old at)) n
        | inr m ↦ m
      ]

keys_kept : (es : List Entry) (i : ℕ) (new : Trace) → keys (set_value_at es i new) ≡ keys es
keys_kept [] i new = refl
keys_kept (x ∷ xs) zero new = refl
keys_kept (x ∷ xs) (suc i) new = ap (λ ks. x.0 ∷ ks) (keys_kept xs i new)

-- ---- all traces

-- a session that has a trace goes on
pub goes_at : (s : Schedule) (programs : List Program) (before : List Logged) (l : Logged) (e : Event) (es : List Entry) (i : ℕ) (old new : Trace) → events_of_outcome l.outcome ≡ e ∷ [] → slice_get es i ≡ Some (sid_of e, old)
    → (IsTraceOf s (run real programs s).log before (sid_of e) old → IsTraceOf s (run real programs s).log (before ++ l ∷ []) (sid_of e) new)
    → AreTraces programs s before es → AreTraces programs s (before ++ l ∷ []) (set_value_at es i new)
goes_at s programs before l e es i old new one at step are =
    let log = (run real programs s).log in
    let there : has_text (sid_of e) (sids_of before) ≡ true = sym (has_text-firsts (sid_of e) (sids_of before)) ∙ ap (has_text (sid_of e)) (sym are.sids) ∙ in_keys s log before l es i (sid_of e) old at in
    let differ : all_differ (keys es) ≡ true = ap all_differ are.sids ∙ firsts_differ (sids_of before) in
    record {
      sids = keys_kept es i new ∙ are.sids ∙ sym (ap firsts (sids_more before l e one) ∙ firsts-again (sid_of e) (sids_of before) there);
      each = all_at s log before l (sid_of e) (of_other s log before l e one) old new step es i differ at are.each;
    }

-- a session that has none begins
pub goes_new : (s : Schedule) (programs : List Program) (before : List Logged) (l : Logged) (e : Event) (es : List Entry) (new : Trace) → events_of_outcome l.outcome ≡ e ∷ [] → has_text (sid_of e) (keys es) ≡ false
    → IsTraceOf s (run real programs s).log (before ++ l ∷ []) (sid_of e) new
    → AreTraces programs s before es → AreTraces programs s (before ++ l ∷ []) (es ++ (sid_of e, new) ∷ [])
goes_new s programs before l e es new one none is are =
    let log = (run real programs s).log in
    let absent : has_text (sid_of e) (sids_of before) ≡ false = sym (has_text-firsts (sid_of e) (sids_of before)) ∙ ap (has_text (sid_of e)) (sym are.sids) ∙ none in
    record {
      sids = map-append (λ (x : Entry). x.0) es ((sid_of e, new) ∷ []) ∙ ap (λ ks. ks ++ sid_of e ∷ []) are.sids ∙ sym (ap firsts (sids_more before l e one) ∙ firsts-new (sid_of e) (sids_of before) absent);
      each = all-append (Now s log before l) es ((sid_of e, new) ∷ []) (all_others s log before l (sid_of e) (of_other s log before l e one) es none are.each) (is, tt);
    }

-- a step without an event leaves all as they were
pub goes_past : (programs : List Program) (s : Schedule) (before : List Logged) (l : Logged) (c : Traces) → events_of_outcome l.outcome ≡ [] → AreTraces programs s before c → AreTraces programs s (before ++ l ∷ []) c
goes_past programs s before l c none are =
    let log = (run real programs s).log in
    let no : (sid : List ℕ) → is_of_session sid l ≡ false = λ sid. ap (list_any (λ x. bytes_eq (sid_of x) sid)) none in
    record {
      sids = are.sids ∙ ap firsts (sym (ap (map sid_of) (flat_map-append (λ (x : Logged). events_of_outcome x.outcome) before (l ∷ []) ∙ ap (λ es. flat_map (λ (x : Logged). events_of_outcome x.outcome) before ++ (es ++ [])) none ∙ append-nil (flat_map (λ (x : Logged). events_of_outcome x.outcome) before))));
      each = all_same (λ x h. same_trace s log before l x (none_of x.0 before l (no x.0)) h) c are.each;
    }
  where
    all_same : {P Q : Entry → Type 0} → ((x : Entry) → P x → Q x) → (es : List Entry) → AllByRecursion P es → AllByRecursion Q es
    all_same f [] a = tt
    all_same f (x ∷ xs) a = (f x a.0, all_same f xs a.1)

-- ---- the step of a trace

-- what the step shows by the session's steps alone
of_its_steps : (g : Graph) (sid : List ℕ) (before : List Logged) (l : Logged) (walk : List ℕ) → IsShown g sid before l walk → IsShown g sid (steps_of_session sid before) l walk
of_its_steps g sid before l walk is = same_shown g sid (steps_of_session sid before) before l l walk refl (sym (events_of-part sid before)) is

-- the event alone, in its session
pub its_event : (sid : List ℕ) (l : Logged) (e : Event) → events_of_outcome l.outcome ≡ e ∷ [] → sid_of e ≡ sid → events_of sid (l ∷ []) ≡ e ∷ []
its_event sid l e one is = ap (λ es. filter (λ x. bytes_eq (sid_of x) sid) (es ++ [])) one ∙ ap (λ (b : Bool). cond b (e ∷ []) []) (bytes_same (sid_of e) sid is)

-- a trace with one event more
pub added : (s : Schedule) (log before : List Logged) (l : Logged) (sid : List ℕ) (old : Trace) (e : Event) (walk : List ℕ) → events_of_outcome l.outcome ≡ e ∷ [] → sid_of e ≡ sid → IsShown old.graph sid before l walk
    → IsTraceOf s log before sid old → IsTraceOf s log (before ++ l ∷ []) sid (with_shown old e walk)
added s log before l sid old e walk one is shown h = record {
  cast = h.cast;
  is_cast = h.is_cast;
  graph = h.graph;
  honest = h.honest;
  trace = subst (λ ls. IsTrace old.graph sid ls (old.shown ++ (e, walk) ∷ [])) (sym (more_of sid before l e one is))
      (one_more old.graph sid (steps_of_session sid before) old.shown l e walk h.trace (its_event sid l e one is) (of_its_steps old.graph sid before l walk shown));
}

-- ---- where a trace begins

-- the honest roles are those of the cast
pub honest_roles : (s : Schedule) → IsSchedule real s → (cast : Cast) (set : List ℕ) → AreHonestIn s.honest cast set → (r : ℕ) → is_in r set ≡ honest_role s cast r
honest_roles s sched cast set are r = are r ∙ by (nat_lt r (length cast.names)) refl (has_text (principal cast r) s.honest) refl
  where
    by : (a : Bool) → nat_lt r (length cast.names) ≡ a → (b : Bool) → honest_role s cast r ≡ b → (a && b) ≡ b
    by true e b h = refl
    by false e false h = refl
    by false e true h = absurd (let less : r < length cast.names = honest_inside real s sched cast r h in let z : nat_lt r (length cast.names) ≡ true = grind (arith, nat_tests, less) in let y : true ≡ false = sym z ∙ e in cc)

-- a trace of one event is that of a session of which no step before has an event
pub begins : (s : Schedule) (log before : List Logged) (l : Logged) (cast : Cast) (g : Graph) (honest : List ℕ) (e : Event) (walk : List ℕ) → IsSchedule real s → cast_of_session (sid_of e) log ≡ Some cast → graph_with real s.graphs cast.graph ≡ Some g
    → AreHonestIn s.honest cast honest → has_text (sid_of e) (sids_of before) ≡ false → events_of_outcome l.outcome ≡ e ∷ [] → IsShown g (sid_of e) before l walk → IsTraceOf s log (before ++ l ∷ []) (sid_of e) (begun g honest e walk)
begins s log before l cast g honest e walk sched is_cast is_graph are none one shown =
    added s log before l (sid_of e) (record { graph = g; honest = honest; shown = [] }) e walk one refl shown (record {
      cast = cast;
      is_cast = is_cast;
      graph = is_graph;
      honest = honest_roles s sched cast honest are;
      trace = subst (λ ls. IsTrace g (sid_of e) ls []) (sym (no_steps (sid_of e) before none).0) (no_steps_yet g (sid_of e));
    })
