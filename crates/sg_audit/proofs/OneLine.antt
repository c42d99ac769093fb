-- What the reader makes of one more line is what the line says.
use Rattle.std.proofs.Common.{◌≡◌, ℕ, ◌==◌, nat_le, Bool, true, false, not, ◌&&◌, ◌||◌, List, [], ◌∷◌, ◌++◌, map, length, flat_map, refl, sym, ap, ◌∙◌, arith, if◌then◌else◌, length-append}
use Rattle.std.specs.Prelude.{Option, Some, None, is_some, is_none, option_map, unwrap_or, Result, Ok, Err}
use Rattle.std.specs.List.{list_all, list_any}
use Rattle.std.specs.Option.{option_map_or}
use Rattle.std.proofs.lemmas.Bool.Decides.{nat_tests}
use Rattle.sg_base.specs.Sets.{with_member}
use Rattle.sg_model.specs.Lists.{has_text, is_in, below, first_some, keys_of}
use Rattle.sg_model.specs.Names.{Name}
use Rattle.sg_model.specs.Values.{Value}
use Rattle.sg_model.proofs.Small.{first_false, second_false}
use Rattle.sg_protocol.specs.Graph.{Graph}
use Rattle.sg_protocol.specs.Walk.{StoredStep}
use Rattle.sg_parse.proofs.Sets.{rising-differ}
use Rattle.sg_audit.specs.Merged.{Log, roles_of, events_of}
use Rattle.sg_audit.specs.LineContents.{Assignments, StepContent, LogContent, SessionLine, LogHeadLine, EventLine, WalkLine, differ, falls, rise}
use Rattle.sg_audit.specs.Sessions.{Session, LogsSoFar, sessions_of, event, stored_step}
use Rattle.sg_audit.specs.Faults.{last_logs, event_count, is_double, is_strange, where', fault, is_open as is_open_now, all_have_logs as all_have, is_whole as is_over}
use Rattle.sg_audit.specs.SoFar.{SoFar, all_logs, all_sessions, all_have_logs, is_whole, is_open, add, add_session, add_log, open_log, add_event, count_event, with_event, add_walk, is_unknown}
use Rattle.sg_audit.specs.declared.fault.Mistake.{Mistake}
use Rattle.sg_audit.specs.declared.fault.Mistake.TheVariants.{Form, TooManyEvents, Unknown, Twice}
use Rattle.sg_audit.proofs.Fitting.{Fine}

-- ---- what the reader keeps

-- the last session of what the reader keeps, by its name
abbrev pub session_by : SoFar → Name → Session
session_by d n = record { name = n; logs = all_logs d; walk = d.walk }

-- what the lines so far said
abbrev pub so_far_by : SoFar → LogsSoFar
so_far_by d = record { over = d.done; last = option_map (session_by d) d.name }

-- what else the reader keeps
pub record Kept (d : SoFar) : Type 0 where
  pub names : map (λ (s : Session). s.name) (all_sessions d) ≡ d.names
  pub count : length (flat_map (λ (s : Session). events_of s.logs) (all_sessions d)) ≡ d.count
  pub first : d.role ≡ None → d.logs ≡ []

pub sessions_so_far : (d : SoFar) → sessions_of (so_far_by d) ≡ all_sessions d
sessions_so_far d = by d.name
  where
    by : (o : Option Name) → option_map_or (λ (s : Session). d.done ++ s ∷ []) (option_map (session_by d) o) d.done ≡ option_map_or (λ n. d.done ++ session_by d n ∷ []) o d.done
    by None = refl
    by (Some n) = refl

-- ---- tests

-- an answer, if nothing is wrong
abbrev pub judged : {A : Type 0} → Option Mistake → A → Result A Mistake
judged None x = Ok x
judged (Some kind) x = Err kind

-- the tests one after the other
pub in_turn : {A : Type 0} (a b c e : Bool) (x : A) → judged (first_some (where' a Form ∷ where' b TooManyEvents ∷ where' c Unknown ∷ where' e Twice ∷ [])) x
    ≡ (if a then Err Form else if b then Err TooManyEvents else if c then Err Unknown else if e then Err Twice else Ok x)
in_turn true b c e x = refl
in_turn false true c e x = refl
in_turn false false true e x = refl
in_turn false false false true x = refl
in_turn false false false false x = refl

all_same : (p q : ℕ → Bool) (ns : List ℕ) → ((n : ℕ) → p n ≡ q n) → list_all p ns ≡ list_all q ns
all_same p q [] h = refl
all_same p q (n ∷ ns) h = λ i. h n i && all_same p q ns h i

-- ---- the tests of what the reader keeps, and of what the lines say

pub same_open : (d : SoFar) → is_open_now (so_far_by d) ≡ is_open d
same_open d = by d.name
  where
    by : (o : Option Name) → option_map_or (λ (s : Session). is_none s.walk) (option_map (session_by d) o) false ≡ (is_some o && is_none d.walk)
    by None = refl
    by (Some n) = refl

same_logs : (d : SoFar) (n : Name) → d.name ≡ Some n → last_logs (so_far_by d) ≡ all_logs d
same_logs d n e = ap (λ o. option_map_or (λ (s : Session). s.logs) (option_map (session_by d) o) []) e

same_have : (g : Graph) (d : SoFar) (n : Name) → Fine g d → d.name ≡ Some n → all_have g (so_far_by d) ≡ all_have_logs g d
same_have g d n f e = all_same (λ r. is_in r (roles_of (last_logs (so_far_by d)))) (λ r. is_in r d.roles) (below (length g.roles)) (λ r. ap (λ ls. is_in r (roles_of ls)) (same_logs d n e) ∙ sym (f.roles r))

pub same_whole : (g : Graph) (d : SoFar) → Fine g d → is_over g (so_far_by d) ≡ is_whole g d
same_whole g d f = by d.name refl
  where
    some : (w : Option (List StoredStep)) (b : Bool) → (not (is_none w) || b) ≡ (is_some w || b)
    some None b = refl
    some (Some w) b = refl

    by : (o : Option Name) → d.name ≡ o → is_over g (so_far_by d) ≡ is_whole g d
    by None e = ap (λ b. not b || all_have g (so_far_by d)) (same_open d) ∙ ap (λ o. not (is_some o && is_none d.walk) || all_have g (so_far_by d)) e ∙ sym (ap (λ o. is_none o || is_some d.walk || all_have_logs g d) e)
    by (Some n) e =
        ap (λ b. not b || all_have g (so_far_by d)) (same_open d) ∙ ap (λ o. not (is_some o && is_none d.walk) || all_have g (so_far_by d)) e
        ∙ ap (λ b. not (is_none d.walk) || b) (same_have g d n f e) ∙ some d.walk (all_have_logs g d) ∙ sym (ap (λ o. is_none o || is_some d.walk || all_have_logs g d) e)

same_names : (d : SoFar) → Kept d → map (λ (s : Session). s.name) (sessions_of (so_far_by d)) ≡ d.names
same_names d k = ap (map (λ (s : Session). s.name)) (sessions_so_far d) ∙ k.names

same_count : (d : SoFar) → Kept d → event_count (so_far_by d) ≡ d.count
same_count d k = ap (λ ss. length (flat_map (λ (s : Session). events_of s.logs) ss)) (sessions_so_far d) ∙ k.count

-- ---- what the reader keeps after one more line

abbrev pub next : SoFar → LogContent → SoFar
next d (SessionLine n) = record { names = d.names ++ n ∷ []; count = d.count; done = all_sessions d; name = Some n; logs = []; roles = []; role = None; events = []; walk = None }
next d (LogHeadLine role) = record { names = d.names; count = d.count; done = d.done; name = d.name; logs = all_logs d; roles = with_member 16 d.roles (unwrap_or role 0); role = Some (unwrap_or role 0); events = []; walk = d.walk }
next d (EventLine sent label time v) = with_event d (event sent (unwrap_or d.role 0) (unwrap_or label 0) time v.pairs)
next d (WalkLine ss) = record { names = d.names; count = d.count; done = d.done; name = d.name; logs = d.logs; roles = d.roles; role = d.role; events = d.events; walk = Some (map stored_step ss) }

-- ---- sessions

session_same : (g : Graph) (d : SoFar) (n : Name) → Fine g d → Kept d → add_session g d n ≡ judged (fault g (so_far_by d) (SessionLine n)) (next d (SessionLine n))
unfolding add_session
session_same g d n f k = sym (in_turn (not (is_over g (so_far_by d))) false false (has_text n (map (λ (s : Session). s.name) (sessions_of (so_far_by d)))) (next d (SessionLine n))
    ∙ (λ i. if not (same_whole g d f i) then Err Form else if has_text n (same_names d k i) then Err Twice else Ok (next d (SessionLine n))))

-- ---- logs

log_same : (g : Graph) (d : SoFar) (role : Option ℕ) → Fine g d → add_log d role ≡ judged (fault g (so_far_by d) (LogHeadLine role)) (next d (LogHeadLine role))
unfolding add_log
log_same g d None f = sym (in_turn (not (is_open_now (so_far_by d))) false true false (next d (LogHeadLine None)) ∙ (λ i. if not (same_open d i) then Err Form else Err Unknown))
log_same g d (Some r) f = sym (in_turn (not (is_open_now (so_far_by d))) false false (is_in r (roles_of (last_logs (so_far_by d)))) (next d (LogHeadLine (Some r))) ∙ by d.name refl)
  where
    by : (o : Option Name) → d.name ≡ o
        → (if not (is_open_now (so_far_by d)) then Err Form else if is_in r (roles_of (last_logs (so_far_by d))) then Err Twice else Ok (next d (LogHeadLine (Some r)))) ≡ (if not (is_open d) then Err Form else open_log d r)
    by None e = rw (same_open d, e) refl
    by (Some n) e = λ i. if not (same_open d i) then Err Form else if (ap (λ ls. is_in r (roles_of ls)) (same_logs d n e) ∙ sym (f.roles r)) i then Err Twice else Ok (next d (LogHeadLine (Some r)))

-- ---- events

-- the order of what can be wrong with an event, in both
kinds : {A : Type 0} (begun t known df ri : Bool) (x : A) → (ri ≡ true → df ≡ true)
    → (if not begun then Err Form else if known && df && not ri then Err Form else if t then Err TooManyEvents else if not known then Err Unknown else if not ri then Err Twice else Ok x)
    ≡ (if not begun || false || (known && df && not ri) then Err Form else if t then Err TooManyEvents else if not known then Err Unknown else if not df then Err Twice else Ok x)
kinds false t known df ri x h = refl
kinds true t false df ri x h = refl
kinds true t true true true x h = refl
kinds true t true true false x h = refl
kinds true t true false true x h = (let bad : false ≡ true = h refl in absurd (cc))
kinds true t true false false x h = refl

-- the same if the graph doesn't have the label
kinds_unknown : {A : Type 0} (begun t wrong known e : Bool) (x : A)
    → (if not begun then Err Form else if wrong then Err Form else if t then Err TooManyEvents else Err Unknown)
    ≡ (if not begun || false || wrong then Err Form else if t then Err TooManyEvents else if true || known then Err Unknown else if e then Err Twice else Ok x)
kinds_unknown false t wrong known e x = refl
kinds_unknown true t true known e x = refl
kinds_unknown true t false known e x = refl

some_logs : (logs : List Log) (l : Log) → (length (logs ++ l ∷ []) == 0) ≡ false
some_logs logs l = let n = length-append logs (l ∷ []) in grind (arith, nat_tests, n)

event_same : (g : Graph) (d : SoFar) (sent : Bool) (label : Option ℕ) (time : ℕ) (v : Assignments Value) → Fine g d → Kept d
    → add_event d sent label time v ≡ judged (fault g (so_far_by d) (EventLine sent label time v)) (next d (EventLine sent label time v))
unfolding add_event
event_same g d sent label time v f k =
    sym (in_turn (not (is_open_now (so_far_by d)) || length (last_logs (so_far_by d)) == 0 || falls v) (nat_le 100000 (event_count (so_far_by d))) (is_none label || not v.known) (is_double v) (next d (EventLine sent label time v))
    ∙ (λ i. if not (same_open d i) || length (last_logs (so_far_by d)) == 0 || falls v then Err Form else if nat_le 100000 (same_count d k i) then Err TooManyEvents else if is_none label || not v.known then Err Unknown else if is_double v then Err Twice else Ok (next d (EventLine sent label time v)))
    ∙ by d.name refl d.role refl)
  where
    -- the answer of both, by the name and the role of what is kept
    Same : Type 0
    Same = (if not (is_open d) || length (last_logs (so_far_by d)) == 0 || falls v then Err Form else if nat_le 100000 d.count then Err TooManyEvents else if is_none label || not v.known then Err Unknown else if is_double v then Err Twice else Ok (next d (EventLine sent label time v)))
        ≡ (if not (is_open d) then Err Form else option_map_or (count_event d sent label time v) d.role (Err Form))

    found : (r : ℕ) → d.role ≡ Some r → (label : Option ℕ)
        → (if not (is_open d) || false || falls v then Err Form else if nat_le 100000 d.count then Err TooManyEvents else if is_none label || not v.known then Err Unknown else if is_double v then Err Twice else Ok (with_event d (event sent (unwrap_or d.role 0) (unwrap_or label 0) time v.pairs)))
        ≡ (if not (is_open d) then Err Form else count_event d sent label time v r)
    found r q None = sym (kinds_unknown (is_open d) (nat_le 100000 d.count) (falls v) (not v.known) (is_double v) (with_event d (event sent (unwrap_or d.role 0) 0 time v.pairs)))
    found r q (Some l) =
        ap (λ o. if not (is_open d) || false || falls v then Err Form else if nat_le 100000 d.count then Err TooManyEvents else if not v.known then Err Unknown else if is_double v then Err Twice else Ok (with_event d (event sent (unwrap_or o 0) l time v.pairs))) q
        ∙ sym (kinds (is_open d) (nat_le 100000 d.count) v.known (differ (keys_of v.pairs)) (rise v) (with_event d (event sent r l time v.pairs)) (rising-differ 0 (keys_of v.pairs)))

    by : (o : Option Name) → d.name ≡ o → (p : Option ℕ) → d.role ≡ p → Same
    by None e p q = rw e refl
    by (Some n) e None q = let none : last_logs (so_far_by d) ≡ [] = same_logs d n e ∙ ap (λ p. option_map_or (λ r. d.logs ++ (r, d.events) ∷ []) p d.logs) q ∙ k.first q in
        (λ i. if not (is_open d) || length (none i) == 0 || falls v then Err Form else if nat_le 100000 d.count then Err TooManyEvents else if is_none label || not v.known then Err Unknown else if is_double v then Err Twice else Ok (next d (EventLine sent label time v)))
        ∙ both (is_open d) ∙ sym (ap (λ p. if not (is_open d) then Err Form else option_map_or (count_event d sent label time v) p (Err Form)) q)
      where
        both : (w : Bool) → (if not w || true || falls v then Err Form else if nat_le 100000 d.count then Err TooManyEvents else if is_none label || not v.known then Err Unknown else if is_double v then Err Twice else Ok (next d (EventLine sent label time v))) ≡ (if not w then Err Form else Err Form)
        both true = refl
        both false = refl
    by (Some n) e (Some r) q =
        let logs : last_logs (so_far_by d) ≡ d.logs ++ (r, d.events) ∷ [] = same_logs d n e ∙ ap (λ p. option_map_or (λ r. d.logs ++ (r, d.events) ∷ []) p d.logs) q in
        let some : (length (last_logs (so_far_by d)) == 0) ≡ false = ap (λ ls. length ls == 0) logs ∙ some_logs d.logs (r, d.events) in
        (λ i. if not (is_open d) || some i || falls v then Err Form else if nat_le 100000 d.count then Err TooManyEvents else if is_none label || not v.known then Err Unknown else if is_double v then Err Twice else Ok (next d (EventLine sent label time v)))
        ∙ found r q label ∙ sym (ap (λ p. if not (is_open d) then Err Form else option_map_or (count_event d sent label time v) p (Err Form)) q)

-- ---- walks

-- if no step is strange and none falls, those that don't rise name a variable twice
same_double : (ss : List StepContent) → list_any (λ s. falls s.writes) ss ≡ false → list_any is_unknown ss ≡ false → list_any (λ s. not (rise s.writes)) ss ≡ list_any (λ s. is_double s.writes) ss
same_double [] h u = refl
same_double (s ∷ ss) h u = λ i. one s.writes.known (differ (keys_of s.writes.pairs)) (rise s.writes) (rising-differ 0 (keys_of s.writes.pairs)) (first_false _ _ h) (label s.label s.writes.known (first_false _ _ u)) i || same_double ss (second_false _ _ h) (second_false _ _ u) i
  where
    label : (l : Option ℕ) (known : Bool) → (is_none l || not known) ≡ false → known ≡ true
    label l true p = refl
    label None false p = absurd (cc)
    label (Some l) false p = absurd (cc)

    one : (known df ri : Bool) → (ri ≡ true → df ≡ true) → (known && df && not ri) ≡ false → known ≡ true → not ri ≡ not df
    one known true true h p q = refl
    one known false false h p q = refl
    one known false true h p q = (let bad : false ≡ true = h refl in absurd (cc))
    one true true false h p q = absurd (cc)
    one false true false h p q = absurd (cc)

walk_same : (g : Graph) (d : SoFar) (ss : List StepContent) → Fine g d → add_walk g d ss ≡ judged (fault g (so_far_by d) (WalkLine ss)) (next d (WalkLine ss))
unfolding add_walk
walk_same g d ss f = sym (in_turn (not (is_open_now (so_far_by d)) || all_have g (so_far_by d) || list_any (λ s. falls s.writes) ss) false (list_any is_strange ss) (list_any (λ s. is_double s.writes) ss) (next d (WalkLine ss))
    ∙ by d.name refl)
  where
    rest : Bool → Result SoFar Mistake
    rest twice = if twice then Err Twice else Ok (next d (WalkLine ss))

    -- the order of both, if the tests of a walk that may stand here are these
    order : (begun have falling strange rising double : Bool) → (falling ≡ false → strange ≡ false → rising ≡ double)
        → (if not begun || have || falling then Err Form else if strange then Err Unknown else rest double) ≡ (if not begun || have then Err Form else if falling then Err Form else if strange then Err Unknown else rest rising)
    order false have falling strange rising double h = refl
    order true true falling strange rising double h = refl
    order true false true strange rising double h = refl
    order true false false true rising double h = refl
    order true false false false rising double h = ap rest (sym (h refl refl))

    by : (o : Option Name) → d.name ≡ o
        → (if not (is_open_now (so_far_by d)) || all_have g (so_far_by d) || list_any (λ s. falls s.writes) ss then Err Form else if list_any is_strange ss then Err Unknown else rest (list_any (λ s. is_double s.writes) ss))
        ≡ (if not (is_open d) || all_have_logs g d then Err Form else if list_any (λ s. falls s.writes) ss then Err Form else if list_any is_unknown ss then Err Unknown else rest (list_any (λ s. not (rise s.writes)) ss))
    by None e = rw (same_open d, e) refl
    by (Some n) e =
        (λ i. if not (same_open d i) || same_have g d n f e i || list_any (λ s. falls s.writes) ss then Err Form else if list_any is_strange ss then Err Unknown else rest (list_any (λ s. is_double s.writes) ss))
        ∙ order (is_open d) (all_have_logs g d) (list_any (λ s. falls s.writes) ss) (list_any is_unknown ss) (list_any (λ s. not (rise s.writes)) ss) (list_any (λ s. is_double s.writes) ss) (same_double ss)

-- ---- all forms

-- the reader refuses what is wrong, and else goes on
pub add_same : (g : Graph) (d : SoFar) (s : LogContent) → Fine g d → Kept d → add g d s ≡ judged (fault g (so_far_by d) s) (next d s)
unfolding add
add_same g d (SessionLine n) f k = session_same g d n f k
add_same g d (LogHeadLine role) f k = log_same g d role f
add_same g d (EventLine sent label time v) f k = event_same g d sent label time v f k
add_same g d (WalkLine ss) f k = walk_same g d ss f
