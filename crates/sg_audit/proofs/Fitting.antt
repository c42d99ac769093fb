-- What is read fits an audit.
use Rattle.std.proofs.Common.{◌≡◌, ℕ, ◌+◌, ◌<◌, ◌==◌, nat_le, Bool, true, false, not, ◌||◌, List, [], ◌∷◌, ◌++◌, map, length, bytes_eq, refl, sym, ap, ◌∙◌, subst, inl, inr, arith, if◌then◌else◌}
use Rattle.std.specs.Prelude.{Option, Some, None, is_some, is_none, Result, Ok, Err, IsTrue, IfSome, IfOk, MatchResult, All, ⊤, codes, option_map, option_and_then}
use Rattle.std.specs.List.{AllByRecursion, list_any}
use Rattle.std.specs.Option.{option_map_or}
use Rattle.std.proofs.lemmas.Bool.Decides.{nat_tests}
use Rattle.sg_model.specs.Lists.{has_text, is_in}
use Rattle.sg_model.specs.Names.{Name}
use Rattle.sg_base.specs.Words.{name}
use Rattle.sg_protocol.specs.Graph.{Graph, IsGraph}
use Rattle.sg_protocol.specs.Calls.{Event}
use Rattle.sg_protocol.specs.Walk.{StoredStep}
use Rattle.sg_protocol.proofs.Spelled.{range_all}
use Rattle.sg_parse.specs.Reading.{index_of}
use Rattle.sg_sched.specs.Text.{content, words}
use Rattle.sg_sched.specs.Format.Forms.{is_skipped}
use Rattle.sg_sched.specs.Format.LineContents.{Word}
use Rattle.sg_sched.specs.Format.Spells.{Line}
use Rattle.sg_sched.specs.Format.Reading.{word, after, ended}
use Rattle.sg_audit.specs.Merged.{Log, roles_of}
use Rattle.sg_audit.specs.Agree.{AreLogs, AllHaveLogs, IsLog, is_by, roles_differ}
use Rattle.sg_audit.specs.declared.fault.Mistake.{Mistake}
use Rattle.sg_audit.specs.declared.fault.Mistake.TheVariants.{Form, TooManyEvents, Unknown, Twice}
use Rattle.sg_model.specs.Values.{Value}
use Rattle.sg_model.proofs.Small.{some_same}
use Rattle.sg_audit.specs.LineContents.{Assignments, LogContent, StepContent, SessionLine, LogHeadLine, EventLine, WalkLine, numbered, falls, rise}
use Rattle.sg_graph.specs.Parts.{edge_names, variable_names}
use Rattle.sg_sched.specs.Format.Values.{spelled_value}
use Rattle.sg_audit.specs.Reading.{all_assigned, time, form, session_form, log_form, event_form, walk_form}
use Rattle.sg_audit.specs.SoFar.{SoFar, nothing, all_logs, all_sessions, all_have_logs, is_whole, is_open, add, add_session, add_log, add_event, count_event, put_event, with_event, add_walk, is_unknown}
use Rattle.sg_audit.specs.Sessions.{Session, Logs, event, stored_step}
use Rattle.sg_audit.specs.Read.{add_line, unless_wrong, read_sessions}
use Rattle.std.proofs.lemmas.List.Elements.{All-from_recursion}
use Rattle.std.proofs.lemmas.Bool.{cases_Bool, not-false}
use Rattle.sg_audit.specs.Spells.{Fault}
use Rattle.sg_audit.specs.Model.{logs_of, reported_of}
use Rattle.sg_audit.specs.TakingLines.{session_of}
use Rattle.sg_audit.specs.declared.fault.LogFault.{LogFault}
use Rattle.sg_audit.specs.declared.session.SessionLog.{SessionLog}
use Rattle.sg_audit.proofs.Honest.{with_role}

-- the logs of a session fit an audit
abbrev pub Fit : Graph → Session → Type 0
Fit g s = AreLogs g s.logs s.walk

-- what was said so far fits
pub record Fine (g : Graph) (d : SoFar) : Type 0 where
  pub done : AllByRecursion (Fit g) d.done
  pub roles : (r : ℕ) → is_in r d.roles ≡ is_in r (roles_of (all_logs d))
  pub each : AllByRecursion (IsLog g) (all_logs d)
  pub differ : roles_differ (all_logs d)

-- ---- lists

all_append : {X : Type 0} (P : X → Type 0) (xs : List X) (x : X) → AllByRecursion P xs → P x → AllByRecursion P (xs ++ x ∷ [])
all_append P [] x h p = (p, tt)
all_append P (y ∷ ys) x h p = (h.0, all_append P ys x h.1 p)

in_last : (r : ℕ) (logs : List Log) (l : Log) → is_in r (roles_of (logs ++ l ∷ [])) ≡ is_in r (l.0 ∷ roles_of logs)
in_last r [] l = refl
in_last r (k ∷ ks) l = ap (λ b. (k.0 == r) || b) (in_last r ks l) ∙ swapped (k.0 == r) (l.0 == r) (is_in r (roles_of ks))
  where
    swapped : (a b c : Bool) → (a || (b || c)) ≡ (b || (a || c))
    swapped true true c = refl
    swapped true false c = refl
    swapped false true c = refl
    swapped false false c = refl

differ_last : (logs : List Log) (l : Log) → roles_differ logs → is_in l.0 (roles_of logs) ≡ false → roles_differ (logs ++ l ∷ [])
differ_last [] l d n = (refl, tt)
differ_last (k ∷ ks) l d n = elim (cases_Bool (k.0 == l.0)) [
  | inl y ↦ (let bad : true ≡ false = rw y at n in absurd (cc))
  | inr z ↦ (let rest : is_in l.0 (roles_of ks) ≡ false = rw z at n in
      let other : (l.0 == k.0) ≡ false = grind (arith, nat_tests, z) in
      (in_last k.0 ks l ∙ rw (other, d.0) refl, differ_last ks l d.1 rest))
]

-- the last log with one more event
same_roles : (logs : List Log) (r : ℕ) (es fs : List Event) → roles_of (logs ++ (r, es) ∷ []) ≡ roles_of (logs ++ (r, fs) ∷ [])
same_roles [] r es fs = refl
same_roles (k ∷ ks) r es fs = ap (λ rs. k.0 ∷ rs) (same_roles ks r es fs)

same_differ : (logs : List Log) (r : ℕ) (es fs : List Event) → roles_differ (logs ++ (r, es) ∷ []) → roles_differ (logs ++ (r, fs) ∷ [])
same_differ [] r es fs d = (refl, tt)
same_differ (k ∷ ks) r es fs d = (subst (λ rs. is_in k.0 rs ≡ false) (same_roles ks r es fs) d.0, same_differ ks r es fs d.1)

prefix : (g : Graph) (logs : List Log) (l : Log) → AllByRecursion (IsLog g) (logs ++ l ∷ []) → AllByRecursion (IsLog g) logs × IsLog g l
prefix g [] l h = (tt, h.0)
prefix g (k ∷ ks) l h = let r = prefix g ks l h.1 in ((h.0, r.0), r.1)

-- ---- sessions

closed : (g : Graph) (d : SoFar) → Fine g d → is_whole g d ≡ true → AllByRecursion (Fit g) (all_sessions d)
closed g d f w = by d.name refl d.walk refl
  where
    named : (o : Option Name) → d.name ≡ o → d.walk ≡ None → is_none o ≡ false → AllHaveLogs g (all_logs d)
    named o e n s r l =
        let w' : (is_none o || false || all_have_logs g d) ≡ true = subst (λ k. (is_none o || is_some k || all_have_logs g d) ≡ true) n (subst (λ m. (is_none m || is_some d.walk || all_have_logs g d) ≡ true) e w) in
        let h : all_have_logs g d ≡ true = rw s at w' in
        sym (f.roles r) ∙ range_all (λ r. is_in r d.roles) 0 (length g.roles) h r (omega arith) (omega arith)

    by : (o : Option Name) → d.name ≡ o → (k : Option (List StoredStep)) → d.walk ≡ k → AllByRecursion (Fit g) (all_sessions d)
    by None e k q = rw e f.done
    by (Some n) e k q = rw e (all_append (Fit g) d.done (record { name = n; logs = all_logs d; walk = d.walk }) f.done (record { differ = f.differ; each = f.each; unknown = λ z. named (Some n) e z refl }))

-- ---- lines

-- if a test is false, the answer is no fault
split_if : {A : Type 0} {E : Type 0} (b : Bool) (e : E) (x : Result A E) (y : A) → (if b then Err e else x) ≡ Ok y → (b ≡ false) × (x ≡ Ok y)
split_if true e x y h = absurd (cc)
split_if false e x y h = (refl, h)

ok_is : {A E : Type 0} (x y : A) → ◌≡◌ {A = Result A E} (Ok x) (Ok y) → x ≡ y
ok_is x y h = cc

err_ok : {A E : Type 0} (e : E) (y : A) → ◌≡◌ {A = Result A E} (Err e) (Ok y) → ⊥
err_ok e y h = absurd (cc)

adds_session : (g : Graph) (d e : SoFar) (n : Name) → Fine g d → add_session g d n ≡ Ok e → Fine g e
unfolding add_session
adds_session g d e n f h =
    let one = split_if _ _ _ _ h in
    let two = split_if _ _ _ _ one.1 in
    subst (Fine g) (ok_is _ _ two.1) (record { done = closed g d f (not-false _ one.0); roles = λ r. refl; each = tt; differ = tt })

small_role : (g : Graph) (d : SoFar) → IsGraph g → Fine g d → (r : ℕ) → is_in r (roles_of (all_logs d)) ≡ true → r < 16
small_role g d is f r h = small (all_logs d) f.each h
  where
    small : (logs : List Log) → AllByRecursion (IsLog g) logs → is_in r (roles_of logs) ≡ true → r < 16
    small [] a i = absurd (cc)
    small (l ∷ ls) a i = elim (cases_Bool (l.0 == r)) [
      | inl y ↦ (let s : l.0 ≡ r = grind (arith, nat_tests, y) in let b = a.0.0 in let m = is.sizes.0 in omega (arith, s, b, m))
      | inr z ↦ small ls a.1 (rw z at i)
    ]

adds_log : (g : Graph) (d e : SoFar) (role : Option ℕ) → IsGraph g → IfSome role (λ r. r < length g.roles) → Fine g d → add_log d role ≡ Ok e → Fine g e
unfolding add_log
adds_log g d e None is small f h = let one = split_if _ _ _ _ h in absurd (err_ok _ _ one.1)
adds_log g d e (Some r) is small f h =
    let one = split_if _ _ _ _ h in
    let two = split_if _ _ _ _ one.1 in
    subst (Fine g) (ok_is _ _ two.1) (record {
      done = f.done;
      roles = λ q. with_role r d.roles (roles_of (all_logs d)) (let b = is.sizes.0 in omega (arith, small, b)) (small_role g d is f) f.roles q ∙ sym (in_last q (all_logs d) (r, []));
      each = all_append (IsLog g) (all_logs d) (r, []) f.each (small, tt);
      differ = differ_last (all_logs d) (r, []) f.differ (sym (f.roles r) ∙ two.0);
    })

adds_event : (g : Graph) (d e : SoFar) (sent : Bool) (label : Option ℕ) (at : ℕ) (v : Assignments Value) → Fine g d → add_event d sent label at v ≡ Ok e → Fine g e
unfolding add_event
adds_event g d e sent label at v f h = let one = split_if (not (is_open d)) Form (option_map_or (count_event d sent label at v) d.role (Err Form)) e h in in_log d.role refl one.1
  where
    mine : (b : Bool) (r label : ℕ) → IsTrue (is_by r (event b r label at v.pairs))
    mine true r label = grind (arith, nat_tests)
    mine false r label = grind (arith, nat_tests)

    put : (r : ℕ) → d.role ≡ Some r → (label : Option ℕ) → put_event d sent r label at v ≡ Ok e → Fine g e
    put r q None h = absurd (err_ok Unknown e h)
    put r q (Some l) h =
        let one = split_if (not v.known) Unknown (if not (rise v) then Err Twice else Ok (with_event d (event sent r l at v.pairs))) e h in
        let two = split_if (not (rise v)) Twice (Ok (with_event d (event sent r l at v.pairs))) e one.1 in
        let ev = event sent r l at v.pairs in
        let old : all_logs d ≡ d.logs ++ (r, d.events) ∷ [] = rw q refl in
        let new : option_map_or (λ r. d.logs ++ (r, d.events ++ ev ∷ []) ∷ []) d.role d.logs ≡ d.logs ++ (r, d.events ++ ev ∷ []) ∷ [] = rw q refl in
        let was = prefix g d.logs (r, d.events) (subst (AllByRecursion (IsLog g)) old f.each) in
        subst (Fine g) (ok_is (with_event d ev) e two.1) (record {
          done = f.done;
          roles = λ x. f.roles x ∙ ap (λ ls. is_in x (roles_of ls)) old ∙ ap (is_in x) (same_roles d.logs r d.events (d.events ++ ev ∷ [])) ∙ sym (ap (λ ls. is_in x (roles_of ls)) new);
          each = subst (AllByRecursion (IsLog g)) (sym new) (all_append (IsLog g) d.logs (r, d.events ++ ev ∷ []) was.0 (was.1.0, all_append (λ e. IsTrue (is_by r e)) d.events ev was.1.1 (mine sent r l)));
          differ = subst roles_differ (sym new) (same_differ d.logs r d.events (d.events ++ ev ∷ []) (subst roles_differ old f.differ));
        })

    in_log : (o : Option ℕ) → d.role ≡ o → option_map_or (count_event d sent label at v) o (Err Form) ≡ Ok e → Fine g e
    in_log None q h = absurd (err_ok Form e h)
    in_log (Some r) q h =
        let one = split_if (falls v) Form (if nat_le 100000 d.count then Err TooManyEvents else put_event d sent r label at v) e h in
        let two = split_if (nat_le 100000 d.count) TooManyEvents (put_event d sent r label at v) e one.1 in
        put r q label two.1

adds_walk : (g : Graph) (d e : SoFar) (ss : List StepContent) → Fine g d → add_walk g d ss ≡ Ok e → Fine g e
unfolding add_walk
adds_walk g d e ss f h =
    let one = split_if (not (is_open d) || all_have_logs g d) Form unfallen e h in
    let two = split_if (list_any (λ s. falls s.writes) ss) Form known e one.1 in
    let three = split_if (list_any is_unknown ss) Unknown risen e two.1 in
    let four = split_if (list_any (λ s. not (rise s.writes)) ss) Twice (Ok walked) e three.1 in
    subst (Fine g) (ok_is walked e four.1) (record { done = f.done; roles = f.roles; each = f.each; differ = f.differ })
  where
    walked : SoFar
    walked = record { names = d.names; count = d.count; done = d.done; name = d.name; logs = d.logs; roles = d.roles; role = d.role; events = d.events; walk = Some (map stored_step ss) }

    risen : Result SoFar Mistake
    risen = if list_any (λ s. not (rise s.writes)) ss then Err Twice else Ok walked

    known : Result SoFar Mistake
    known = if list_any is_unknown ss then Err Unknown else risen

    unfallen : Result SoFar Mistake
    unfallen = if list_any (λ s. falls s.writes) ss then Err Form else known

-- ---- what words say

-- the role of a log is one of the graph's
abbrev pub FitsLine : Graph → LogContent → Type 0
FitsLine g (LogHeadLine role) = IfSome role (λ r. r < length g.roles)
FitsLine g other = ⊤

index_small : (n : Name) (names : List Name) → has_text n names ≡ true → index_of n names < length names
index_small n [] h = absurd (cc)
index_small n (m ∷ ms) h = elim (cases_Bool (bytes_eq n m)) [
  | inl y ↦ rw y (omega arith)
  | inr z ↦ (let r = index_small n ms (rw z at h) in rw z (omega (arith, r)))
]

numbered_small : (names : List Name) (n : Name) → IfSome (numbered names n) (λ r. r < length names)
numbered_small names n = elim (cases_Bool (has_text n names)) [ inl y ↦ rw y (index_small n names y) | inr z ↦ rw z tt ]

if_either : {A : Type 0} (b : Bool) (x y z : A) (P : Type 0) → (if b then x else y) ≡ z → (x ≡ z → P) → (y ≡ z → P) → P
if_either true x y z P h f g = f h
if_either false x y z P h f g = g h

none_some : {A : Type 0} (x : A) → None ≡ Some x → ⊥
none_some x h = absurd (cc)

ended_fits : {A : Type 0} (o : Option A) (ws : List Word) (s : A) → ended o ws ≡ Some s → o ≡ Some s
ended_fits o ws s h = if_either (length ws == 0) o None (Some s) (o ≡ Some s) h (λ q. q) (λ q. absurd (none_some s q))

mapped_fits : {A B : Type 0} (P : B → Type 0) (f : A → B) (o : Option A) (s : B) → ((a : A) → P (f a)) → option_map f o ≡ Some s → P s
mapped_fits P f None s h q = absurd (none_some s q)
mapped_fits P f (Some a) s h q = subst P (some_same q) (h a)

after_fits : {A B : Type 0} (P : B → Type 0) (take : List Word → Option (A × List Word)) (next : A → List Word → Option B) (ws : List Word) (s : B)
    → ((x : A) (rest : List Word) → next x rest ≡ Some s → P s) → after take next ws ≡ Some s → P s
after_fits {A} {B} P take next ws s h q = by (take ws) q
  where
    by : (o : Option (A × List Word)) → option_and_then (λ (p : A × List Word). next p.0 p.1) o ≡ Some s → P s
    by None q = absurd (none_some s q)
    by (Some p) q = h p.0 p.1 q

session_fits : (g : Graph) (ws : List Word) (s : LogContent) → session_form ws ≡ Some s → FitsLine g s
unfolding session_form
session_fits g ws s h = after_fits (FitsLine g) (word name) _ ws s (λ n rest q. subst (FitsLine g) (some_same (ended_fits _ rest s q)) tt) h

log_fits : (g : Graph) (ws : List Word) (s : LogContent) → log_form g ws ≡ Some s → FitsLine g s
unfolding log_form
log_fits g ws s h = after_fits (FitsLine g) (word name) _ ws s (λ n rest q. subst (FitsLine g) (some_same (ended_fits _ rest s q)) (numbered_small g.roles n)) h

event_fits : (g : Graph) (sent : Bool) (ws : List Word) (s : LogContent) → event_form g sent ws ≡ Some s → FitsLine g s
unfolding event_form
event_fits g sent ws s h =
    after_fits (FitsLine g) (word name) _ ws s (λ n rest q.
    after_fits {A = ℕ} (FitsLine g) (word time) (λ at left. option_map (EventLine sent (numbered (edge_names g) n) at) (all_assigned (variable_names g) spelled_value left)) rest s (λ t left r.
    mapped_fits {A = Assignments Value} (FitsLine g) (EventLine sent (numbered (edge_names g) n) t) (all_assigned (variable_names g) spelled_value left) s (λ a. tt) r) q) h

walk_fits : (g : Graph) (ws : List Word) (s : LogContent) → walk_form g ws ≡ Some s → FitsLine g s
unfolding walk_form
walk_fits g ws s h = mapped_fits (FitsLine g) WalkLine _ s (λ a. tt) h

pub form_fits : (g : Graph) (ws : List Word) (s : LogContent) → form g ws ≡ Some s → FitsLine g s
unfolding form
form_fits g [] s h = absurd (none_some s h)
form_fits g (w ∷ ws) s h =
    if_either (bytes_eq w (codes "session")) (session_form ws) not_session (Some s) (FitsLine g s) h (session_fits g ws s) (λ h.
    if_either (bytes_eq w (codes "log")) (log_form g ws) not_log (Some s) (FitsLine g s) h (log_fits g ws s) (λ h.
    if_either (bytes_eq w (codes "sent")) (event_form g true ws) not_sent (Some s) (FitsLine g s) h (event_fits g true ws s) (λ h.
    if_either (bytes_eq w (codes "received")) (event_form g false ws) not_received (Some s) (FitsLine g s) h (event_fits g false ws s) (λ h.
    if_either (bytes_eq w (codes "walk")) (walk_form g ws) None (Some s) (FitsLine g s) h (walk_fits g ws s) (λ h. absurd (none_some s h))))))
  where
    not_received : Option LogContent
    not_received = if bytes_eq w (codes "walk") then walk_form g ws else None

    not_sent : Option LogContent
    not_sent = if bytes_eq w (codes "received") then event_form g false ws else not_received

    not_log : Option LogContent
    not_log = if bytes_eq w (codes "sent") then event_form g true ws else not_sent

    not_session : Option LogContent
    not_session = if bytes_eq w (codes "log") then log_form g ws else not_log

pub adds : (g : Graph) (d e : SoFar) (s : LogContent) → IsGraph g → FitsLine g s → Fine g d → add g d s ≡ Ok e → Fine g e
unfolding add
adds g d e (SessionLine n) is small f h = adds_session g d e n f h
adds g d e (LogHeadLine role) is small f h = adds_log g d e role is small f h
adds g d e (EventLine sent label time v) is small f h = adds_event g d e sent label time v f h
adds g d e (WalkLine ss) is small f h = adds_walk g d e ss f h

adds_line : (g : Graph) (d e : SoFar) (l : Line) → IsGraph g → Fine g d → add_line g d l ≡ Ok e → Fine g e
unfolding add_line
adds_line g d e l is f h =
    if_either (is_skipped l) (Ok d) (option_map_or (add g d) (form g (words (content l))) (Err Form)) (Ok e) (Fine g e) h (λ q. subst (Fine g) (ok_is d e q) f) (λ q. by (form g (words (content l))) (form_fits g (words (content l))) q)
  where
    by : (o : Option LogContent) → ((s : LogContent) → o ≡ Some s → FitsLine g s) → option_map_or (add g d) o (Err Form) ≡ Ok e → Fine g e
    by None k q = absurd (err_ok _ _ q)
    by (Some s) k q = adds g d e s is (k s refl) f q

-- ---- all

-- the sessions that are read fit
pub reads_sessions : (g : Graph) (n : ℕ) (d : SoFar) (ls : List Line) (logs : Logs) → IsGraph g → Fine g d → read_sessions g n d ls ≡ Ok logs → AllByRecursion (Fit g) logs.sessions
reads_sessions g n d [] logs is f h = elim (cases_Bool (is_whole g d)) [
  | inl y ↦ (let q : ◌≡◌ {A = Result Logs Fault} (Ok (record { graph = g; sessions = all_sessions d })) (Ok logs) = rw y at h in subst (λ (l : Logs). AllByRecursion (Fit g) l.sessions) (ok_is _ _ q) (closed g d f y))
  | inr z ↦ absurd (err_ok _ _ (rw z at h))
]
reads_sessions g n d (l ∷ ls) logs is f h = by (add_line g d l) (λ e q. adds_line g d e l is f q) (λ e k q. reads_sessions g (n + 1) e ls logs is k q) h
  where
    by : (added : Result SoFar Mistake) → ((e : SoFar) → added ≡ Ok e → Fine g e) → ((e : SoFar) → Fine g e → read_sessions g (n + 1) e ls ≡ Ok logs → AllByRecursion (Fit g) logs.sessions)
        → unless_wrong n added (λ d'. read_sessions g (n + 1) d' ls) ≡ Ok logs → AllByRecursion (Fit g) logs.sessions
    by (Ok e) k r q = r e (k e refl) q
    by (Err kind) k r q = absurd (err_ok _ _ q)

pub nothing_fine : (g : Graph) → Fine g nothing
nothing_fine g = record { done = tt; roles = λ r. refl; each = tt; differ = tt }

-- ---- what is held

held_fit : (g : Graph) (ss : List SessionLog) → AllByRecursion (Fit g) (map session_of ss) → AllByRecursion (λ (s : SessionLog). AreLogs g (logs_of s) (reported_of s)) ss
held_fit g [] h = tt
held_fit g (s ∷ ss) h = (h.0, held_fit g ss h.1)

pub result_fits : (g : Graph) (n : ℕ) (ls : List Line) (r : Result (List SessionLog) LogFault) (Q : LogFault → Type 0) → IsGraph g
    → MatchResult r (λ ss. read_sessions g n nothing ls ≡ Ok (record { graph = g; sessions = map session_of ss })) Q
    → IfOk r (All (λ (s : SessionLog). AreLogs g (logs_of s) (reported_of s)))
result_fits g n ls (Ok ss) Q is h =
    All-from_recursion (λ (s : SessionLog). AreLogs g (logs_of s) (reported_of s)) ss (held_fit g ss (reads_sessions g n nothing ls (record { graph = g; sessions = map session_of ss }) is (nothing_fine g) h))
result_fits g n ls (Err e) Q is h = tt
