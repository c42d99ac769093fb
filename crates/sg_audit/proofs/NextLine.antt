-- After one more line the reader keeps what the lines then say.
use Rattle.std.proofs.Common.{◌≡◌, ℕ, ◌+◌, ◌==◌, Bool, true, false, not, ◌||◌, List, [], ◌∷◌, ◌++◌, map, length, flat_map, refl, sym, ap, ◌∙◌, arith, append-nil, length-append}
use Rattle.std.specs.Prelude.{Option, Some, None, is_none, option_map, unwrap_or}
use Rattle.std.specs.Option.{option_map_or}
use Rattle.std.proofs.lemmas.Grind.{flat_map-append}
use Rattle.sg_model.specs.Lists.{first_some}
use Rattle.sg_model.specs.Names.{Name}
use Rattle.sg_model.specs.Values.{Value}
use Rattle.sg_protocol.specs.Calls.{Event}
use Rattle.sg_protocol.specs.Graph.{Graph}
use Rattle.sg_protocol.specs.Walk.{StoredStep}
use Rattle.sg_audit.specs.Merged.{Log, events_of}
use Rattle.sg_audit.specs.LineContents.{Assignments, LogContent, SessionLine, LogHeadLine, EventLine, WalkLine, falls}
use Rattle.sg_audit.specs.Sessions.{Session, change_last, event, stored_step, with_event as with_one, added}
use Rattle.sg_audit.specs.Faults.{where', fault, is_too_many, is_unknown, is_repeated}
use Rattle.sg_audit.specs.SoFar.{SoFar, all_logs, all_sessions}
use Rattle.sg_audit.specs.declared.fault.Mistake.{Mistake}
use Rattle.sg_audit.specs.declared.fault.Mistake.TheVariants.{Form, TooManyEvents, Unknown, Twice}
use Rattle.sg_audit.proofs.OneLine.{session_by, so_far_by, Kept, sessions_so_far, next}

-- ---- what the lines so far say

last_changed : {A : Type 0} (f : A → A) (xs : List A) (x : A) → change_last f (xs ++ x ∷ []) ≡ xs ++ f x ∷ []
last_changed f [] x = refl
last_changed f (y ∷ []) x = refl
last_changed f (y ∷ z ∷ zs) x = ap (λ ys. y ∷ ys) (last_changed f (z ∷ zs) x)

-- the logs after an event
logs_after : (d : SoFar) (e : ℕ → Event) → d.role ≡ None → d.logs ≡ [] → with_one e (all_logs d) ≡ option_map_or (λ r. d.logs ++ (r, d.events ++ e (unwrap_or d.role 0) ∷ []) ∷ []) d.role d.logs
logs_after d e q n = rw (q, n) refl

logs_after_one : (d : SoFar) (e : ℕ → Event) (r : ℕ) → d.role ≡ Some r → with_one e (all_logs d) ≡ option_map_or (λ r. d.logs ++ (r, d.events ++ e (unwrap_or d.role 0) ∷ []) ∷ []) d.role d.logs
logs_after_one d e r q = rw q (last_changed (λ (l : Log). (l.0, l.1 ++ e l.0 ∷ [])) d.logs (r, d.events))

event_moved : (d : SoFar) → Kept d → (e : ℕ → Event) → with_one e (all_logs d) ≡ option_map_or (λ r. d.logs ++ (r, d.events ++ e (unwrap_or d.role 0) ∷ []) ∷ []) d.role d.logs
event_moved d k e = by d.role refl
  where
    by : (p : Option ℕ) → d.role ≡ p → with_one e (all_logs d) ≡ option_map_or (λ r. d.logs ++ (r, d.events ++ e (unwrap_or d.role 0) ∷ []) ∷ []) d.role d.logs
    by None q = logs_after d e q (k.first q)
    by (Some r) q = logs_after_one d e r q

-- the last session with these logs and this walk
abbrev with_last : SoFar → List Log → Option (List StoredStep) → Name → Session
with_last d logs walk n = record { name = n; logs = logs; walk = walk }

maps : (f : Session → Session) (g h : Name → Session) (o : Option Name) → ((n : Name) → f (g n) ≡ h n) → option_map f (option_map g o) ≡ option_map h o
maps f g h None e = refl
maps f g h (Some n) e = ap Some (e n)

pub moved : (d : SoFar) (s : LogContent) → Kept d → so_far_by (next d s) ≡ added (so_far_by d) s
moved d (SessionLine n) k = λ i. record { over = sym (sessions_so_far d) i; last = Some (record { name = n; logs = []; walk = None }) }
moved d (LogHeadLine role) k = λ i. record {
  over = d.done;
  last = sym (maps (λ s. record { name = s.name; logs = s.logs ++ (unwrap_or role 0, []) ∷ []; walk = s.walk }) (session_by d) (with_last d (all_logs d ++ (unwrap_or role 0, []) ∷ []) d.walk) d.name (λ n. refl)) i;
}
moved d (EventLine sent label time v) k = let e : ℕ → Event = λ r. event sent r (unwrap_or label 0) time v.pairs in λ i. record {
  over = d.done;
  last = sym (maps (λ s. record { name = s.name; logs = with_one e s.logs; walk = s.walk }) (session_by d) (with_last d (option_map_or (λ r. d.logs ++ (r, d.events ++ e (unwrap_or d.role 0) ∷ []) ∷ []) d.role d.logs) d.walk) d.name
      (λ n. λ j. record { name = n; logs = event_moved d k e j; walk = d.walk })) i;
}
moved d (WalkLine ss) k = λ i. record {
  over = d.done;
  last = sym (maps (λ s. record { name = s.name; logs = s.logs; walk = Some (map stored_step ss) }) (session_by d) (with_last d (all_logs d) (Some (map stored_step ss))) d.name (λ n. refl)) i;
}

-- ---- what is kept beside it

-- names and events with one more session at the end
names_last : (ss : List Session) (s : Session) → map (λ (x : Session). x.name) (ss ++ s ∷ []) ≡ map (λ (x : Session). x.name) ss ++ s.name ∷ []
names_last [] s = refl
names_last (x ∷ xs) s = ap (λ ns. x.name ∷ ns) (names_last xs s)

abbrev events_in : List Session → List Event
events_in ss = flat_map (λ (s : Session). events_of s.logs) ss

counted : (ss : List Session) (s : Session) → length (events_in (ss ++ s ∷ [])) ≡ length (events_in ss) + length (events_of s.logs)
counted ss s = ap length (flat_map-append (λ (x : Session). events_of x.logs) ss (s ∷ [])) ∙ length-append (events_in ss) (events_of s.logs ++ []) ∙ ap (λ es. length (events_in ss) + length es) (append-nil (events_of s.logs))

logged : (logs : List Log) (l : Log) → length (events_of (logs ++ l ∷ [])) ≡ length (events_of logs) + length l.1
logged logs l = ap length (flat_map-append (λ (x : Log). x.1) logs (l ∷ [])) ∙ length-append (events_of logs) (l.1 ++ []) ∙ ap (λ es. length (events_of logs) + length es) (append-nil l.1)

names_stay : (d : SoFar) (logs : List Log) (walk : Option (List StoredStep)) (o : Option Name)
    → map (λ (x : Session). x.name) (option_map_or (λ n. d.done ++ with_last d logs walk n ∷ []) o d.done) ≡ map (λ (x : Session). x.name) (option_map_or (λ n. d.done ++ session_by d n ∷ []) o d.done)
names_stay d logs walk None = refl
names_stay d logs walk (Some n) = names_last d.done (with_last d logs walk n) ∙ sym (names_last d.done (session_by d n))

count_stays : (d : SoFar) (logs : List Log) (walk : Option (List StoredStep)) (o : Option Name) → length (events_of logs) ≡ length (events_of (all_logs d))
    → length (events_in (option_map_or (λ n. d.done ++ with_last d logs walk n ∷ []) o d.done)) ≡ length (events_in (option_map_or (λ n. d.done ++ session_by d n ∷ []) o d.done))
count_stays d logs walk None h = refl
count_stays d logs walk (Some n) h = counted d.done (with_last d logs walk n) ∙ ap (λ m. length (events_in d.done) + m) h ∙ sym (counted d.done (session_by d n))

-- an event stands in a session and in a log
in_session : (g : Graph) (d : SoFar) (sent : Bool) (label : Option ℕ) (time : ℕ) (v : Assignments Value) → d.name ≡ None → fault g (so_far_by d) (EventLine sent label time v) ≡ None → ⊥
in_session g d sent label time v e h = let bad : ◌≡◌ {A = Option Mistake} (Some Form) None = rw e at h in absurd (cc)

in_log : (g : Graph) (d : SoFar) (sent : Bool) (label : Option ℕ) (time : ℕ) (v : Assignments Value) → Kept d → d.role ≡ None → fault g (so_far_by d) (EventLine sent label time v) ≡ None → ⊥
in_log g d sent label time v k q h = by d.name refl
  where
    none : all_logs d ≡ []
    none = ap (λ p. option_map_or (λ r. d.logs ++ (r, d.events) ∷ []) p d.logs) q ∙ k.first q

    closed : (w : Option (List StoredStep)) (o : Option Mistake) → first_some (where' (not (is_none w) || true || falls v) Form ∷ o ∷ where' (is_unknown (EventLine sent label time v)) Unknown ∷ where' (is_repeated (so_far_by d) (EventLine sent label time v)) Twice ∷ []) ≡ None → ⊥
    closed None o p = cc
    closed (Some w) o p = cc

    by : (o : Option Name) → d.name ≡ o → ⊥
    by None e = in_session g d sent label time v e h
    by (Some n) e =
        closed d.walk (where' (is_too_many (so_far_by d) (EventLine sent label time v)) TooManyEvents)
        (sym (λ i. first_some (where' (not (option_map_or (λ (s : Session). is_none s.walk) (option_map (session_by d) (e i)) false) || length ((ap (λ o. option_map_or (λ (s : Session). s.logs) (option_map (session_by d) o) []) e ∙ none) i) == 0 || falls v) Form
        ∷ where' (is_too_many (so_far_by d) (EventLine sent label time v)) TooManyEvents ∷ where' (is_unknown (EventLine sent label time v)) Unknown ∷ where' (is_repeated (so_far_by d) (EventLine sent label time v)) Twice ∷ [])) ∙ h)

event_counted : (d : SoFar) (n : Name) (r : ℕ) (e : Event) → d.name ≡ Some n → d.role ≡ Some r
    → length (events_in (option_map_or (λ n. d.done ++ with_last d (option_map_or (λ r. d.logs ++ (r, d.events ++ e ∷ []) ∷ []) d.role d.logs) d.walk n ∷ []) d.name d.done)) ≡ length (events_in (all_sessions d)) + 1
event_counted d n r e p q =
    let new : List Log = d.logs ++ (r, d.events ++ e ∷ []) ∷ [] in
    let old : List Log = d.logs ++ (r, d.events) ∷ [] in
    let a : length (events_in (option_map_or (λ n. d.done ++ with_last d (option_map_or (λ r. d.logs ++ (r, d.events ++ e ∷ []) ∷ []) d.role d.logs) d.walk n ∷ []) d.name d.done)) ≡ length (events_in (d.done ++ with_last d new d.walk n ∷ [])) = rw (p, q) refl in
    let b : length (events_in (all_sessions d)) ≡ length (events_in (d.done ++ with_last d old d.walk n ∷ [])) = rw (p, q) refl in
    let c = counted d.done (with_last d new d.walk n) in
    let f = counted d.done (with_last d old d.walk n) in
    let x = logged d.logs (r, d.events ++ e ∷ []) in
    let y = logged d.logs (r, d.events) in
    let z = length-append d.events (e ∷ []) in
    omega (arith, a, b, c, f, x, y, z)

pub kept : (g : Graph) (d : SoFar) (s : LogContent) → Kept d → fault g (so_far_by d) s ≡ None → Kept (next d s)
kept g d (SessionLine n) k h = record {
  names = names_last (all_sessions d) (record { name = n; logs = []; walk = None }) ∙ ap (λ ns. ns ++ n ∷ []) k.names;
  count = let c = counted (all_sessions d) (record { name = n; logs = []; walk = None }) in let m = k.count in omega (arith, c, m);
  first = λ q. refl;
}
kept g d (LogHeadLine role) k h = record {
  names = names_stay d (all_logs d ++ (unwrap_or role 0, []) ∷ []) d.walk d.name ∙ k.names;
  count = count_stays d (all_logs d ++ (unwrap_or role 0, []) ∷ []) d.walk d.name (let l = logged (all_logs d) (unwrap_or role 0, []) in omega (arith, l)) ∙ k.count;
  first = λ q. absurd (none q);
}
  where
    none : {r : ℕ} → Some r ≡ None → ⊥
    none q = cc
kept g d (EventLine sent label time v) k h = by d.name refl d.role refl
  where
    made : Event
    made = event sent (unwrap_or d.role 0) (unwrap_or label 0) time v.pairs

    by : (o : Option Name) → d.name ≡ o → (p : Option ℕ) → d.role ≡ p → Kept (next d (EventLine sent label time v))
    by None e p q = absurd (in_session g d sent label time v e h)
    by (Some n) e None q = absurd (in_log g d sent label time v k q h)
    by (Some n) e (Some r) q = record {
      names = names_stay d (option_map_or (λ r. d.logs ++ (r, d.events ++ made ∷ []) ∷ []) d.role d.logs) d.walk d.name ∙ k.names;
      count = event_counted d n r made e q ∙ ap (λ m. m + 1) k.count;
      first = k.first;
    }
kept g d (WalkLine ss) k h = record {
  names = names_stay d (all_logs d) (Some (map stored_step ss)) d.name ∙ k.names;
  count = count_stays d (all_logs d) (Some (map stored_step ss)) d.name refl ∙ k.count;
  first = k.first;
}
