-- What the words of a line say, as it is read and as it is written.
use Rattle.std.specs.Prelude.{◌≡◌, ℕ, nat_lt, nat_le, Bool, true, false, ◌&&◌, if◌then◌else◌, List, [], ◌∷◌, codes, bytes_eq, refl, Option, Some, None, option_map, option_and_then}
use Rattle.std.specs.List.{list_all}
use Rattle.std.specs.Fmt.{decimal}
use Rattle.std.proofs.Common.{sym, ◌∙◌, ap, subst, arith}
use Rattle.std.proofs.lemmas.Bool.Decides.{nat_tests}
use Rattle.std.proofs.lemmas.Slice.Eq.{bytes_eq-Decides}
use Rattle.sg_base.specs.Words.{number, from_one, name}
use Rattle.sg_model.specs.Names.{Name, is_name}
use Rattle.sg_model.specs.Values.{Value}
use Rattle.sg_model.proofs.Small.{and_left, and_right, some_same}
use Rattle.sg_protocol.specs.Graph.{Graph}
use Rattle.sg_graph.specs.Parts.{variable_names, edge_names}
use Rattle.sg_sched.specs.Format.LineContents.{Word}
use Rattle.sg_sched.specs.Format.Values.{spelled_value, is_value, value_of}
use Rattle.sg_sched.specs.Format.Reading.{word, after, ended}
use Rattle.sg_sched.proofs.FormLaws.{none_some, step, ended_is, line_up, tested_is, name_ok}
use Rattle.sg_sched.proofs.FormatWords.{both}
use Rattle.sg_sched.proofs.NumberLaws.{number_is, number_ok}
use Rattle.sg_audit.specs.LineContents.{Assignments, StepContent, LogContent, SessionLine, LogHeadLine, EventLine, WalkLine, numbered}
use Rattle.sg_audit.specs.Reading.{all_assigned, steps, time, session_form, log_form, event_form, walk_form, form}
use Rattle.sg_audit.specs.Written.{Written, ASession, ALog, AnEvent, AWalk, line_words, is_assignment, is_form, statement_in, Says}
use Rattle.sg_audit.proofs.WrittenAssignments.{of_values, pairs_are, pairs_ok}
use Rattle.sg_audit.proofs.WrittenWalks.{steps_are, steps_ok}

-- ---- words

name_is : (w n : Word) → name w ≡ Some n → (w ≡ n) × (is_name n ≡ true)
unfolding name
name_is w n h = tested_is is_name w n h

-- a time, as its digits are written
abbrev pub is_time : ℕ → Bool
is_time t = nat_le 1 t && nat_le t 1000000

time_is : (w : Word) (t : ℕ) → time w ≡ Some t → (w ≡ decimal t) × (is_time t ≡ true)
unfolding time
time_is w t h = found (number 1000000 w) refl h
  where
    from : (n : ℕ) → number 1000000 w ≡ Some n → (b : Bool) → nat_lt 0 n ≡ b → (if b then Some n else None) ≡ Some t → (w ≡ decimal t) × (is_time t ≡ true)
    from n e false z h = none_some h
    from n e true z h =
        let d = number_is 1000000 w n (omega arith) e in
        let one : nat_le 1 n ≡ true = grind (arith, nat_tests, z) in
        subst (λ m. (w ≡ decimal m) × (is_time m ≡ true)) (some_same h) (d.same, both one d.within)

    found : (o : Option ℕ) → number 1000000 w ≡ o → option_and_then from_one o ≡ Some t → (w ≡ decimal t) × (is_time t ≡ true)
    found None e h = none_some h
    found (Some n) e h = from n e (nat_lt 0 n) refl h

time_ok : (t : ℕ) → is_time t ≡ true → time (decimal t) ≡ Some t
unfolding time
time_ok t h =
    let one : nat_lt 0 t ≡ true = grind (arith, nat_tests, and_left (nat_le 1 t) (nat_le t 1000000) h) in
    ap (option_and_then from_one) (number_ok 1000000 t (omega arith) (and_right (nat_le 1 t) (nat_le t 1000000) h)) ∙ ap (λ b. if b then Some t else None) one

-- ---- what is read is written so

session_is : (g : Graph) (ws : List Word) (s : LogContent) → session_form ws ≡ Some s → Says g (codes "session" ∷ ws) s
unfolding session_form
session_is g ws s h =
    let a = step name (λ n. ended (Some (SessionLine n))) ws s h in
    let e = ended_is (Some (SessionLine a.value)) a.rest s a.more in
    let n = name_is a.first a.value a.was in
    record { written = ASession a.value; spelled = ap (λ r. codes "session" ∷ r) (line_up a.all n.0 e.0); form = n.1; says = some_same e.1 }

log_is : (g : Graph) (ws : List Word) (s : LogContent) → log_form g ws ≡ Some s → Says g (codes "log" ∷ ws) s
unfolding log_form
log_is g ws s h =
    let a = step name (λ n. ended (Some (LogHeadLine (numbered g.roles n)))) ws s h in
    let e = ended_is (Some (LogHeadLine (numbered g.roles a.value))) a.rest s a.more in
    let n = name_is a.first a.value a.was in
    record { written = ALog a.value; spelled = ap (λ r. codes "log" ∷ r) (line_up a.all n.0 e.0); form = n.1; says = some_same e.1 }

-- the first word of an event
abbrev event_word : Bool → Word
event_word sent = if sent then codes "sent" else codes "received"

event_is : (g : Graph) (sent : Bool) (ws : List Word) (s : LogContent) → event_form g sent ws ≡ Some s → Says g (event_word sent ∷ ws) s
unfolding event_form
event_is g sent ws s h =
    let a = step name (λ label. after (word time) λ at. λ ws. option_map (EventLine sent (numbered (edge_names g) label) at) (all_assigned (variable_names g) spelled_value ws)) ws s h in
    let b = step time (λ at ws. option_map (EventLine sent (numbered (edge_names g) a.value) at) (all_assigned (variable_names g) spelled_value ws)) a.rest s a.more in
    let n = name_is a.first a.value a.was in
    let t = time_is b.first b.value b.was in
    valued a.value b.value b.rest (line_up a.all n.0 (line_up b.all t.0 refl)) n.1 t.1 (all_assigned (variable_names g) spelled_value b.rest) refl b.more
  where
    valued : (label : Name) (at : ℕ) (rest : List Word) → ws ≡ label ∷ decimal at ∷ rest → is_name label ≡ true → is_time at ≡ true → (o : Option (Assignments Value)) → all_assigned (variable_names g) spelled_value rest ≡ o
        → option_map (EventLine sent (numbered (edge_names g) label) at) o ≡ Some s → Says g (event_word sent ∷ ws) s
    valued label at rest e n t None f h = none_some h
    valued label at rest e n t (Some v) f h =
        let a = pairs_are (variable_names g) spelled_value is_value value_of of_values rest v f in
        record {
          written = AnEvent sent label at a.list;
          spelled = ap (λ r. event_word sent ∷ r) (e ∙ ap (λ r. label ∷ decimal at ∷ r) a.spelled);
          form = both (both n t) a.form;
          says = ap (EventLine sent (numbered (edge_names g) label) at) (sym a.gives) ∙ some_same h;
        }

walk_is : (g : Graph) (ws : List Word) (s : LogContent) → walk_form g ws ≡ Some s → Says g (codes "walk" ∷ ws) s
unfolding walk_form
walk_is g ws s h = found (steps g ws) refl h
  where
    found : (o : Option (List StepContent)) → steps g ws ≡ o → option_map WalkLine o ≡ Some s → Says g (codes "walk" ∷ ws) s
    found None e h = none_some h
    found (Some ss) e h =
        let a = steps_are g ws ss e in
        record { written = AWalk a.list; spelled = ap (λ r. codes "walk" ∷ r) a.spelled; form = a.form; says = ap WalkLine a.says ∙ some_same h }

-- a form's words behind its first word
first_is : {g : Graph} {first w : Word} {ws : List Word} {s : LogContent} → bytes_eq w first ≡ true → Says g (first ∷ ws) s → Says g (w ∷ ws) s
first_is {g} {first} {w} {ws} e f = record { written = f.written; spelled = ap (λ x. x ∷ ws) ((bytes_eq-Decides w first).0 e) ∙ f.spelled; form = f.form; says = f.says }

pub form_is : (g : Graph) (ws : List Word) (s : LogContent) → form g ws ≡ Some s → Says g ws s
unfolding form
form_is g [] s h = none_some h
form_is g (w ∷ ws) s h =
    by (bytes_eq w (codes "session")) (bytes_eq w (codes "log")) (bytes_eq w (codes "sent")) (bytes_eq w (codes "received")) (bytes_eq w (codes "walk")) refl refl refl refl refl h
  where
    by : (b1 b2 b3 b4 b5 : Bool) → bytes_eq w (codes "session") ≡ b1 → bytes_eq w (codes "log") ≡ b2 → bytes_eq w (codes "sent") ≡ b3 → bytes_eq w (codes "received") ≡ b4 → bytes_eq w (codes "walk") ≡ b5
        → (if b1 then session_form ws else if b2 then log_form g ws else if b3 then event_form g true ws else if b4 then event_form g false ws else if b5 then walk_form g ws else None) ≡ Some s → Says g (w ∷ ws) s
    by true b2 b3 b4 b5 e1 e2 e3 e4 e5 h = first_is e1 (session_is g ws s h)
    by false true b3 b4 b5 e1 e2 e3 e4 e5 h = first_is e2 (log_is g ws s h)
    by false false true b4 b5 e1 e2 e3 e4 e5 h = first_is e3 (event_is g true ws s h)
    by false false false true b5 e1 e2 e3 e4 e5 h = first_is e4 (event_is g false ws s h)
    by false false false false true e1 e2 e3 e4 e5 h = first_is e5 (walk_is g ws s h)
    by false false false false false e1 e2 e3 e4 e5 h = none_some h

-- ---- what is written is read so

written_ok : (g : Graph) (w : Written) → is_form w ≡ true → form g (line_words w) ≡ Some (statement_in g w)
unfolding form session_form log_form event_form walk_form word
written_ok g (ASession n) h = rw (name_ok n h) refl
written_ok g (ALog role) h = rw (name_ok role h) refl
written_ok g (AnEvent true label at ps) h =
    let prefix = and_left (is_name label && is_time at) (list_all is_assignment ps) h in
    rw (name_ok label (and_left (is_name label) (is_time at) prefix), time_ok at (and_right (is_name label) (is_time at) prefix), pairs_ok (variable_names g) spelled_value is_value value_of of_values ps (and_right (is_name label && is_time at) (list_all is_assignment ps) h)) refl
written_ok g (AnEvent false label at ps) h =
    let prefix = and_left (is_name label && is_time at) (list_all is_assignment ps) h in
    rw (name_ok label (and_left (is_name label) (is_time at) prefix), time_ok at (and_right (is_name label) (is_time at) prefix), pairs_ok (variable_names g) spelled_value is_value value_of of_values ps (and_right (is_name label && is_time at) (list_all is_assignment ps) h)) refl
written_ok g (AWalk ss) h = rw (steps_ok g ss h) refl

pub form_ok : (g : Graph) (ws : List Word) (s : LogContent) → Says g ws s → form g ws ≡ Some s
form_ok g ws s p = ap (form g) p.spelled ∙ written_ok g p.written p.form ∙ ap Some p.says
