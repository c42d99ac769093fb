-- No pair of session and role is joined twice.
use Rattle.std.specs.Prelude.{◌≡◌, ℕ, ◌+◌, ◌==◌, ◌||◌, ◌&&◌, Bool, true, false, cond, not, List, [], ◌∷◌, ◌++◌, map, flat_map, find, refl, Option, Some, None, unwrap_or, bytes_eq, Result, Ok, Err, All, IsTrue}
use Rattle.std.specs.List.{list_any, list_all, AllByRecursion}
use Rattle.std.specs.Option.{option_map_or}
use Rattle.std.proofs.Common.{sym, subst, inl, inr}
use Rattle.std.proofs.lemmas.Bool.{eqb-true, eq-eqb, cases_Bool, and_from, or_right}
use Rattle.sg_model.specs.Last.{last, Map}
use Rattle.sg_model.specs.Lists.{first_some}
use Rattle.sg_protocol.specs.Frame.{Frame, Cast, Item}
use Rattle.sg_model.specs.Values.{Value, Opening}
use Rattle.sg_protocol.specs.Reading.{read}
use Rattle.sg_protocol.specs.Texts.{Hash, session_id}
use Rattle.sg_protocol.specs.Session.{Session, Took, Gave, extended, last_label, last_time, new_session}
use Rattle.sg_protocol.specs.Keyring.{Program}
use Rattle.sg_protocol.specs.Node.{Node, is_for, session_with, session_for, has_joined, program_for, starter}
use Rattle.sg_protocol.specs.Calls.{Event, Started, Received, Call, Start, Act, Abandon, Deliver, Answer, Happened, Sends, Abandoned, NotStarted, NotActed, NotAbandoned, Refusal, StartFault, ActFault, UnknownGraph, UnknownSession, events_of_answer}
use Rattle.sg_protocol.specs.Verdict.{decided, rows_of_join, rows_of_next, join_rows, next_rows, rows, receipt, verdict_on}
use Rattle.sg_protocol.specs.Acting.{started, acted, sent, rows_of_start, rows_of_act, answer, openings_for}
use Rattle.sg_protocol.specs.NodeAfter.{node_after, takes_read, joined, goes_on, replace, still, is_over}
use Rattle.sg_protocol.specs.Past.{AnsweredCall, Past, AreAnswers, joins_once, pairs_differ, JoinedOnce, new_node, node_after_all}
use Rattle.sg_model.specs.Names.{Name}
use Rattle.sg_model.proofs.Small.{and_left, and_right, same_bytes, bytes_refl, none_parts, some_same}
use Rattle.sg_protocol.specs.Schedule.{PairKey}
use Rattle.sg_protocol.specs.World.{World, new_world}
use Rattle.sg_protocol.specs.Headline.{NoneJoinsTwice, NodesJoinOnce}
use Rattle.sg_protocol.proofs.Moves.{row_none}
use Rattle.sg_protocol.proofs.Happenings.{Happening, all_pasts, run_of}
use Rattle.sg_protocol.proofs.Courses.{all_same, course_from}
use Rattle.sg_protocol.proofs.Whole.{new_past}
use Rattle.std.proofs.lemmas.List.Elements.{All-nil, All-cons}

found : {A : Type 0} (p q : A → Bool) (xs : List A) (x : A) → find p xs ≡ Some x → list_all q xs ≡ true → (p x ≡ true) × (q x ≡ true)
found p q [] x e h = cc
found p q (y ∷ ys) x e h = elim (cases_Bool (p y)) [
  | inl f ↦ subst (λ z. (p z ≡ true) × (q z ≡ true)) (some_same {x = y} {y = x} (subst (λ b. cond b (Some y) (find p ys) ≡ Some x) f e)) (f, and_left (q y) (list_all q ys) h)
  | inr f ↦ found p q ys x (subst (λ b. cond b (Some y) (find p ys) ≡ Some x) f e) (and_right (q y) (list_all q ys) h)
]

-- ---- the pair of each live session was joined

abbrev pub Owns : List (List ℕ × ℕ) → List Session → Type 0
Owns joins ss = list_all (λ s. has_joined joins s.sid s.role) ss ≡ true

more : (p : List ℕ × ℕ → Bool) (js ks : List (List ℕ × ℕ)) → list_any p js ≡ true → list_any p (js ++ ks) ≡ true
more p [] ks h = cc
more p (j ∷ js) ks h = elim (cases_Bool (p j)) [ inl e ↦ rw e refl | inr e ↦ rw e (more p js ks (subst (λ b. (b || list_any p js) ≡ true) e h)) ]

at_end : (p : List ℕ × ℕ → Bool) (js : List (List ℕ × ℕ)) (k : List ℕ × ℕ) → p k ≡ true → list_any p (js ++ k ∷ []) ≡ true
at_end p [] k h = rw h refl
at_end p (j ∷ js) k h = or_right (p j) (list_any p (js ++ k ∷ [])) (at_end p js k h)

owns_more : (js ks : List (List ℕ × ℕ)) (ss : List Session) → Owns js ss → Owns (js ++ ks) ss
owns_more js ks [] h = refl
owns_more js ks (s ∷ ss) h = and_from _ _ (more (λ j. bytes_eq j.0 s.sid && (j.1 == s.role)) js ks (and_left _ _ h)) (owns_more js ks ss (and_right _ _ h))

owns_both : (js : List (List ℕ × ℕ)) (ss ts : List Session) → Owns js ss → Owns js ts → Owns js (ss ++ ts)
owns_both js [] ts h k = k
owns_both js (s ∷ ss) ts h k = and_from _ _ (and_left _ _ h) (owns_both js ss ts (and_right _ _ h) k)

owns_still : (js : List (List ℕ × ℕ)) (ps : List Program) (s : Session) → has_joined js s.sid s.role ≡ true → Owns js (still ps s)
owns_still js ps s h = elim (cases_Bool (is_over ps s)) [ inl e ↦ rw e refl | inr e ↦ rw e (and_from (has_joined js s.sid s.role) true h refl) ]

owns_replace : (js : List (List ℕ × ℕ)) (which : Session → Bool) (now : Session → List Session) → ((s : Session) → has_joined js s.sid s.role ≡ true → Owns js (now s)) → (ss : List Session) → Owns js ss → Owns js (replace which now ss)
owns_replace js which now k [] h = refl
owns_replace js which now k (s ∷ ss) h = elim (cases_Bool (which s)) [
  | inl e ↦ rw e (owns_both js (now s) ss (k s (and_left (has_joined js s.sid s.role) _ h)) (and_right (has_joined js s.sid s.role) _ h))
  | inr e ↦ rw e (and_from (has_joined js s.sid s.role) _ (and_left (has_joined js s.sid s.role) _ h) (owns_replace js which now k ss (and_right (has_joined js s.sid s.role) _ h)))
]

own_pair : (n : Node) (s : Session) → Owns n.joins n.live → Owns (joined n s).joins (joined n s).live
own_pair n s h = owns_both (n.joins ++ (s.sid, s.role) ∷ []) n.live (still n.programs s) (owns_more n.joins ((s.sid, s.role) ∷ []) n.live h)
    (owns_still (n.joins ++ (s.sid, s.role) ∷ []) n.programs s (at_end (λ j. bytes_eq j.0 s.sid && (j.1 == s.role)) n.joins (s.sid, s.role) (and_from _ _ (bytes_refl s.sid) (eq-eqb s.role s.role refl))))

owns_takes : (n : Node) (f : Frame) (o : Option Cast) → Owns n.joins n.live →
    let m : Node = option_map_or (λ c. joined n (extended (new_session f.sid c f.receiver) (Took f))) o (goes_on n (is_for f) (λ s. still n.programs (extended s (Took f)))) in
    Owns m.joins m.live
owns_takes n f None h = owns_replace n.joins (is_for f) (λ s. still n.programs (extended s (Took f))) (λ s e. owns_still n.joins n.programs (extended s (Took f)) e) n.live h
owns_takes n f (Some c) h = own_pair n (extended (new_session f.sid c f.receiver) (Took f)) h

owns_read : (n : Node) (r : Result Frame ℕ) → Owns n.joins n.live → Owns (takes_read n r).joins (takes_read n r).live
owns_read n (Err at) h = h
owns_read n (Ok f) h = owns_takes n f f.join h

owns_act : (n : Node) (os : List Opening) (o : Option Item) (s : Session) → has_joined n.joins s.sid s.role ≡ true → Owns n.joins (option_map_or (λ i. still n.programs (extended s (Gave i os))) o (s ∷ []))
owns_act n os None s h = and_from (has_joined n.joins s.sid s.role) true h refl
owns_act n os (Some i) s h = owns_still n.joins n.programs (extended s (Gave i os)) h

pub owns_after : (n : Node) (c : Call) (a : Answer) → Owns n.joins n.live → Owns (node_after n c a).joins (node_after n c a).live
owns_after n (Start c) (Happened (Started sid r)) h = own_pair n (new_session sid c r) h
owns_after n (Act sid label values confounders) (Sends e to f) h = owns_replace n.joins (λ s. bytes_eq s.sid sid) _ (λ s k. owns_act n (openings_for values confounders) (last f.items) s k) n.live h
owns_after n (Abandon sid) Abandoned h = owns_replace n.joins (λ s. bytes_eq s.sid sid) (λ s. []) (λ s k. refl) n.live h
owns_after n (Deliver bs) (Happened (Received sid r label time values joins)) h = owns_read n (read bs) h
owns_after n c other h = h

-- ---- one call

pub third : {F : Type 0} (a b c : Option F) (os : List (Option F)) → first_some (a ∷ b ∷ c ∷ os) ≡ None → c ≡ None
third a b c os h = (none_parts c os (none_parts b (c ∷ os) (none_parts a (b ∷ c ∷ os) h).1).1).0

pub fourth : {F : Type 0} (a b c d : Option F) (os : List (Option F)) → first_some (a ∷ b ∷ c ∷ d ∷ os) ≡ None → d ≡ None
fourth a b c d os h = third b c d os (none_parts a (b ∷ c ∷ d ∷ os) h).1

-- the first row and the others
abbrev pub head_of : {F : Type 0} → List (Option F) → Option F
head_of [] = None
head_of (o ∷ os) = o

abbrev pub tail_of : {F : Type 0} → List (Option F) → List (Option F)
tail_of [] = []
tail_of (o ∷ os) = os

joins_new : (js : List (List ℕ × ℕ)) (e : Event) (sid : List ℕ) (r : ℕ) (es : List Event) → has_joined js sid r ≡ false → joins_once (js ++ (sid, r) ∷ []) es ≡ true →
    (not (has_joined js sid r) && joins_once (js ++ (sid, r) ∷ []) es) ≡ true
joins_new js e sid r es h k = and_from (not (has_joined js sid r)) (joins_once (js ++ (sid, r) ∷ []) es) (rw h refl) k

module _ (sha : Hash) (n : Node) (h : Owns n.joins n.live) (es : List Event) where
  start_rows : (c : Cast) (p : Program) (o : Option StartFault) → first_some (rows_of_start n p (session_id sha c) c) ≡ o →
      joins_once (node_after n (Start c) (started (session_id sha c) p.role o)).joins es ≡ true → joins_once n.joins (events_of_answer (started (session_id sha c) p.role o) ++ es) ≡ true
  start_rows c p None e k =
      let rows : List (Option StartFault) = rows_of_start n p (session_id sha c) c in
      joins_new n.joins (Started (session_id sha c) p.role) (session_id sha c) p.role es
      (row_none (has_joined n.joins (session_id sha c) p.role) _ (third (head_of rows) (head_of (tail_of rows)) (head_of (tail_of (tail_of rows))) (tail_of (tail_of (tail_of rows))) e)) k
  start_rows c p (Some fault) e k = k

  start_step : (c : Cast) (o : Option Program) →
      let a : Answer = option_map_or (λ p. started (session_id sha c) p.role (first_some (rows_of_start n p (session_id sha c) c))) o (NotStarted StartFault.UnknownGraph) in
      joins_once (node_after n (Start c) a).joins es ≡ true → joins_once n.joins (events_of_answer a ++ es) ≡ true
  start_step c None k = k
  start_step c (Some p) k = start_rows c p (first_some (rows_of_start n p (session_id sha c) c)) refl k

  not_joined : (f : Frame) (c : Cast) (o : Option Program) → first_some (option_map_or (rows_of_join sha n f c) o (Some UnknownGraph ∷ [])) ≡ None → has_joined n.joins f.sid f.receiver ≡ false
  not_joined f c None e = cc
  not_joined f c (Some p) e =
      let rows : List (Option Refusal) = rows_of_join sha n f c p in
      row_none (has_joined n.joins f.sid f.receiver) _ (fourth (head_of rows) (head_of (tail_of rows)) (head_of (tail_of (tail_of rows))) (head_of (tail_of (tail_of (tail_of rows)))) (tail_of (tail_of (tail_of (tail_of rows)))) e)

  was_joined : (f : Frame) (s : Session) → is_for f s ≡ true → has_joined n.joins s.sid s.role ≡ true → has_joined n.joins f.sid f.receiver ≡ true
  was_joined f s e k =
      subst (λ r. has_joined n.joins f.sid r ≡ true) (eqb-true s.role f.receiver (and_right (bytes_eq s.sid f.sid) _ (and_left _ _ e)))
      (subst (λ x. has_joined n.joins x s.role ≡ true) (same_bytes s.sid f.sid (and_left _ _ (and_left _ _ e))) k)

  next_joined : (f : Frame) (o : Option Session) → session_for n.live f ≡ o → first_some (option_map_or (λ s. option_map_or (rows_of_next sha n f s) (program_for n.programs s.cast.graph s.role) (Some UnknownSession ∷ [])) o (Some UnknownSession ∷ [])) ≡ None →
      has_joined n.joins f.sid f.receiver ≡ true
  next_joined f None e k = cc
  next_joined f (Some s) e k =
      let both : (is_for f s ≡ true) × (has_joined n.joins s.sid s.role ≡ true) = found (is_for f) (λ s. has_joined n.joins s.sid s.role) n.live s e h in
      was_joined f s both.0 both.1

  receipt_step : (f : Frame) (label time : ℕ) (values : Map Value) (o : Option Cast) → first_some (option_map_or (join_rows sha n f) o (next_rows sha n f)) ≡ None →
      joins_once (option_map_or (λ c. joined n (extended (new_session f.sid c f.receiver) (Took f))) o (goes_on n (is_for f) (λ s. still n.programs (extended s (Took f))))).joins es ≡ true →
      joins_once n.joins (Received f.sid f.receiver label time values (option_map_or (λ c. true) o false) ∷ es) ≡ true
  receipt_step f label time values None e k = and_from (has_joined n.joins f.sid f.receiver) _ (next_joined f (session_for n.live f) refl e) k
  receipt_step f label time values (Some c) e k = joins_new n.joins (Received f.sid f.receiver label time values true) f.sid f.receiver es (not_joined f c (program_for n.programs c.graph f.receiver) e) k

  frame_step : (bs : List ℕ) (f : Frame) → read bs ≡ Ok f → (o : Option Refusal) → first_some (rows sha n f) ≡ o →
      joins_once (node_after n (Deliver bs) (decided (receipt f) o)).joins es ≡ true → joins_once n.joins (events_of_answer (decided (receipt f) o) ++ es) ≡ true
  frame_step bs f r None e k = receipt_step f (unwrap_or (last_label f.items) 0) (last_time f.items) (map (λ o. (o.variable, o.value)) f.openings) f.join e (subst (λ x. joins_once (takes_read n x).joins es ≡ true) r k)
  frame_step bs f r (Some refusal) e k = k

  deliver_step : (bs : List ℕ) (r : Result Frame ℕ) → read bs ≡ r → joins_once (node_after n (Deliver bs) (verdict_on sha n r)).joins es ≡ true → joins_once n.joins (events_of_answer (verdict_on sha n r) ++ es) ≡ true
  deliver_step bs (Err at) e k = k
  deliver_step bs (Ok f) e k = frame_step bs f e (first_some (rows sha n f)) refl k

  act_rows : (sid : List ℕ) (label : ℕ) (values : Map Value) (confounders : List (List ℕ)) (p : Program) (s : Session) → has_joined n.joins s.sid s.role ≡ true → (o : Option ActFault) →
      joins_once (node_after n (Act sid label values confounders) (acted (sent sha n.keys p s label values confounders) o)).joins es ≡ true →
      joins_once n.joins (events_of_answer (acted (sent sha n.keys p s label values confounders) o) ++ es) ≡ true
  act_rows sid label values confounders p s j None k = and_from (has_joined n.joins s.sid s.role) _ j k
  act_rows sid label values confounders p s j (Some fault) k = k

  act_program : (sid : List ℕ) (label : ℕ) (values : Map Value) (confounders : List (List ℕ)) (s : Session) → has_joined n.joins s.sid s.role ≡ true → (o : Option Program) →
      let a : Answer = option_map_or (λ p. acted (sent sha n.keys p s label values confounders) (first_some (rows_of_act p s label values))) o (NotActed ActFault.UnknownSession) in
      joins_once (node_after n (Act sid label values confounders) a).joins es ≡ true → joins_once n.joins (events_of_answer a ++ es) ≡ true
  act_program sid label values confounders s j None k = k
  act_program sid label values confounders s j (Some p) k = act_rows sid label values confounders p s j (first_some (rows_of_act p s label values)) k

  act_step : (sid : List ℕ) (label : ℕ) (values : Map Value) (confounders : List (List ℕ)) (o : Option Session) → session_with n.live sid ≡ o →
      let a : Answer = option_map_or (λ s. option_map_or (λ p. acted (sent sha n.keys p s label values confounders) (first_some (rows_of_act p s label values))) (program_for n.programs s.cast.graph s.role) (NotActed ActFault.UnknownSession)) o (NotActed ActFault.UnknownSession) in
      joins_once (node_after n (Act sid label values confounders) a).joins es ≡ true → joins_once n.joins (events_of_answer a ++ es) ≡ true
  act_step sid label values confounders None e k = k
  act_step sid label values confounders (Some s) e k =
      act_program sid label values confounders s (found (λ x. bytes_eq x.sid sid) (λ s. has_joined n.joins s.sid s.role) n.live s e h).1 (program_for n.programs s.cast.graph s.role) k

  abandon_step : (sid : List ℕ) (o : Option Session) →
      let a : Answer = option_map_or (λ s. Abandoned) o NotAbandoned in
      joins_once (node_after n (Abandon sid) a).joins es ≡ true → joins_once n.joins (events_of_answer a ++ es) ≡ true
  abandon_step sid None k = k
  abandon_step sid (Some s) k = k

  pub call_step : (c : Call) → joins_once (node_after n c (answer sha n c)).joins es ≡ true → joins_once n.joins (events_of_answer (answer sha n c) ++ es) ≡ true
  call_step (Start c) k = start_step c (starter n.programs c.graph) k
  call_step (Act sid label values confounders) k = act_step sid label values confounders (session_with n.live sid) refl k
  call_step (Abandon sid) k = abandon_step sid (session_with n.live sid) k
  call_step (Deliver bs) k = deliver_step bs (read bs) refl k

once : (sha : Hash) (n : Node) (cs : List AnsweredCall) → Owns n.joins n.live → AreAnswers sha n cs → joins_once n.joins (flat_map (λ c. events_of_answer c.answer) cs) ≡ true
once sha n [] h a = refl
once sha n (c ∷ cs) h a =
    subst (λ x. joins_once n.joins (events_of_answer x ++ flat_map (λ c. events_of_answer c.answer) cs) ≡ true) (sym a.0)
    (call_step sha n h (flat_map (λ c. events_of_answer c.answer) cs) c.call
    (subst (λ x. joins_once (node_after n c.call x).joins (flat_map (λ c. events_of_answer c.answer) cs) ≡ true) a.0
    (once sha (node_after n c.call c.answer) cs (owns_after n c.call c.answer h) a.1)))

pub nodes_join_once : (sha : Hash) → NodesJoinOnce sha
nodes_join_once sha past d a = record { first = d; events = once sha (new_node past.keys past.programs past.first) past.calls refl a }

-- ---- whole runs

abbrev pub Right : Hash → Past → Type 0
Right sha p = AreAnswers sha (new_node p.keys p.programs p.first) p.calls × IsTrue (pairs_differ p.first)

pub answers_more : (sha : Hash) (n : Node) (cs : List AnsweredCall) (c : Call) → AreAnswers sha n cs → AreAnswers sha n (cs ++ record { call = c; answer = answer sha (node_after_all n cs) c } ∷ [])
answers_more sha n [] c a = (refl, tt)
answers_more sha n (d ∷ cs) c a = (a.0, answers_more sha (node_after n d.call d.answer) cs c a.1)

all_once : (sha : Hash) (ps : List Past) → AllByRecursion (Right sha) ps → All JoinedOnce ps
all_once sha [] a = All-nil JoinedOnce
all_once sha (p ∷ ps) a = All-cons JoinedOnce p ps (nodes_join_once sha p (a.0).1 (a.0).0) (all_once sha ps a.1)

-- whatever happens
pub joined_once : (sha : Hash) (ps : List Past) (course : List Happening) → AllByRecursion (Right sha) ps → All JoinedOnce (run_of sha ps course).pasts
joined_once sha ps course a = all_once sha (run_of sha ps course).pasts (all_pasts sha (Right sha) (λ p c r. (answers_more sha (new_node p.keys p.programs p.first) p.calls c r.0, r.1)) (record { pasts = ps; log = [] }) 1 course a)

right_new : (sha : Hash) (keys : List PairKey) (programs : List Program) (names : List Name) → AllByRecursion (Right sha) (map (new_past keys programs) names)
right_new sha keys programs [] = tt
right_new sha keys programs (n ∷ ns) = ((tt, refl), right_new sha keys programs ns)

pub none_joins_twice : (sha : Hash) → NoneJoinsTwice sha
none_joins_twice sha programs s =
    subst (λ (w : World). All JoinedOnce w.pasts) (all_same sha s (new_world programs s) 1 s.steps)
    (joined_once sha (new_world programs s).pasts (course_from sha s (new_world programs s) 1 s.steps) (right_new sha s.keys programs s.honest))
