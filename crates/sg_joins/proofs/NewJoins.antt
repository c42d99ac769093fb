-- What a call of a node joins: its answer says it, and the pair is new.
use Rattle.std.specs.Prelude.{◌≡◌, ℕ, ◌<◌, ◌≤◌, ◌==◌, ◌&&◌, nat_lt, nat_le, true, false, not, List, [], ◌∷◌, ◌++◌, map, length, refl, Option, Some, None, IfSome, unwrap_or, bytes_eq, Result, Ok, Err, ⊤}
use Rattle.std.specs.List.{AllByRecursion}
use Rattle.std.specs.Option.{option_map_or}
use Rattle.std.proofs.Common.{ap, sym, ◌∙◌, subst, arith, append_assoc}
use Rattle.std.proofs.lemmas.Bool.{not-false}
use Rattle.std.proofs.lemmas.Bool.Decides.{nat_tests}
use Rattle.std.proofs.lemmas.List.{append-nil}
use Rattle.std.proofs.lemmas.List.Elements.{recursion_from_All}
use Rattle.std.proofs.lemmas.List.Concat.{flat_map-append}
use Rattle.std.proofs.lemmas.Option.{same_Some}
use Rattle.sg_ledger.specs.Format.{Join}
use Rattle.sg_model.proofs.Small.{and_left, and_right, none_parts}
use Rattle.sg_model.specs.Bytes.{IsBytes}
use Rattle.sg_model.specs.Last.{Map}
use Rattle.sg_model.specs.Limits.{most_joins, most_roles}
use Rattle.sg_model.specs.Lists.{all_differ, first_some}
use Rattle.sg_model.specs.Values.{Value}
use Rattle.sg_node.proofs.Joined.{not_joined}
use Rattle.sg_node.specs.Answers.{IsAnsweredPast}
use Rattle.sg_protocol.proofs.Progressing.{node_more}
use Rattle.sg_protocol.proofs.Moves.{row_none}
use Rattle.sg_protocol.proofs.ReadBack.{read-SpellsFrame}
use Rattle.sg_protocol.specs.Acting.{answer, acted, rows_of_act, rows_of_start, sent, started}
use Rattle.sg_protocol.specs.Calls as Protocol
use Rattle.sg_protocol.specs.Calls.{Received, Call, Answer, Start, Act, Abandon, Deliver, NotStarted, NotActed, NotAbandoned, Refusal, StartFault, ActFault, UnknownGraph, UnknownSession}
use Rattle.sg_protocol.specs.Frame.{Cast, Frame, IsCastOf}
use Rattle.sg_protocol.specs.Graph.{Graph}
use Rattle.sg_protocol.specs.Keyring.{Keyring, Program}
use Rattle.sg_protocol.specs.Node.{Node, has_joined, is_cast, is_for, program_for, session_with, starter}
use Rattle.sg_protocol.specs.NodeAfter.{goes_on, joined, node_after, still, takes_read}
use Rattle.sg_protocol.specs.Past.{AreAnswers, AnsweredCall, Past, new_node, node_after_all, node_of, past_after}
use Rattle.sg_protocol.specs.Ranges.{IsCallInRange}
use Rattle.sg_protocol.specs.Reading.{read}
use Rattle.sg_protocol.specs.Session.{Session, Took, extended, last_label, last_time, new_session, principal}
use Rattle.sg_protocol.specs.Texts.{Hash, real, session_id}
use Rattle.sg_protocol.specs.Verdict.{decided, join_rows, next_rows, receipt, rows, rows_of_join, verdict_on}
use Rattle.sg_joins.specs.Joins.{IsNew, join_in, join_of, joins_made, with_join}

-- ---- the rows that stand before a join

abbrev head_of : {F : Type 0} → List (Option F) → Option F
head_of [] = None
head_of (o ∷ os) = o

abbrev tail_of : {F : Type 0} → List (Option F) → List (Option F)
tail_of [] = []
tail_of (o ∷ os) = os

-- if no row holds, the first doesn't, nor those behind it
first_none : {F : Type 0} (os : List (Option F)) → first_some os ≡ None → (head_of os ≡ None) × (first_some (tail_of os) ≡ None)
first_none [] h = (refl, refl)
first_none (o ∷ os) h = none_parts o os h

-- the role of a principal of a cast is below the number of names
cast_role : (keys : Keyring) (g : Graph) (c : Cast) (r : ℕ) → is_cast keys g c r ≡ true → r < length c.names
cast_role keys g c r h = let e : nat_lt r (length c.names) ≡ true = and_right ((length c.names == length g.roles) && all_differ c.names) (nat_lt r (length c.names)) (and_left (((length c.names == length g.roles) && all_differ c.names) && nat_lt r (length c.names)) (bytes_eq (principal c r) keys.me) h) in grind (arith, nat_tests, e)

few : (n : ℕ) → nat_le most_joins n ≡ false → n < 65536
few n e = grind (arith, nat_tests, e)

below_sixteen : (r n : ℕ) → r < n → n ≤ most_roles → r < 16
below_sixteen r n a b = omega (arith, a, b)

new_pair : (joins : List Join) (sid : List ℕ) (r n : ℕ) → has_joined joins sid r ≡ false → nat_le most_joins (length joins) ≡ false → r < n → n ≤ most_roles → IsNew joins (sid, r)
new_pair joins sid r n a b l m = record { absent = not_joined joins sid r a; room = few (length joins) b; role = below_sixteen r n l m }

-- ---- a call

module _ (sha : Hash) (n : Node) where
  -- the joins afterwards are those from before, with the one that the answer says, which was new
  abbrev Good : Call → Answer → Type 0
  Good c a = ((node_after n c a).joins ≡ with_join n.joins (join_in a)) × ((j : Join) → join_in a ≡ Some j → IsNew n.joins j)

  -- a pair that is the one
  the_one : (sid : List ℕ) (r : ℕ) → IsNew n.joins (sid, r) → (j : Join) → Some (sid, r) ≡ Some j → IsNew n.joins j
  the_one sid r new j e = subst (IsNew n.joins) (same_Some (sid, r) j e) new

  none : (j : Join) → None ≡ Some j → IsNew n.joins j
  none j e = absurd (cc)

  by_start_rows : (c : Cast) (p : Program) (o : Option StartFault) → length c.names ≤ most_roles → first_some (rows_of_start n p (session_id sha c) c) ≡ o → Good (Start c) (started (session_id sha c) p.role o)
  by_start_rows c p None few_names e =
      let one = first_none (rows_of_start n p (session_id sha c) c) e in
      let two = first_none (tail_of (rows_of_start n p (session_id sha c) c)) one.1 in
      let three = first_none (tail_of (tail_of (rows_of_start n p (session_id sha c) c))) two.1 in
      let four = first_none (tail_of (tail_of (tail_of (rows_of_start n p (session_id sha c) c)))) three.1 in (
        refl,
        the_one (session_id sha c) p.role
            (new_pair n.joins (session_id sha c) p.role (length c.names) (row_none (has_joined n.joins (session_id sha c) p.role) StartFault.Joined three.0) (row_none (nat_le most_joins (length n.joins)) StartFault.CacheFull four.0)
            (cast_role n.keys p.graph c p.role (not-false (is_cast n.keys p.graph c p.role) (row_none (not (is_cast n.keys p.graph c p.role)) StartFault.BadCast one.0))) few_names),
      )
  by_start_rows c p (Some fault) few_names e = (refl, none)

  by_starter : (c : Cast) (o : Option Program) → length c.names ≤ most_roles → Good (Start c) (option_map_or (λ p. started (session_id sha c) p.role (first_some (rows_of_start n p (session_id sha c) c))) o (NotStarted StartFault.UnknownGraph))
  by_starter c None few_names = (refl, none)
  by_starter c (Some p) few_names = by_start_rows c p (first_some (rows_of_start n p (session_id sha c) c)) few_names refl

  -- a frame that joins
  by_join_rows : (f : Frame) (c : Cast) (o : Option Program) → length c.names ≤ most_roles → first_some (option_map_or (rows_of_join sha n f c) o (Some UnknownGraph ∷ [])) ≡ None → IsNew n.joins (f.sid, f.receiver)
  by_join_rows f c None few_names e = absurd (cc)
  by_join_rows f c (Some p) few_names e =
      let one = first_none (rows_of_join sha n f c p) e in
      let two = first_none (tail_of (rows_of_join sha n f c p)) one.1 in
      let three = first_none (tail_of (tail_of (rows_of_join sha n f c p))) two.1 in
      let four = first_none (tail_of (tail_of (tail_of (rows_of_join sha n f c p)))) three.1 in
      let five = first_none (tail_of (tail_of (tail_of (tail_of (rows_of_join sha n f c p))))) four.1 in
      let cast = and_left (is_cast n.keys p.graph c f.receiver) (nat_lt f.sender (length c.names)) (not-false (is_cast n.keys p.graph c f.receiver && nat_lt f.sender (length c.names)) (row_none (not (is_cast n.keys p.graph c f.receiver && nat_lt f.sender (length c.names))) Refusal.BadCast one.0)) in
      new_pair n.joins f.sid f.receiver (length c.names) (row_none (has_joined n.joins f.sid f.receiver) Refusal.Joined four.0) (row_none (nat_le most_joins (length n.joins)) Refusal.CacheFull five.0) (cast_role n.keys p.graph c f.receiver cast) few_names

  -- the joins after a frame was taken
  taken_joins : (f : Frame) (label time : ℕ) (values : Map Value) (o : Option Cast) →
      (option_map_or (λ c. joined n (extended (new_session f.sid c f.receiver) (Took f))) o (goes_on n (is_for f) (λ s. still n.programs (extended s (Took f))))).joins
      ≡ with_join n.joins (join_of (Received f.sid f.receiver label time values (option_map_or (λ c. true) o false)))
  taken_joins f label time values None = refl
  taken_joins f label time values (Some c) = refl

  by_receipt : (f : Frame) (label time : ℕ) (values : Map Value) (o : Option Cast) → ((c : Cast) → o ≡ Some c → length c.names ≤ most_roles) → first_some (option_map_or (join_rows sha n f) o (next_rows sha n f)) ≡ None →
      (j : Join) → join_of (Received f.sid f.receiver label time values (option_map_or (λ c. true) o false)) ≡ Some j → IsNew n.joins j
  by_receipt f label time values None few_names e = none
  by_receipt f label time values (Some c) few_names e = the_one f.sid f.receiver (by_join_rows f c (program_for n.programs c.graph f.receiver) (few_names c refl) e)

  by_frame_rows : (bs : List ℕ) (f : Frame) → read bs ≡ Ok f → ((c : Cast) → f.join ≡ Some c → length c.names ≤ most_roles) → (o : Option Refusal) → first_some (rows sha n f) ≡ o → Good (Deliver bs) (decided (receipt f) o)
  by_frame_rows bs f r few_names None e =
      let label = unwrap_or (last_label f.items) 0 in
      let values = map (λ o. (o.variable, o.value)) f.openings in
      (ap (λ (x : Result Frame ℕ). (takes_read n x).joins) r ∙ taken_joins f label (last_time f.items) values f.join, by_receipt f label (last_time f.items) values f.join few_names e)
  by_frame_rows bs f r few_names (Some refusal) e = (refl, none)

  by_read : (bs : List ℕ) (r : Result Frame ℕ) → read bs ≡ r → ((f : Frame) (c : Cast) → r ≡ Ok f → f.join ≡ Some c → length c.names ≤ most_roles) → Good (Deliver bs) (verdict_on sha n r)
  by_read bs (Err at) e few_names = (refl, none)
  by_read bs (Ok f) e few_names = by_frame_rows bs f e (λ c j. few_names f c refl j) (first_some (rows sha n f)) refl

  module _ (sid : List ℕ) (label : ℕ) (values : Map Value) (confounders : List (List ℕ)) where
    by_act_rows : (p : Program) (s : Session) (o : Option ActFault) → Good (Act sid label values confounders) (acted (sent sha n.keys p s label values confounders) o)
    by_act_rows p s None = (refl, none)
    by_act_rows p s (Some fault) = (refl, none)

    by_act_program : (s : Session) (o : Option Program) → Good (Act sid label values confounders) (option_map_or (λ p. acted (sent sha n.keys p s label values confounders) (first_some (rows_of_act p s label values))) o (NotActed ActFault.UnknownSession))
    by_act_program s None = (refl, none)
    by_act_program s (Some p) = by_act_rows p s (first_some (rows_of_act p s label values))

    by_act_session : (o : Option Session) → Good (Act sid label values confounders)
        (option_map_or (λ s. option_map_or (λ p. acted (sent sha n.keys p s label values confounders) (first_some (rows_of_act p s label values))) (program_for n.programs s.cast.graph s.role) (NotActed ActFault.UnknownSession)) o (NotActed ActFault.UnknownSession))
    by_act_session None = (refl, none)
    by_act_session (Some s) = by_act_program s (program_for n.programs s.cast.graph s.role)

  by_abandon : (sid : List ℕ) (o : Option Session) → Good (Abandon sid) (option_map_or (λ s. Protocol.Abandoned) o NotAbandoned)
  by_abandon sid None = (refl, none)
  by_abandon sid (Some s) = (refl, none)

  -- the cast of a frame that was read has few names
  few_of_read : (bs : List ℕ) → IsBytes bs → (f : Frame) (c : Cast) → read bs ≡ Ok f → f.join ≡ Some c → length c.names ≤ most_roles
  few_of_read bs bytes f c r j =
      let cast = subst (λ (o : Option Cast). IfSome o (IsCastOf f.version)) j (read-SpellsFrame bs f bytes r).is_frame.fields.join in
      cast.count.1

  pub any_call : (c : Call) → IsCallInRange c → Good c (answer sha n c)
  any_call (Start c) range = by_starter c (starter n.programs c.graph) range.fields.count.1
  any_call (Act sid label values confounders) range = by_act_session sid label values confounders (session_with n.live sid)
  any_call (Abandon sid) range = by_abandon sid (session_with n.live sid)
  any_call (Deliver bs) range = by_read bs (read bs) refl (few_of_read bs range)

-- ---- acts and leavings

-- the call is an act, or the leaving of a session
abbrev pub IsOfTurn : Call → Type 0
IsOfTurn (Start c) = ⊥
IsOfTurn (Act sid label values confounders) = ⊤
IsOfTurn (Abandon sid) = ⊤
IsOfTurn (Deliver bytes) = ⊥

module _ (sha : Hash) (n : Node) where
  no_act_row : (sid : List ℕ) (label : ℕ) (values : Map Value) (confounders : List (List ℕ)) (p : Program) (s : Session) (o : Option ActFault) → join_in (acted (sent sha n.keys p s label values confounders) o) ≡ None
  no_act_row sid label values confounders p s None = refl
  no_act_row sid label values confounders p s (Some fault) = refl

  no_act_program : (sid : List ℕ) (label : ℕ) (values : Map Value) (confounders : List (List ℕ)) (s : Session) (o : Option Program) →
      join_in (option_map_or (λ p. acted (sent sha n.keys p s label values confounders) (first_some (rows_of_act p s label values))) o (NotActed ActFault.UnknownSession)) ≡ None
  no_act_program sid label values confounders s None = refl
  no_act_program sid label values confounders s (Some p) = no_act_row sid label values confounders p s (first_some (rows_of_act p s label values))

  no_act_session : (sid : List ℕ) (label : ℕ) (values : Map Value) (confounders : List (List ℕ)) (o : Option Session) →
      join_in (option_map_or (λ s. option_map_or (λ p. acted (sent sha n.keys p s label values confounders) (first_some (rows_of_act p s label values))) (program_for n.programs s.cast.graph s.role) (NotActed ActFault.UnknownSession)) o (NotActed ActFault.UnknownSession)) ≡ None
  no_act_session sid label values confounders None = refl
  no_act_session sid label values confounders (Some s) = no_act_program sid label values confounders s (program_for n.programs s.cast.graph s.role)

  no_abandon : (o : Option Session) → join_in (option_map_or (λ s. Protocol.Abandoned) o NotAbandoned) ≡ None
  no_abandon None = refl
  no_abandon (Some s) = refl

  -- such a call joins nothing
  pub turns_join_none : (c : Call) → IsOfTurn c → join_in (answer sha n c) ≡ None
  turns_join_none (Start c) h = absurd h
  turns_join_none (Act sid label values confounders) h = no_act_session sid label values confounders (session_with n.live sid)
  turns_join_none (Abandon sid) h = no_abandon (session_with n.live sid)
  turns_join_none (Deliver bytes) h = absurd h

-- ---- a past

-- one call more
pub made_more : (joins : List Join) (calls : List AnsweredCall) (c : AnsweredCall) → with_join (joins ++ joins_made calls) (join_in c.answer) ≡ joins ++ joins_made (calls ++ c ∷ [])
made_more joins calls c = by (join_in c.answer) refl
  where
    by : (o : Option Join) → join_in c.answer ≡ o → with_join (joins ++ joins_made calls) o ≡ joins ++ joins_made (calls ++ c ∷ [])
    by None e = ap (λ l. joins ++ l) (sym (flat_map-append (λ (c : AnsweredCall). option_map_or (λ j. j ∷ []) (join_in c.answer) []) calls (c ∷ []) ∙ (λ i. joins_made calls ++ (option_map_or (λ j. j ∷ []) (e i) [] ++ [])) ∙ append-nil (joins_made calls)))
    by (Some j) e = append_assoc joins (joins_made calls) (j ∷ []) ∙ ap (λ l. joins ++ l) (sym (flat_map-append (λ (c : AnsweredCall). option_map_or (λ j. j ∷ []) (join_in c.answer) []) calls (c ∷ []) ∙ (λ i. joins_made calls ++ (option_map_or (λ j. j ∷ []) (e i) [] ++ []))))

-- the calls of a past are in range, as a list is gone through
abbrev InRange : List AnsweredCall → Type 0
InRange cs = AllByRecursion (λ (c : AnsweredCall). IsCallInRange c.call) cs

joins_after_all : (sha : Hash) (n : Node) (before : List Join) (done cs : List AnsweredCall) → n.joins ≡ before ++ joins_made done → InRange cs → AreAnswers sha n cs → (node_after_all n cs).joins ≡ before ++ joins_made (done ++ cs)
joins_after_all sha n before done [] e r a = e ∙ ap (λ l. before ++ joins_made l) (sym (append-nil done))
joins_after_all sha n before done (c ∷ cs) e r a =
    let one : (node_after n c.call c.answer).joins ≡ before ++ joins_made (done ++ c ∷ []) =
    subst (λ (x : Answer). (node_after n c.call x).joins ≡ with_join n.joins (join_in x)) (sym a.0) (any_call sha n c.call r.0).0 ∙ ap (λ js. with_join js (join_in c.answer)) e ∙ made_more before done c in
    joins_after_all sha (node_after n c.call c.answer) before (done ++ c ∷ []) cs one r.1 a.1 ∙ ap (λ l. before ++ joins_made l) (append_assoc done (c ∷ []) cs)

-- the joins of a node are those that it was made with, and then those that its calls made
pub joins_of_node : (past : Past) → IsAnsweredPast past → (node_of past).joins ≡ past.first ++ joins_made past.calls
joins_of_node past reported =
    joins_after_all real (new_node past.keys past.programs past.first) past.first [] past.calls (sym (append-nil past.first)) (recursion_from_All (λ (c : AnsweredCall). IsCallInRange c.call) past.calls reported.calls) reported.answers

-- and after a call, with the one that the answer says
pub joins_with : (past : Past) (c : Call) → IsCallInRange c → (node_of (past_after real past c)).joins ≡ with_join (node_of past).joins (join_in (answer real (node_of past) c))
joins_with past c range = ap (λ (m : Node). m.joins) (node_more (new_node past.keys past.programs past.first) past.calls (record { call = c; answer = answer real (node_of past) c })) ∙ (any_call real (node_of past) c range).0
