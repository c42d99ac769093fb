-- The joins of a node after its calls.
use Rattle.std.specs.Prelude.{◌≡◌, ℕ, true, false, List, [], ◌∷◌, ◌++◌, map, refl, Option, Some, None, unwrap_or, Result, Ok, Err}
use Rattle.std.specs.Option.{option_map_or}
use Rattle.std.proofs.Common.{ap, sym, ◌∙◌, subst, append_assoc, append-nil}
use Rattle.sg_joins.specs.Joins.{join_in, join_of, joins_made, with_join}
use Rattle.sg_ledger.specs.Format.{Join}
use Rattle.sg_model.specs.Last.{Map}
use Rattle.sg_model.specs.Lists.{first_some}
use Rattle.sg_model.specs.Values.{Value}
use Rattle.sg_protocol.specs.Acting.{answer, acted, rows_of_act, rows_of_start, sent, started}
use Rattle.sg_protocol.specs.Calls as Protocol
use Rattle.sg_protocol.specs.Calls.{Received, Call, Answer, Start, Act, Abandon, Deliver, NotStarted, NotActed, NotAbandoned, Refusal, StartFault, ActFault}
use Rattle.sg_protocol.specs.Frame.{Cast, Frame}
use Rattle.sg_protocol.specs.Keyring.{Program}
use Rattle.sg_protocol.specs.Node.{Node, is_for, program_for, session_with, starter}
use Rattle.sg_protocol.specs.NodeAfter.{goes_on, joined, node_after, still, takes_read}
use Rattle.sg_protocol.specs.Past.{AreAnswers, AnsweredCall, node_after_all}
use Rattle.sg_protocol.specs.Reading.{read}
use Rattle.sg_protocol.specs.Session.{Session, Took, extended, last_label, last_time, new_session}
use Rattle.sg_protocol.specs.Texts.{Hash, session_id}
use Rattle.sg_protocol.specs.Verdict.{decided, receipt, rows, verdict_on}

module _ (sha : Hash) (n : Node) where
  -- the joins afterwards are those from before, with the one of the answer
  abbrev Joins : Call → Answer → Type 0
  Joins c a = (node_after n c a).joins ≡ with_join n.joins (join_in a)

  by_start_rows : (c : Cast) (p : Program) (o : Option StartFault) → Joins (Start c) (started (session_id sha c) p.role o)
  by_start_rows c p None = refl
  by_start_rows c p (Some fault) = refl

  by_starter : (c : Cast) (o : Option Program) → Joins (Start c) (option_map_or (λ p. started (session_id sha c) p.role (first_some (rows_of_start n p (session_id sha c) c))) o (NotStarted StartFault.UnknownGraph))
  by_starter c None = refl
  by_starter c (Some p) = by_start_rows c p (first_some (rows_of_start n p (session_id sha c) c))

  taken_joins : (f : Frame) (label time : ℕ) (values : Map Value) (o : Option Cast) →
      (option_map_or (λ c. joined n (extended (new_session f.sid c f.receiver) (Took f))) o (goes_on n (is_for f) (λ s. still n.programs (extended s (Took f))))).joins
      ≡ with_join n.joins (join_of (Received f.sid f.receiver label time values (option_map_or (λ c. true) o false)))
  taken_joins f label time values None = refl
  taken_joins f label time values (Some c) = refl

  by_frame_rows : (bs : List ℕ) (f : Frame) → read bs ≡ Ok f → (o : Option Refusal) → Joins (Deliver bs) (decided (receipt f) o)
  by_frame_rows bs f r None = ap (λ (x : Result Frame ℕ). (takes_read n x).joins) r ∙ taken_joins f (unwrap_or (last_label f.items) 0) (last_time f.items) (map (λ o. (o.variable, o.value)) f.openings) f.join
  by_frame_rows bs f r (Some refusal) = refl

  by_read : (bs : List ℕ) (r : Result Frame ℕ) → read bs ≡ r → Joins (Deliver bs) (verdict_on sha n r)
  by_read bs (Err at) e = refl
  by_read bs (Ok f) e = by_frame_rows bs f e (first_some (rows sha n f))

  module _ (sid : List ℕ) (label : ℕ) (values : Map Value) (confounders : List (List ℕ)) where
    by_act_rows : (p : Program) (s : Session) (o : Option ActFault) → Joins (Act sid label values confounders) (acted (sent sha n.keys p s label values confounders) o)
    by_act_rows p s None = refl
    by_act_rows p s (Some fault) = refl

    by_act_program : (s : Session) (o : Option Program) → Joins (Act sid label values confounders) (option_map_or (λ p. acted (sent sha n.keys p s label values confounders) (first_some (rows_of_act p s label values))) o (NotActed ActFault.UnknownSession))
    by_act_program s None = refl
    by_act_program s (Some p) = by_act_rows p s (first_some (rows_of_act p s label values))

    by_act_session : (o : Option Session) → Joins (Act sid label values confounders)
        (option_map_or (λ s. option_map_or (λ p. acted (sent sha n.keys p s label values confounders) (first_some (rows_of_act p s label values))) (program_for n.programs s.cast.graph s.role) (NotActed ActFault.UnknownSession)) o (NotActed ActFault.UnknownSession))
    by_act_session None = refl
    by_act_session (Some s) = by_act_program s (program_for n.programs s.cast.graph s.role)

  by_abandon : (sid : List ℕ) (o : Option Session) → Joins (Abandon sid) (option_map_or (λ s. Protocol.Abandoned) o NotAbandoned)
  by_abandon sid None = refl
  by_abandon sid (Some s) = refl

  joins_after : (c : Call) → Joins c (answer sha n c)
  joins_after (Start c) = by_starter c (starter n.programs c.graph)
  joins_after (Act sid label values confounders) = by_act_session sid label values confounders (session_with n.live sid)
  joins_after (Abandon sid) = by_abandon sid (session_with n.live sid)
  joins_after (Deliver bs) = by_read bs (read bs) refl

-- the joins of a call
abbrev joins_of_call : AnsweredCall → List Join
joins_of_call c = option_map_or (λ j. j ∷ []) (join_in c.answer) []

one_with : (joins : List Join) (o : Option Join) → with_join joins o ≡ joins ++ option_map_or (λ j. j ∷ []) o []
one_with joins None = sym (append-nil joins)
one_with joins (Some j) = refl

-- a node's joins after its calls are those from before, and then those that the calls made
pub joins_after_all : (sha : Hash) (n : Node) (cs : List AnsweredCall) → AreAnswers sha n cs → (node_after_all n cs).joins ≡ n.joins ++ joins_made cs
joins_after_all sha n [] a = sym (append-nil n.joins)
joins_after_all sha n (c ∷ cs) a =
    let now : Node = node_after n c.call c.answer in
    let one : now.joins ≡ n.joins ++ joins_of_call c = subst (λ (x : Answer). (node_after n c.call x).joins ≡ with_join n.joins (join_in x)) (sym a.0) (joins_after sha n c.call) ∙ one_with n.joins (join_in c.answer) in
    joins_after_all sha now cs a.1 ∙ ap (λ js. js ++ joins_made cs) one ∙ append_assoc n.joins (joins_of_call c) (joins_made cs)
