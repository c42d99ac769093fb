-- A step that a turn makes: what is sent, what waits afterwards and what is noted, in each session that the turn represents.
use Rattle.std.proofs.Common.{◌≡◌, ℕ, List, None, sym, ◌∙◌, ap, subst}
use Rattle.sg_model.specs.Last.{Map}
use Rattle.sg_model.specs.Lists.{first_some}
use Rattle.sg_model.specs.Shape.{receiver}
use Rattle.sg_model.specs.Values.{Value, Opening}
use Rattle.sg_protocol.specs.Acting.{openings_for, rows_of_send}
use Rattle.sg_protocol.specs.Graph.{shape}
use Rattle.sg_protocol.specs.IsSchedule.{IsProgram}
use Rattle.sg_protocol.specs.Keyring.{Keyring, may_return}
use Rattle.sg_protocol.specs.Notes.{Notes, notes_of_sent}
use Rattle.sg_protocol.specs.Ranges.{AreValues}
use Rattle.sg_protocol.specs.Representation.{RepresentsAtTurn, held_after}
use Rattle.sg_protocol.specs.Sending.{frame_sent, own_item}
use Rattle.sg_protocol.specs.Session.{Session, Gave, principal}
use Rattle.sg_protocol.specs.Spelling.{spelling}
use Rattle.sg_protocol.specs.Texts.{real}
use Rattle.sg_role.specs.Invariant.{HoldsTurn, HoldsWaiting}
use Rattle.sg_role.specs.Model.{RoleState}
use Rattle.sg_role.specs.Sending.{WaitsOrEnds, with_notes}
use Rattle.sg_role.specs.Stepping.{send_rows, step_frame, step_held, step_notes}
use Rattle.sg_role.specs.declared.sent.Sent.{Sent}
use Rattle.sg_role.proofs.NextLaws.{next_waits, next_represents}
use Rattle.sg_role.proofs.SendLaws.{shows_own}
use Rattle.sg_role.proofs.StepLaws.{rows_held, frame_held, notes_held}

-- the step is made by a state that is the turn's
module _ (keys : Keyring) (z turn : RoleState) (same : z ≡ turn) (holds : HoldsTurn turn) (label : ℕ) (values : Map Value) (confounders : List (List ℕ))
    (none : first_some (send_rows z.program z.held label values) ≡ None) (its : IsProgram real z.program) (are : AreValues values confounders) where
  abbrev written : List Opening
  written = openings_for values confounders

  passed : first_some (send_rows turn.program turn.held label values) ≡ None
  passed = subst (λ (z : RoleState). first_some (send_rows z.program z.held label values) ≡ None) same none

  program : IsProgram real turn.program
  program = subst (λ (z : RoleState). IsProgram real z.program) same its

  -- what waits after the step
  abbrev after : RoleState → RoleState
  after z = record { program = z.program; held = step_held keys z.program z.held label written }

  pub waits : (made : RoleState) → made ≡ after z → HoldsWaiting made
  waits made e = subst HoldsWaiting (sym (e ∙ ap after same))
      (record { counted = holds.counted; reachable = next_waits keys turn.program turn.held label values confounders program holds.reachable passed are })

  -- the frame with its receiver
  abbrev sealed : RoleState → List ℕ × List ℕ
  sealed z = (principal z.held.cast (receiver (shape z.program.graph) label), spelling (step_frame keys z.program z.held label written))

  module _ (s : Session) (represents : RepresentsAtTurn turn.program.graph turn.held s) where
    pub accepts : first_some (rows_of_send turn.program s label values) ≡ None
    accepts = ap first_some (sym (rows_held keys turn.program turn.held s represents.holds label values)) ∙ passed

    abbrev sealed_in : List ℕ × List ℕ
    sealed_in = (principal s.cast (receiver (shape turn.program.graph) label), spelling (frame_sent real keys turn.program s label written))

    pub frame_is : sealed z ≡ sealed_in
    frame_is = ap sealed same
        ∙ (λ j. (principal (represents.holds j).cast (receiver (shape turn.program.graph) label), spelling (frame_held keys turn.program turn.held s represents.holds label written program.is_graph j)))

    pub state_is : (made : RoleState) (sent : Sent) → made ≡ after z → WaitsOrEnds (may_return made.program label) made sent
        → WaitsOrEnds (may_return turn.program label) (record { program = turn.program; held = held_after turn.program.graph turn.held (Gave (own_item real keys turn.program s label written) written) }) sent
    state_is made sent e ends = next_represents keys turn.program turn.held label values confounders program holds.reachable s represents sent
        (subst (λ (z : RoleState). WaitsOrEnds (may_return z.program label) z sent) (e ∙ ap after same) ends)

    pub notes_are : (old : Notes) → with_notes old (step_notes keys z.program z.held label written) ≡ with_notes old (notes_of_sent keys turn.program s (frame_sent real keys turn.program s label written) written)
    notes_are old = ap (λ (z : RoleState). with_notes old (step_notes keys z.program z.held label written)) same
        ∙ ap (with_notes old) (notes_held keys turn.program turn.held s represents.holds label written program.is_graph (shows_own keys turn.program turn.held label values confounders program holds.reachable passed are s represents))
