use Rattle.std.proofs.Common.{List, Option, Err, ap, ◌∙◌, subst}
use Rattle.sg_model.specs.Lists.{first_some}
use Rattle.sg_protocol.specs.Calls.{SendFault}
use Rattle.sg_walk.specs.Model.{values_of}
use Rattle.sg_role.specs.Faults.{RefusesToSend}
use Rattle.sg_role.specs.Invariant.{HoldsTurn}
use Rattle.sg_role.specs.Model.{RoleState, state_of}
use Rattle.sg_role.specs.Stepping.{send_rows}
use Rattle.sg_role.proofs.StepLaws.{rows_held}
use Rattle.sg_role.proofs.TurnSteps.{accepts, waits, frame_is, state_is, notes_are}
use Rattle.sg_role.proofs.turn.Turn.send.Goals as goal

pub returns-in-Err-clause-refused : goal.returns-in-Err-clause-refused
returns-in-Err-clause-refused c = λ s represents.
    let vs = values_of c.args.values.now in
    subst (λ (rows : List (Option SendFault)). RefusesToSend (first_some rows) c.in-Err.fault) (rows_held c.args.keys.now c.args.self.program c.args.self.held s represents.holds c.args.label vs)
    (subst (λ (z : RoleState). RefusesToSend (first_some (send_rows z.program z.held c.args.label vs)) c.in-Err.fault) (ap state_of c.as_ref-kept.ensures ∙ c.self.view_is) c.in-Err.ensures.wrong)

pub returns-in-Err-clause-memory : goal.returns-in-Err-clause-memory
returns-in-Err-clause-memory c = λ s represents lacks. absurd (c.in-Err.ensures.early (ap Err lacks))

pub returns-clause-memory : goal.returns-clause-memory
returns-clause-memory c = λ s represents lacks.
    accepts c.args.keys.now (state_of c.as_ref-kept.result.now) c.args.self (ap state_of c.as_ref-kept.ensures ∙ c.self.view_is) (subst HoldsTurn c.self.view_is c.self.invariant)
    c.args.label (values_of c.args.values.now) c.args.confounders.now c.in_default.ensures.right c.facts.ensures.program c.facts.ensures.values s represents

pub after_step-requires : goal.after_step-requires
after_step-requires c =
    waits c.args.keys.now (state_of c.as_ref-kept.result.now) c.args.self (ap state_of c.as_ref-kept.ensures ∙ c.self.view_is) (subst HoldsTurn c.self.view_is c.self.invariant)
    c.args.label (values_of c.args.values.now) c.args.confounders.now c.in_default.ensures.right c.facts.ensures.program c.facts.ensures.values
    (state_of c.in-Ok.step.kept.value) c.in-Ok.ensures.state

pub returns-in-Ok-clause-accepted : goal.returns-in-Ok-clause-accepted
returns-in-Ok-clause-accepted c = λ s represents.
    accepts c.args.keys.now (state_of c.as_ref-kept.result.now) c.args.self (ap state_of c.as_ref-kept.ensures ∙ c.self.view_is) (subst HoldsTurn c.self.view_is c.self.invariant)
    c.args.label (values_of c.args.values.now) c.args.confounders.now c.in_default.ensures.right c.facts.ensures.program c.facts.ensures.values s represents

pub returns-in-Ok-clause-frame : goal.returns-in-Ok-clause-frame
returns-in-Ok-clause-frame c = λ s represents.
    c.after_step.ensures.frame ∙ c.in-Ok.ensures.frame
    ∙ frame_is c.args.keys.now (state_of c.as_ref-kept.result.now) c.args.self (ap state_of c.as_ref-kept.ensures ∙ c.self.view_is) (subst HoldsTurn c.self.view_is c.self.invariant)
    c.args.label (values_of c.args.values.now) c.args.confounders.now c.in_default.ensures.right c.facts.ensures.program c.facts.ensures.values s represents

pub returns-in-Ok-clause-state : goal.returns-in-Ok-clause-state
returns-in-Ok-clause-state c = λ s represents.
    state_is c.args.keys.now (state_of c.as_ref-kept.result.now) c.args.self (ap state_of c.as_ref-kept.ensures ∙ c.self.view_is) (subst HoldsTurn c.self.view_is c.self.invariant)
    c.args.label (values_of c.args.values.now) c.args.confounders.now c.in_default.ensures.right c.facts.ensures.program c.facts.ensures.values s represents
    (state_of c.in-Ok.step.kept.value) c.after_step.result c.in-Ok.ensures.state c.after_step.ensures.state

pub returns-in-Ok-clause-notes : goal.returns-in-Ok-clause-notes
returns-in-Ok-clause-notes c = λ s represents.
    c.in-Ok.ensures.noted
    ∙ notes_are c.args.keys.now (state_of c.as_ref-kept.result.now) c.args.self (ap state_of c.as_ref-kept.ensures ∙ c.self.view_is) (subst HoldsTurn c.self.view_is c.self.invariant)
    c.args.label (values_of c.args.values.now) c.args.confounders.now c.in_default.ensures.right c.facts.ensures.program c.facts.ensures.values s represents c.args.notes.now
