use Rattle.sg_walk.specs.Model.{values_of}
use Rattle.sg_role.specs.Model.{state_of}
use Rattle.sg_role.proofs.MadeSteps.{short_made, sealed_made, notes_made, state_made}
use Rattle.sg_role.proofs.NextLaws.{time_left}
use Rattle.sg_role.proofs.Walked.{extends_same}
use Rattle.sg_role.proofs.step.make_step.Goals as goal

pub returns-in_err-written-clause-keeps : goal.returns-in_err-written-clause-keeps
returns-in_err-written-clause-keeps c = extends_same c.args.notes.now

pub returns-in_err-event-clause-keeps : goal.returns-in_err-event-clause-keeps
returns-in_err-event-clause-keeps c = extends_same c.args.notes.now

pub seal-requires-clause-spelled : goal.seal-requires-clause-spelled
seal-requires-clause-spelled c =
    (short_made c.args.keys.now c.args.kept.now.program.now (state_of c.args.kept.now).held c.args.label (values_of c.args.values.now) c.args.confounders.now
    c.in_ok-written.written.items c.in_ok-written.ensures c.as_slice.result.now c.as_slice.ensures.value c.in_ok-items.items.items c.in_ok-items.ensures.items
    c.in_ok-frame.frame c.in_ok-frame.ensures.frame c.in_ok-items.ensures.program c.requires.turn.reachable c.requires.none c.facts_of_values.ensures).spelled

pub seal-requires-clause-short : goal.seal-requires-clause-short
seal-requires-clause-short c =
    short_made c.args.keys.now c.args.kept.now.program.now (state_of c.args.kept.now).held c.args.label (values_of c.args.values.now) c.args.confounders.now
    c.in_ok-written.written.items c.in_ok-written.ensures c.as_slice.result.now c.as_slice.ensures.value c.in_ok-items.items.items c.in_ok-items.ensures.items
    c.in_ok-frame.frame c.in_ok-frame.ensures.frame c.in_ok-items.ensures.program c.requires.turn.reachable c.requires.none c.facts_of_values.ensures

pub frame_and_next-requires-clause-time : goal.frame_and_next-requires-clause-time
frame_and_next-requires-clause-time c = time_left c.args.kept.now.program.now (state_of c.args.kept.now).held c.args.label (values_of c.args.values.now) c.requires.none

pub returns-clause-state : goal.returns-clause-state
returns-clause-state c =
    state_made c.args.keys.now c.args.kept.now.program.now (state_of c.args.kept.now).held c.args.label (values_of c.args.values.now) c.args.confounders.now
    c.in_ok-written.written.items c.in_ok-written.ensures c.as_slice.result.now c.as_slice.ensures.value c.in_ok-items.items.items c.in_ok-items.ensures.items
    _ _ c.in_ok-items.ensures.commitments c.in_ok-frame.ensures.state

pub returns-clause-frame : goal.returns-clause-frame
returns-clause-frame c =
    sealed_made c.args.keys.now c.args.kept.now.program.now (state_of c.args.kept.now).held c.args.label (values_of c.args.values.now) c.args.confounders.now
    c.in_ok-written.written.items c.in_ok-written.ensures c.as_slice.result.now c.as_slice.ensures.value c.in_ok-items.items.items c.in_ok-items.ensures.items
    c.in_ok-frame.frame c.in_ok-frame.ensures.frame _ c.in_ok-sealed.ensures.sealed

pub returns-clause-noted : goal.returns-clause-noted
returns-clause-noted c =
    notes_made c.args.keys.now c.args.kept.now.program.now (state_of c.args.kept.now).held c.args.label (values_of c.args.values.now) c.args.confounders.now
    c.in_ok-written.written.items c.in_ok-written.ensures c.as_slice.result.now c.as_slice.ensures.value c.in_ok-items.items.items c.in_ok-items.ensures.items
    c.in_ok-frame.frame c.in_ok-frame.ensures.frame c.args.notes.now _ _ c.in_ok-items.ensures.noted c.in_ok-sealed.ensures.noted
