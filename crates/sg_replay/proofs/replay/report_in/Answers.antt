use Rattle.std.proofs.Common.{◌≡◌, ◌<◌, true, map, length, ap, sym, subst, ◌∙◌, arith}
use Rattle.std.proofs.lemmas.Result.{err_from_is_err_and}
use Rattle.sg_model.specs.Limits.{most_steps}
use Rattle.sg_protocol.specs.Schedule.{Schedule}
use Rattle.sg_protocol.specs.Steps.{is_taken}
use Rattle.sg_sched.specs.Format.StepsHeld.{step_of}
use Rattle.sg_sched.specs.Steps.{CanBeTaken}
use Rattle.sg_setting.specs.Replay.{Replay, with_taken}
use Rattle.sg_ending.specs.Model.{ending_held}
use Rattle.sg_replay.proofs.Replaying.{none_more, reports, stops}
use Rattle.sg_replay.proofs.Steps.{all_taken, begins, can_be_taken, honest, more, room, whole}
use Rattle.sg_replay.proofs.replay.report_in.Goals as goal

pub steps-init : goal.steps-init
steps-init c = (
  ap (λ s. record c.args.world.now { schedule = s }) c.requires.declared,
  ap (map step_of) c.as_slice-step-items.ensures ∙ ap (λ (s : Schedule). s.steps) c.schedule.view_is,
  λ k l full. absurd (omega (arith, l)),
)

pub take-requires-clause-few : goal.take-requires-clause-few
take-requires-clause-few c =
    let i = c.steps.invariant in
    subst (λ (r : Replay). length r.schedule.steps < most_steps) (sym i.0) (room c.args.schedule.now c.as_slice-step-items.result.now c.steps.step-index c.step-item.result i.1 c.steps-test.true c.step-item.is c.requires.can)

pub take-requires-clause-step : goal.take-requires-clause-step
take-requires-clause-step c =
    let i = c.steps.invariant in
    subst (λ (r : Replay). CanBeTaken r.schedule (step_of c.step-item.result)) (sym i.0)
    (can_be_taken c.args.schedule.now c.as_slice-step-items.result.now c.steps.step-index c.step-item.result i.1 c.steps-test.true c.step-item.is c.requires.can)

pub take-requires-clause-honest : goal.take-requires-clause-honest
take-requires-clause-honest c =
    let i = c.steps.invariant in
    subst (λ (r : Replay). is_taken r.schedule (step_of c.step-item.result) ≡ true) (sym i.0)
    (honest c.args.schedule.now c.as_slice-step-items.result.now c.steps.step-index c.step-item.result i.1 c.steps-test.true c.step-item.is c.requires.can)

pub returns-in_err-take-clause-stops : goal.returns-in_err-take-clause-stops
returns-in_err-take-clause-stops c =
    let i = c.steps.invariant in
    let p = err_from_is_err_and c.from_residual.result c.from_residual.ensures.1 in
    rw (p.1, p.2) (stops c.args.world.now.programs c.args.schedule.now c.steps.step-index c.steps.world (ending_held c.in_err-take.field-0.0) i.0
    (begins c.args.schedule.now c.as_slice-step-items.result.now c.steps.step-index c.step-item.result i.1 c.steps-test.true c.step-item.is) c.in_err-take.ensures.full)

pub steps-preserved : goal.steps-preserved
steps-preserved c =
    let i = c.steps.invariant in (
      c.in_ok-take.ensures.taken ∙ ap (λ r. with_taken r (step_of c.step-item.result)) i.0
          ∙ more c.args.schedule.now c.as_slice-step-items.result.now c.steps.step-index c.step-item.result i.1 c.steps-test.true c.step-item.is c.args.world.now.programs,
      i.1,
      none_more c.args.world.now.programs c.args.schedule.now c.steps.step-index c.steps.world i.0 i.2 c.in_ok-take.ensures.room,
    )

pub returns-in-Ok-clause-reports : goal.returns-in-Ok-clause-reports
returns-in-Ok-clause-reports c =
    let i = c.steps.invariant in
    let all = all_taken c.args.schedule.now c.as_slice-step-items.result.now c.steps.step-index i.1 c.steps-test.false in
    reports c.args.world.now.programs c.args.schedule.now c.steps.step-index c.steps.world c.in-Ok.text.items (i.0 ∙ whole c.args.world.now.programs c.args.schedule.now c.steps.step-index all) all i.2 c.in-Ok.ensures c.runs_of_replays.ensures
    (record { compiled = c.requires.compiled; schedule = c.requires.can.meant.schedule })
