use Rattle.std.proofs.Common.{◌↔◌, map, refl, sym, subst, arith}
use Rattle.sg_protocol.specs.Walk.{IsStoredWalk}
use Rattle.sg_walk.specs.Model.{step_of, steps_of}
use Rattle.sg_explain.proofs.Steps.{StepsFrom, whole, steps_on, steps_end}
use Rattle.sg_explain.proofs.part.walked.is_stored_walk.Goals as goal

pub loop-step-init : goal.loop-step-init
loop-step-init c =
    subst (λ xs. IsStoredWalk c.args.graph.now (steps_of c.args.walk.now) ↔ StepsFrom c.args.graph.now 0 (map step_of xs)) (sym c.as_slice-steps.ensures) (whole c.args.graph.now (steps_of c.args.walk.now))

pub loop-step-preserved : goal.loop-step-preserved
loop-step-preserved c =
    steps_on (IsStoredWalk c.args.graph.now (steps_of c.args.walk.now)) c.args.graph.now c.loop-step.at c.in-Some.next c.as_slice-steps.result.now c.loop-step.step-index c.step-item.result
    c.loop-step-test.true c.step-item.is c.in-Some.ensures.0 c.in-Some.ensures.1 c.loop-step.invariant

pub returns : goal.returns
returns c =
    let w = steps_end (IsStoredWalk c.args.graph.now (steps_of c.args.walk.now)) c.args.graph.now c.loop-step.at c.as_slice-steps.result.now c.loop-step.step-index (omega arith) c.loop-step.invariant in
    (λ t. w, λ h. refl)
