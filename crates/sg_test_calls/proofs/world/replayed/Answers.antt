use Rattle.std.proofs.Common.{◌≤◌, ◌≡◌, ◌<◌, ◌+◌, ℕ, List, [], ◌∷◌, map, length, get_or, refl, ap, sym, subst, ◌∙◌, arith}
use Rattle.std.proofs.Math.ListN.{get_or-map}
use Rattle.std.proofs.lemmas.List.{length-append, length-map}
use Rattle.sg_model.specs.Limits.{most_steps}
use Rattle.sg_protocol.specs.Schedule as Protocol
use Rattle.sg_protocol.specs.Schedule.{Schedule}
use Rattle.sg_sched_text.specs.Meant.{IsMeant, SameDeclared}
use Rattle.sg_sched.specs.Format.StepsHeld.{step_of}
use Rattle.sg_sched.specs.declared.step.Step.{Step}
use Rattle.sg_sched.specs.Steps.{CanBeTaken}
use Rattle.sg_setting.specs.Replay.{Replay}
use Rattle.sg_test_calls.proofs.world.replayed.Goals as goal

-- step i of the schedule is the one that is held, in a world with as many steps
module _ (s t : Schedule) (items : List Step) (i : ℕ) (x : Step) (meant : IsMeant s) (same : SameDeclared s t) (taken : length t.steps ≡ i) (all : map step_of items ≡ s.steps) (h : i < length items) (at : x ≡ get_or items i x) where
  count : length items ≡ length s.steps
  count = sym (length-map items step_of) ∙ ap (λ (xs : List Protocol.Step). length xs) all

  here : get_or s.steps i (step_of x) ≡ step_of x
  here = ap (λ l. get_or l i (step_of x)) (sym all) ∙ get_or-map step_of items i x ∙ ap step_of (sym at)

  room : length t.steps < most_steps
  room = let few : length s.steps ≤ most_steps = meant.few in omega (arith, few, h, count, taken)

  can : CanBeTaken t (step_of x)
  can = subst (λ y. CanBeTaken t y) here (meant.steps i (step_of x) (omega (arith, h, count)) t same)

pub steps-init : goal.steps-init
steps-init c =
    let p = subst (λ (r : Replay). SameDeclared c.args.schedule.now r.schedule × (length r.schedule.steps ≡ 0)) (sym c.in_ok-world.ensures) (record { graphs = refl; sessions = refl }, refl) in
    (p.0, p.1, ap (map step_of) c.as_slice-next-items.ensures ∙ ap (λ (s : Schedule). s.steps) c.schedule.view_is)

pub step-requires-clause-room : goal.step-requires-clause-room
step-requires-clause-room c =
    let i = c.steps.invariant in
    room c.args.schedule.now c.steps.world.schedule c.as_slice-next-items.result.now c.steps.next-index c.next-item.result c.requires.meant i.0 i.1 i.2 c.steps-test.true c.next-item.is

pub step-requires-clause-step : goal.step-requires-clause-step
step-requires-clause-step c =
    let i = c.steps.invariant in
    can c.args.schedule.now c.steps.world.schedule c.as_slice-next-items.result.now c.steps.next-index c.next-item.result c.requires.meant i.0 i.1 i.2 c.steps-test.true c.next-item.is

pub steps-preserved : goal.steps-preserved
steps-preserved c =
    let i = c.steps.invariant in
    let p = subst (λ (r : Replay). SameDeclared c.args.schedule.now r.schedule × (length r.schedule.steps ≡ c.steps.next-index + 1)) (sym c.in_ok-step.ensures.taken)
    (record { graphs = i.0.graphs; sessions = i.0.sessions }, (let a = length-append c.steps.world.schedule.steps (step_of c.next-item.result ∷ []) in let n = i.1 in omega (arith, a, n))) in
    (p.0, p.1, i.2)
