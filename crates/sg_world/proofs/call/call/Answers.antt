use Rattle.std.proofs.Common.{ℕ, ◌+◌, length, map, option_map, OnOk, refl, sym, ◌∙◌, ap, subst}
use Rattle.sg_model.specs.Last.{Map}
use Rattle.sg_model.specs.Values.{Value}
use Rattle.sg_base.specs.declared.value.Value.{Value as Held}
use Rattle.sg_protocol.specs.Calls.{Start, Act, Deliver}
use Rattle.sg_protocol.specs.Schedule.{confounder}
use Rattle.sg_protocol.specs.Texts.{real}
use Rattle.sg_protocol.specs.World.{bytes_of, call_of}
use Rattle.sg_sched.specs.Format.StepsHeld.{step_of, what_of}
use Rattle.sg_sched.specs.declared.step.Step.{Step}
use Rattle.sg_walk.specs.Model.{values_of}
use Rattle.sg_world.specs.StepResults.{IsResult, IsResultOfCall, IsResultOfStep}
use Rattle.sg_world.proofs.Called.{are_sixteen, results_act, results_start, if_is_ok}
use Rattle.sg_world.proofs.call.call.Goals as goal

pub act-requires-clause-bytes : goal.act-requires-clause-bytes
act-requires-clause-bytes c = are_sixteen c.args.number (values_of c.as_slice.result.now) c.as_slice-in-Act-2.result.now (c.as_slice-in-Act-2.ensures.value ∙ c.in_ok-confounders-in-Act.ensures)

pub returns-in-Start-clause-is_result : goal.returns-in-Start-clause-is_result
returns-in-Start-clause-is_result c = if_is_ok (IsResultOfStep c.args.setting.now.sessions c.args.recorded.now c.args.number (step_of c.args.step.now) c.args.node.now c.start.new.node c.start.new.step_result) c.start.result
    (λ x e s w past same are represents.
    let number = length c.args.recorded.now + 1 in
    let performed = subst (λ r. OnOk r (IsResultOfCall number c.args.node.now c.start.new.node past (Start c.cast.result) c.start.new.step_result)) e (c.start.ensures.is_result number past represents) in
    subst (λ (z : Step). IsResult number c.args.node.now c.start.new.node past (call_of real s w c.args.number (step_of z)) c.start.new.step_result) (sym c.in-Start.is)
    (results_start s w c.args.number number c.in-Start.who c.in-Start.session c.args.setting.now.sessions c.cast.result c.args.node.now c.start.new.node past c.start.new.step_result same c.cast.ensures performed))

pub returns-in_ok-confounders-in-Act-clause-is_result : goal.returns-in_ok-confounders-in-Act-clause-is_result
returns-in_ok-confounders-in-Act-clause-is_result c = if_is_ok (IsResultOfStep c.args.setting.now.sessions c.args.recorded.now c.args.number (step_of c.args.step.now) c.args.node.now c.act.new.node c.act.new.step_result) c.act.result
    (λ x e s w past same are represents.
    let number = length c.args.recorded.now + 1 in
    let given = subst (λ r. OnOk r (IsResultOfCall c.next_frame.result c.args.node.now c.act.new.node past (Act c.sid.result c.in-Act.label (values_of c.as_slice-in-Act.result.now) c.as_slice-in-Act-2.result.now) c.act.new.step_result)) e (c.act.ensures.is_result past represents) in
    let performed = subst (λ (n : ℕ). IsResultOfCall n c.args.node.now c.act.new.node past (Act c.sid.result c.in-Act.label (values_of c.as_slice-in-Act.result.now) c.as_slice-in-Act-2.result.now) c.act.new.step_result) c.next_frame.ensures given in
    let performed2 = subst (λ (vs : Map Held). IsResultOfCall number c.args.node.now c.act.new.node past (Act c.sid.result c.in-Act.label (values_of vs) c.as_slice-in-Act-2.result.now) c.act.new.step_result) c.as_slice-in-Act.ensures performed in
    subst (λ (z : Step). IsResult number c.args.node.now c.act.new.node past (call_of real s w c.args.number (step_of z)) c.act.new.step_result) (sym c.in-Act.is)
    (results_act s w c.args.number number c.in-Act.who c.in-Act.session c.in-Act.label (values_of c.in-Act.values) c.args.setting.now.sessions c.sid.result c.as_slice-in-Act-2.result.now c.args.node.now c.act.new.node past c.act.new.step_result same c.sid.ensures
    (c.as_slice-in-Act-2.ensures.value ∙ c.in_ok-confounders-in-Act.ensures ∙ ap (λ (vs : Map Held). map (λ (v : ℕ × Value). confounder c.args.number v.0) (values_of vs)) c.as_slice.ensures) performed2))

pub returns-in-Craft-clause-is_result : goal.returns-in-Craft-clause-is_result
returns-in-Craft-clause-is_result c = λ s w past same are represents.
    subst (λ (z : Step). IsResult (length c.args.recorded.now + 1) c.args.node.now c.args.node.now past (call_of real s w c.args.number (step_of z)) c.args.step_result.now) (sym c.in-Craft.is) (c.requires.blank, refl)

pub returns-in-Deliver-clause-is_result : goal.returns-in-Deliver-clause-is_result
returns-in-Deliver-clause-is_result c = if_is_ok (IsResultOfStep c.args.setting.now.sessions c.args.recorded.now c.args.number (step_of c.args.step.now) c.args.node.now c.deliver_what.new.node c.deliver_what.new.step_result) c.deliver_what.result
    (λ x e s w past same are represents.
    let number = length c.args.recorded.now + 1 in
    let performed = subst (λ r. OnOk r (IsResult number c.args.node.now c.deliver_what.new.node past (option_map Deliver (bytes_of w (what_of c.in-Deliver.what))) c.deliver_what.new.step_result)) e (c.deliver_what.ensures.is_result number w past are represents) in
    subst (λ (z : Step). IsResult number c.args.node.now c.deliver_what.new.node past (call_of real s w c.args.number (step_of z)) c.deliver_what.new.step_result) (sym c.in-Deliver.is) performed)
