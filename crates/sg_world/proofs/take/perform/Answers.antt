use Rattle.std.proofs.Common.{◌≡◌, ℕ, ◌+◌, List, Option, None, Some, OnOk, OnErr, length, refl, sym, ◌∙◌, ap, subst}
use Rattle.indexmap.specs.IndexMap.{set_value_at}
use Rattle.sg_protocol.specs.NodeStates.{NodeState}
use Rattle.sg_sched.specs.Format.StepsHeld.{step_of}
use Rattle.sg_certify.proofs.Taking.{on_err}
use Rattle.sg_world.specs.Crafts.{IsResultAtIndex, IsResultOfCrafting}
use Rattle.sg_world.specs.StepResults.{IsResultAt, IsResultOfStep}
use Rattle.sg_world.proofs.ByName.{entry_at}
use Rattle.sg_world.proofs.Called.{if_is_ok}
use Rattle.sg_world.proofs.Goes.{same_value}
use Rattle.sg_world.proofs.take.perform.Goals as goal

-- the node at its index has made the call
pub returns-in-Some-clause-is_result : goal.returns-in-Some-clause-is_result
returns-in-Some-clause-is_result c =
    let x = step_of c.args.step.now in
    let done = c.args.history.now.done in
    let now = set_value_at c.args.nodes.now.entries c.in-Some.index c.call.new.node in
    let called = subst (λ (k : ℕ). OnOk c.call.result (IsResultOfStep c.args.setting.now.sessions done.frames k x c.index_mut.result.now c.call.new.node c.call.new.step_result)) (ap (λ (n : ℕ). n + 1) c.count.ensures)
    (subst (λ (fs : List (List ℕ)). OnOk c.call.result (IsResultOfStep c.args.setting.now.sessions fs (c.count.result + 1) x c.index_mut.result.now c.call.new.node c.call.new.step_result)) c.frames.ensures c.call.ensures.is_result) in
    subst (λ (i : Option ℕ). OnOk c.call.result (IsResultAtIndex c.args.setting.now done.frames (length done.entries + 1) x i c.args.nodes.now.entries now c.call.new.step_result)) (sym c.in-Some.is)
    (if_is_ok (IsResultAt c.args.setting.now.sessions done.frames (length done.entries + 1) x c.in-Some.index c.args.nodes.now.entries now c.call.new.step_result) c.call.result
    (λ u e.
    let entry = entry_at c.args.nodes.now.entries c.in-Some.index c.index_mut.result.now c.index_mut.ensures.value in
    record {
      who = entry.0;
      old = c.index_mut.result.now;
      new = c.call.new.node;
      is_old = entry.1;
      is_new = refl;
      is_result = subst (λ r. OnOk r (IsResultOfStep c.args.setting.now.sessions done.frames (length done.entries + 1) x c.index_mut.result.now c.call.new.node c.call.new.step_result)) e called;
    }))

pub returns-in-Some-clause-back : goal.returns-in-Some-clause-back
returns-in-Some-clause-back c = on_err (c.call.new.node ≡ c.index_mut.result.now) (set_value_at c.args.nodes.now.entries c.in-Some.index c.call.new.node ≡ c.args.nodes.now.entries) c.call.result
    (λ same.
    let entry = entry_at c.args.nodes.now.entries c.in-Some.index c.index_mut.result.now c.index_mut.ensures.value in
    ap (λ (z : NodeState). set_value_at c.args.nodes.now.entries c.in-Some.index z) same ∙ same_value c.args.nodes.now.entries c.in-Some.index entry.0 c.index_mut.result.now entry.1)
    c.call.ensures.back

-- the craft was made, and the nodes are as before
pub returns-in-None-clause-is_result : goal.returns-in-None-clause-is_result
returns-in-None-clause-is_result c =
    let x = step_of c.args.step.now in
    let done = c.args.history.now.done in
    subst (λ (i : Option ℕ). OnOk c.craft.result (IsResultAtIndex c.args.setting.now done.frames (length done.entries + 1) x i c.args.nodes.now.entries c.args.nodes.now.entries c.craft.new.step_result)) (sym c.in-None.is)
    (if_is_ok (IsResultAtIndex c.args.setting.now done.frames (length done.entries + 1) x None c.args.nodes.now.entries c.args.nodes.now.entries c.craft.new.step_result) c.craft.result
    (λ u e. (
      refl,
      subst (λ (fs : List (List ℕ)). IsResultOfCrafting c.args.setting.now fs x c.craft.new.step_result) c.frames-in-None.ensures
          (subst (λ r. OnOk r (IsResultOfCrafting c.args.setting.now c.frames-in-None.result.now x c.craft.new.step_result)) e c.craft.ensures),
    )))
