use Rattle.std.proofs.Common.{◌+◌, length, OnOk, ap, sym, ◌∙◌, subst}
use Rattle.sg_protocol.specs.Schedule.{CraftStep}
use Rattle.sg_sched.specs.Format.StepsHeld.{step_of}
use Rattle.sg_world.specs.Crafts.{IsResultOfCraft, IsResultOfCrafting}
use Rattle.sg_world.proofs.Called.{if_is_ok}
use Rattle.sg_world.proofs.craft.craft.Goals as goal

pub returns : goal.returns
returns c = if_is_ok (IsResultOfCrafting c.args.setting.now c.args.recorded.now (step_of c.args.step.now) c.craft_frame.new.step_result) c.craft_frame.result
    (λ x e.
    record {
      craft = c.get.result.now;
      is_craft = ap step_of c.in-Craft.is ∙ ap CraftStep (sym c.get.ensures);
      is_result = λ s w same are. subst (λ r. OnOk r (IsResultOfCraft (length c.args.recorded.now + 1) s w c.get.result.now c.craft_frame.new.step_result)) e (c.craft_frame.ensures s w same are);
    })
