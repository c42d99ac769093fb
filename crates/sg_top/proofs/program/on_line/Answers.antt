use Rattle.std.proofs.Common.{◌≡◌, refl, sym, ap, ◌∙◌, subst, inl, inr}
use Rattle.std.specs.Option.{option_map}
use Rattle.sg_args.specs.Command.{CanBeDriven, command_of}
use Rattle.sg_args.specs.Model.{command_held}
use Rattle.sg_args.proofs.Driven.{can_be_driven}
use Rattle.sg_ending.specs.Ending.{NoMemory}
use Rattle.sg_ending.specs.Model.{ending_held}
use Rattle.sg_top.specs.Outside.{objects_at_call}
use Rattle.sg_top.proofs.Statuses.{may_play}
use Rattle.sg_top.proofs.Untouched.{untouched}
use Rattle.sg_top.proofs.program.on_line.Goals as goal

pub work-ending-requires : goal.work-ending-requires
work-ending-requires g c =
    let same : option_map command_held c.command.result ≡ command_of c.args.line.now = c.command.ensures ∙ ap command_of c.in-Ok.ensures in
    subst CanBeDriven (sym same) (can_be_driven c.args.line.now)

pub returns-in-Ok : goal.returns-in-Ok
returns-in-Ok g c =
    let same : option_map command_held c.command.result ≡ command_of c.args.line.now = c.command.ensures ∙ ap command_of c.in-Ok.ensures in
    record {
      work = ending_held c.work-ending.result;
      does = inl (rw same at c.work-ending.ensures.works);
      says = c.say.ensures;
      kept = c.work-ending.ensures.kept;
      as_before = may_play c.args.line.now (option_map command_held c.command.result) (ending_held c.work-ending.result) _ _ c.say.result same c.work-ending.ensures.as_before c.say.ensures;
      untouched = rw same at c.work-ending.ensures.untouched;
    }

pub returns-in-Err : goal.returns-in-Err
returns-in-Err g c = record {
  work = NoMemory;
  does = inr (refl, refl);
  says = c.say-in-Err.ensures;
  kept = refl;
  as_before = inr refl;
  untouched = untouched (objects_at_call c.args.objects) (command_of c.args.line.now);
}
