use Rattle.std.proofs.Common.{refl, inr, map}
use Rattle.std.specs.Prelude.{string_bytes}
use Rattle.sg_args.specs.Command.{command_of}
use Rattle.sg_ending.specs.Ending.{NoMemory}
use Rattle.sg_top.proofs.Untouched.{untouched}
use Rattle.sg_top.proofs.program.top.Goals as goal

pub returns-in-Ok : goal.returns-in-Ok
returns-in-Ok g c = rw c.in-Ok.ensures at c.on_line.ensures

pub returns-in-Err : goal.returns-in-Err
returns-in-Err g c = record {
  work = NoMemory;
  does = inr (refl, refl);
  says = c.say.ensures;
  kept = refl;
  as_before = inr refl;
  untouched = untouched _ (command_of (map string_bytes c.args.args.now));
}
