use Rattle.std.proofs.Common.{option_map, sym, ap, ◌∙◌}
use Rattle.sg_world.proofs.PremiseLaws.{forged_fault_is, unforged_is}
use Rattle.sg_world.proofs.world.World.unforged.Goals as goal

pub returns-in-None-clause-holds : goal.returns-in-None-clause-holds
returns-in-None-clause-holds c = unforged_is c.args.self.now (sym c.in-Ok.ensures.found ∙ ap (option_map (λ f. (f.step, f.note.now))) c.in-None.is)

pub returns-in-Some-clause-forged : goal.returns-in-Some-clause-forged
returns-in-Some-clause-forged c =
    forged_fault_is c.args.self.now (c.in-Some.forged.step, c.in-Some.forged.note.now) c.forged_fault.result (sym c.in-Ok.ensures.found ∙ ap (option_map (λ f. (f.step, f.note.now))) c.in-Some.is) c.forged_fault.ensures
