use Rattle.std.proofs.Common.{option_map, sym, ap, ◌∙◌}
use Rattle.sg_world.proofs.PremiseLaws.{collision_fault_is, collision_free_is}
use Rattle.sg_world.proofs.world.World.collision_free.Goals as goal

pub returns-in-None-clause-holds : goal.returns-in-None-clause-holds
returns-in-None-clause-holds c = collision_free_is c.args.self.now (sym c.in-Ok.ensures.found ∙ ap (option_map (λ c. (c.one.now, c.other.now))) c.in-None.is)

pub returns-in-Some-clause-collision : goal.returns-in-Some-clause-collision
returns-in-Some-clause-collision c =
    collision_fault_is c.args.self.now (c.in-Some.collision.one.now, c.in-Some.collision.other.now) c.collision_fault.result (sym c.in-Ok.ensures.found ∙ ap (option_map (λ c. (c.one.now, c.other.now))) c.in-Some.is) c.collision_fault.ensures
