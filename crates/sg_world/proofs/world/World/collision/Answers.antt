use Rattle.std.proofs.Common.{List, length, ap}
use Rattle.sg_model.proofs.Small.{clash}
use Rattle.sg_protocol.specs.Schedule.{Step}
use Rattle.sg_world.proofs.PremiseLaws.{none_collide}
use Rattle.sg_world.proofs.world.World.collision.Goals as goal

pub returns-then-has_one_text-clause-found : goal.returns-then-has_one_text-clause-found
returns-then-has_one_text-clause-found c = (let one = c.has_one_text.ensures.0 c.if-has_one_text.true in none_collide c.args.self.now one.0 one.1)

pub returns-clause-before_steps : goal.returns-clause-before_steps
returns-clause-before_steps c = λ e few. clash c.has_one_text.result (c.has_one_text.ensures.1 (ap (λ (xs : List Step). length xs) e, few)) c.if-has_one_text.false
