use Rattle.std.proofs.Common.{◌∙◌}
use Rattle.sg_world.proofs.Worlds.{reported_many}
use Rattle.sg_world.proofs.world.World.len.Goals as goal

pub returns-clause-reported : goal.returns-clause-reported
returns-clause-reported c = c.count.ensures ∙ reported_many c.args.self.now c.self.inside.setting c.self.inside.nodes.entries c.self.inside.history.done c.self.view_is c.self.invariant
