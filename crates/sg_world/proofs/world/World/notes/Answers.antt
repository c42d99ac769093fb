use Rattle.std.proofs.Common.{◌∙◌}
use Rattle.sg_world.proofs.Worlds.{noted}
use Rattle.sg_world.proofs.world.World.notes.Goals as goal

pub returns : goal.returns
returns c = c.notes.ensures ∙ noted c.args.self.now c.self.inside.setting c.self.inside.nodes.entries c.self.inside.history.done c.self.view_is c.self.invariant
