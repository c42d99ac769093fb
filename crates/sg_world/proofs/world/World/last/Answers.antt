use Rattle.sg_world.proofs.Numbered.{last_few}
use Rattle.sg_world.proofs.Worlds.{last_reported}
use Rattle.sg_world.proofs.world.World.last.Goals as goal

pub returns-clause-reported : goal.returns-clause-reported
returns-clause-reported c = last_reported c.args.self.now c.self.inside.setting c.self.inside.nodes.entries c.self.inside.history.done c.self.view_is c.self.invariant c.last.result c.last.ensures

pub returns-clause-number : goal.returns-clause-number
returns-clause-number c =
    last_few c.args.self.now c.self.inside.setting c.self.inside.nodes.entries c.self.inside.history.done c.self.view_is c.self.invariant c.last.result
    (last_reported c.args.self.now c.self.inside.setting c.self.inside.nodes.entries c.self.inside.history.done c.self.view_is c.self.invariant c.last.result c.last.ensures)
