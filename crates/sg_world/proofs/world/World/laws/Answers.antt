use Rattle.std.proofs.Common.{refl}
use Rattle.sg_world.specs.Laws.{HasPrograms}
use Rattle.sg_world.proofs.Accounts.{compiled_is, schedule_is}
use Rattle.sg_world.proofs.RunsOfReplays.{laws_hold}
use Rattle.sg_world.proofs.world.World.laws.Goals as goal

pub returns-clause-programs : goal.returns-clause-programs
returns-clause-programs c = record {
  compiled = compiled_is c.args.self.now c.self.inside.setting c.self.inside.nodes.entries c.self.inside.history.done c.self.view_is c.self.invariant c.self.inside.history.done.entries refl;
  schedule = schedule_is c.args.self.now c.self.inside.setting c.self.inside.nodes.entries c.self.inside.history.done c.self.view_is c.self.invariant c.self.inside.history.done.entries refl;
}

pub returns-clause-laws : goal.returns-clause-laws
returns-clause-laws c =
    let has : HasPrograms c.args.self.now = record {
      compiled = compiled_is c.args.self.now c.self.inside.setting c.self.inside.nodes.entries c.self.inside.history.done c.self.view_is c.self.invariant c.self.inside.history.done.entries refl;
      schedule = schedule_is c.args.self.now c.self.inside.setting c.self.inside.nodes.entries c.self.inside.history.done c.self.view_is c.self.invariant c.self.inside.history.done.entries refl;
    } in
    laws_hold c.args.self.now has
