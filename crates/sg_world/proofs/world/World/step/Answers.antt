use Rattle.sg_sched.specs.Format.StepsHeld.{step_of}
use Rattle.sg_world.proofs.Worlds.{is_admitted, replay, run_is, size_after, taken_is}
use Rattle.sg_world.proofs.world.World.step.Goals as goal

pub returns-clause-run : goal.returns-clause-run
returns-clause-run c = run_is c.args.self.now (replay c.self.inside.setting c.take_step.new.nodes.entries c.take_step.new.history.done) (step_of c.args.step.now)
    (taken_is c.args.self.now c.self.inside.setting c.self.inside.nodes.entries c.take_step.new.nodes.entries c.self.inside.history.done c.take_step.new.history.done (step_of c.args.step.now) c.self.view_is c.in-Ok.ensures.schedule)

pub returns-clause-size : goal.returns-clause-size
returns-clause-size c = size_after c.args.self.now (replay c.self.inside.setting c.take_step.new.nodes.entries c.take_step.new.history.done) c.self.inside.setting c.self.inside.nodes.entries c.self.inside.history.done (step_of c.args.step.now) c.self.view_is c.self.invariant c.requires.step.range
    (taken_is c.args.self.now c.self.inside.setting c.self.inside.nodes.entries c.take_step.new.nodes.entries c.self.inside.history.done c.take_step.new.history.done (step_of c.args.step.now) c.self.view_is c.in-Ok.ensures.schedule) c.in_ok-index.ensures.size

pub returns-in_default-clause-refused : goal.returns-in_default-clause-refused
returns-in_default-clause-refused c = is_admitted c.args.self.now c.self.inside.setting c.self.inside.nodes.entries c.self.inside.history.done (step_of c.args.step.now) c.in_ok-index.index c.self.view_is c.self.invariant c.in_ok-index.ensures.index c.in_ok-index.ensures.size
