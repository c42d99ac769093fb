use Rattle.sg_protocol.proofs.Steps.{runs_go_by_step}
use Rattle.sg_protocol.specs.Texts.{real}
use Rattle.sg_world.proofs.laws.steps_are_the_runs.Goals as goal

pub returns : goal.returns
returns c = λ r x. runs_go_by_step real r.programs r.schedule x
