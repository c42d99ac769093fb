use Rattle.std.proofs.Common.{◌↔◌, map, drop}
use Rattle.sg_protocol.specs.Walk.{IsStoredWalk}
use Rattle.sg_walk.specs.Model.{step_of, steps_of}
use Rattle.sg_explain.proofs.Steps.{StepsFrom}
use Rattle.sg_explain.proofs.part.walked.is_stored_walk.Given as goal

abbrev pub invariant-loop-step : goal.invariant-loop-step
invariant-loop-step l = IsStoredWalk l.graph (steps_of l.walk) ↔ StepsFrom l.graph l.at (map step_of (drop l.step-index l.steps))
