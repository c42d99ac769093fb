use Rattle.std.proofs.Common.{◌≡◌, map}
use Rattle.sg_walk.specs.Model.{step_of}
use Rattle.sg_audit.specs.Sessions.{stored_step}
use Rattle.sg_audit.specs.TakingLines.{step_in_line}
use Rattle.sg_audit.proofs.reader.stored_walk.Given as goal

abbrev pub invariant-loop-step : goal.invariant-loop-step
invariant-loop-step l = map step_of l.stored.items ≡ map stored_step (map step_in_line l.yielded)
