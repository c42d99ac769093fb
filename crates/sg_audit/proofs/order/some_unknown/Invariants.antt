use Rattle.std.proofs.Common.{◌≡◌, drop, map}
use Rattle.std.specs.List.{list_any}
use Rattle.sg_audit.specs.SoFar.{is_unknown}
use Rattle.sg_audit.specs.TakingLines.{step_in_line}
use Rattle.sg_audit.proofs.order.some_unknown.Given as goal

abbrev pub invariant-loop-step : goal.invariant-loop-step
invariant-loop-step l = list_any is_unknown (map step_in_line l.steps) ≡ list_any is_unknown (map step_in_line (drop l.step-index l.steps))
