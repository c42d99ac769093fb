use Rattle.std.proofs.Common.{◌≡◌, drop, map, not}
use Rattle.std.specs.List.{list_any}
use Rattle.sg_audit.specs.LineContents.{rise}
use Rattle.sg_audit.specs.TakingLines.{step_in_line}
use Rattle.sg_audit.proofs.order.some_not_rise.Given as goal

abbrev pub invariant-loop-step : goal.invariant-loop-step
invariant-loop-step l = list_any (λ s. not (rise s.writes)) (map step_in_line l.steps) ≡ list_any (λ s. not (rise s.writes)) (map step_in_line (drop l.step-index l.steps))
