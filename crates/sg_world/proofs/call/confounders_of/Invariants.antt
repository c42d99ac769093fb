use Rattle.std.proofs.Common.{◌≡◌, map, take}
use Rattle.sg_protocol.specs.Schedule.{confounder}
use Rattle.sg_walk.specs.Model.{values_of}
use Rattle.sg_world.proofs.call.confounders_of.Given as goal

-- the confounders so far
abbrev pub invariant-loop-value : goal.invariant-loop-value
invariant-loop-value l = l.all.items ≡ map (λ w. confounder l.step w.0) (values_of (take l.value-index l.values))
