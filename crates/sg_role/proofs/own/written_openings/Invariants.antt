use Rattle.std.proofs.Common.{◌≡◌, ◌++◌, drop}
use Rattle.sg_protocol.specs.Acting.{openings_for}
use Rattle.sg_walk.specs.Model.{values_of}
use Rattle.sg_role.proofs.own.written_openings.Given as goal

abbrev pub invariant-loop-at : goal.invariant-loop-at
invariant-loop-at l = l.openings.items ++ openings_for (values_of (drop l.at l.values)) (drop l.at l.confounders) ≡ openings_for (values_of l.values) l.confounders
