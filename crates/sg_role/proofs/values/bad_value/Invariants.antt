use Rattle.std.proofs.Common.{◌≡◌, ◌-◌, find}
use Rattle.sg_model.specs.Lists.{range_from}
use Rattle.sg_protocol.specs.Acting.{is_bad}
use Rattle.sg_walk.specs.Model.{values_of}
use Rattle.sg_role.specs.Stepping.{first_bad}
use Rattle.sg_role.proofs.values.bad_value.Given as goal

abbrev pub invariant-loop-number : goal.invariant-loop-number
invariant-loop-number l = find (is_bad l.graph l.label (values_of l.values)) (range_from l.number (256 - l.number)) ≡ first_bad l.graph l.label (values_of l.values)
