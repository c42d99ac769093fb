use Rattle.std.proofs.Common.{◌≡◌, drop}
use Rattle.sg_model.specs.Lists.{keys_of}
use Rattle.sg_protocol.specs.Acting.{is_out_of_order}
use Rattle.sg_walk.specs.Model.{values_of}
use Rattle.sg_role.proofs.values.is_out_of_order.Given as goal

abbrev pub invariant-loop-at : goal.invariant-loop-at
invariant-loop-at l = is_out_of_order l.var (keys_of (values_of (drop l.at l.values))) ≡ is_out_of_order l.var (keys_of (values_of l.values))
