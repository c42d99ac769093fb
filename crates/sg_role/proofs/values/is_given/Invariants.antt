use Rattle.std.proofs.Common.{◌≡◌, drop}
use Rattle.sg_model.specs.Lists.{is_in, keys_of}
use Rattle.sg_walk.specs.Model.{values_of}
use Rattle.sg_role.proofs.values.is_given.Given as goal

abbrev pub invariant-loop-at : goal.invariant-loop-at
invariant-loop-at l = is_in l.var (keys_of (values_of (drop l.at l.values))) ≡ is_in l.var (keys_of (values_of l.values))
