use Rattle.std.proofs.Common.{◌≡◌, drop}
use Rattle.sg_model.specs.Lists.{value_at}
use Rattle.sg_role.proofs.own.commitment_in.Given as goal

abbrev pub invariant-loop-at : goal.invariant-loop-at
invariant-loop-at l = value_at (drop l.at l.delta) l.var ≡ value_at l.delta l.var
