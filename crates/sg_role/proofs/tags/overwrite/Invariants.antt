use Rattle.std.proofs.Common.{◌≡◌, drop}
use Rattle.sg_role.specs.Looking.{overwritten}
use Rattle.sg_role.proofs.tags.overwrite.Given as goal

abbrev pub invariant-loop-at : goal.invariant-loop-at
invariant-loop-at l = overwritten l.initial.commitments.items l.delta ≡ overwritten l.commitments.items (drop l.at l.delta)
