use Rattle.std.proofs.Common.{◌≡◌, drop}
use Rattle.sg_model.specs.Lists.{value_at}
use Rattle.sg_role.proofs.tags.tag_at.Given as goal

abbrev pub invariant-loop-at : goal.invariant-loop-at
invariant-loop-at l = value_at l.tags l.role ≡ value_at (drop l.at l.tags) l.role
