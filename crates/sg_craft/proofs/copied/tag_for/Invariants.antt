use Rattle.std.proofs.Common.{◌≡◌, drop}
use Rattle.sg_model.specs.Lists.{value_at}
use Rattle.sg_craft.proofs.copied.tag_for.Given as goal

abbrev pub invariant-loop-tag : goal.invariant-loop-tag
invariant-loop-tag l = value_at l.tags l.role ≡ value_at (drop l.tag-index l.tags) l.role
