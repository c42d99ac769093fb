use Rattle.std.proofs.Common.{◌≡◌, drop}
use Rattle.sg_model.specs.Lists.{has_text}
use Rattle.sg_node.proofs.cast.has_name.Given as goal

-- the name stands there if it is among those that are left
abbrev pub invariant-loop-other : goal.invariant-loop-other
invariant-loop-other l = has_text l.name l.names ≡ has_text l.name (drop l.other-index l.names)
