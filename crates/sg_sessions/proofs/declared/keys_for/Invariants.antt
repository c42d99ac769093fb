use Rattle.std.proofs.Common.{◌≡◌, flat_map}
use Rattle.sg_model.specs.Lists.{below}
use Rattle.sg_sessions.specs.Setup.{keys_with_later}
use Rattle.sg_sessions.proofs.declared.keys_for.Given as goal

-- the keys so far
abbrev pub invariant-loop-role : goal.invariant-loop-role
invariant-loop-role l = l.keys ≡ flat_map (keys_with_later l.roles) (below l.role)
