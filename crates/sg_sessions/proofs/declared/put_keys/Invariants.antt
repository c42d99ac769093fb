use Rattle.std.proofs.Common.{◌≡◌, ◌≤◌, ◌+◌, ◌-◌, ◌++◌, map}
use Rattle.sg_model.specs.Lists.{range_from}
use Rattle.sg_sessions.specs.Setup.{key_of}
use Rattle.sg_sessions.proofs.declared.put_keys.Given as goal

-- the keys so far
abbrev pub invariant-loop-later : goal.invariant-loop-later
invariant-loop-later l = (l.role + 1 ≤ l.later) × (l.keys ≡ l.initial.keys ++ map (key_of l.role) (range_from (l.role + 1) (l.later - (l.role + 1))))
