use Rattle.std.proofs.Common.{◌≡◌, [], take}
use Rattle.sg_text.specs.Sessions.{naming}
use Rattle.sg_world.specs.KeptLines.{known_in}
use Rattle.sg_world.proofs.names.declare_all.Given as goal

-- the sessions so far are declared
abbrev pub invariant-loop-index : goal.invariant-loop-index
invariant-loop-index l = l.initial.names ≡ naming 120 (known_in [] []) → l.names ≡ naming 120 (known_in (take l.index l.sessions) [])
