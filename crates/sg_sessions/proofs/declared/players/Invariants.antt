use Rattle.std.proofs.Common.{◌≡◌}
use Rattle.sg_sessions.specs.Setup.{players}
use Rattle.sg_sessions.proofs.declared.players.Given as goal

-- the principals so far
abbrev pub invariant-loop-role : goal.invariant-loop-role
invariant-loop-role l = l.names ≡ players l.role
