use Rattle.std.proofs.Common.{◌≡◌, map}
use Rattle.sg_model.specs.Lists.{range_from}
use Rattle.sg_sessions.specs.Setup.{numbered_session}
use Rattle.sg_sessions.proofs.declared.sessions_of.Given as goal

-- the sessions so far
abbrev pub invariant-loop-index : goal.invariant-loop-index
invariant-loop-index l = l.list ≡ map (numbered_session l.graph) (range_from 1 l.index)
