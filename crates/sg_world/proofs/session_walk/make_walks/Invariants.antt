use Rattle.std.proofs.Common.{◌≡◌, map, take}
use Rattle.sg_world.specs.Walked.{sid_and_steps, sid_and_walk}
use Rattle.sg_world.proofs.session_walk.make_walks.Given as goal

-- the walks so far are made
abbrev pub invariant-loop-index : goal.invariant-loop-index
invariant-loop-index l = map sid_and_steps l.walks.items ≡ map sid_and_walk (take l.index l.traces)
