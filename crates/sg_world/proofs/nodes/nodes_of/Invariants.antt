use Rattle.std.proofs.Common.{◌≡◌, map, take}
use Rattle.sg_world.proofs.Begins.{new_named}
use Rattle.sg_world.proofs.nodes.nodes_of.Given as goal

-- a node for each so far
abbrev pub invariant-loop-me : goal.invariant-loop-me
invariant-loop-me l = l.nodes.entries ≡ map (new_named l.keys l.programs) (take l.me-index l.honest)
