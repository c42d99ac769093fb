use Rattle.std.proofs.Common.{◌≡◌, take}
use Rattle.sg_walk.proofs.stored.copy_step.Given as goal

abbrev pub invariant-loop-write : goal.invariant-loop-write
invariant-loop-write l = l.writes.items ≡ take l.write-index l.write-items
