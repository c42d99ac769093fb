use Rattle.std.proofs.Common.{◌≡◌, map, take}
use Rattle.sg_sched_text.specs.Whole.{declared_by}
use Rattle.sg_sched_text.proofs.whole.with_casts.Given as goal

abbrev pub invariant-loop-index : goal.invariant-loop-index
invariant-loop-index l = l.found ≡ map (declared_by l.digests) (take l.index l.sessions)
