use Rattle.std.proofs.Common.{◌≡◌, take}
use Rattle.sg_base.proofs.value.copy_openings.Given as goal

-- the copies so far
abbrev pub invariant-loop-opening : goal.invariant-loop-opening
invariant-loop-opening l = l.copies ≡ take l.opening-index l.openings
