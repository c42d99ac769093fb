use Rattle.std.proofs.Common.{◌<◌, ℕ}
use Rattle.sg_check.specs.Shaped.{HasNode}
use Rattle.sg_check.proofs.shape.idle_role.Given as goal

abbrev pub invariant-loop-number : goal.invariant-loop-number
invariant-loop-number l = (k : ℕ) → k < l.number → HasNode l.graph k
