use Rattle.std.proofs.Common.{◌<◌, ℕ}
use Rattle.sg_protocol.specs.Accepted.{Reached}
use Rattle.sg_check.proofs.shape.not_reached.Given as goal

abbrev pub invariant-loop-number : goal.invariant-loop-number
invariant-loop-number l = (k : ℕ) → k < l.number → Reached l.graph k
