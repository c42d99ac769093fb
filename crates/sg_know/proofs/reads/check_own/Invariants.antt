use Rattle.std.proofs.Common.{◌<◌, ℕ}
use Rattle.sg_know.specs.Reads.{IsReadsOwn}
use Rattle.sg_know.proofs.reads.check_own.Given as goal

abbrev pub invariant-loop-number : goal.invariant-loop-number
invariant-loop-number l = (e x : ℕ) → e < l.number → IsReadsOwn l.graph e x → ⊥
