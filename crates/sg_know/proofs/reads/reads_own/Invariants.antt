use Rattle.std.proofs.Common.{◌<◌, ℕ}
use Rattle.sg_know.specs.Reads.{IsReadsOwn}
use Rattle.sg_know.proofs.reads.reads_own.Given as goal

abbrev pub invariant-loop-number : goal.invariant-loop-number
invariant-loop-number l = (x : ℕ) → x < l.number → IsReadsOwn l.graph l.label x → ⊥
