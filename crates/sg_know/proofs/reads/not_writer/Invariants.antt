use Rattle.std.proofs.Common.{◌<◌, ℕ}
use Rattle.sg_know.specs.Reads.{IsNotWriter}
use Rattle.sg_know.proofs.reads.not_writer.Given as goal

abbrev pub invariant-loop-number : goal.invariant-loop-number
invariant-loop-number l = (x : ℕ) → x < l.number → IsNotWriter l.graph l.label x → ⊥
