use Rattle.std.proofs.Common.{◌<◌, ℕ}
use Rattle.sg_know.specs.Reads.{IsNotWriter}
use Rattle.sg_know.proofs.reads.check_writers.Given as goal

abbrev pub invariant-loop-number : goal.invariant-loop-number
invariant-loop-number l = (e x : ℕ) → e < l.number → IsNotWriter l.graph e x → ⊥
