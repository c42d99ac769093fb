use Rattle.std.proofs.Common.{◌≡◌, ◌<◌, ℕ, true}
use Rattle.sg_model.specs.Lists.{is_in}
use Rattle.sg_know.proofs.reads.is_only_writer.Given as goal

abbrev pub invariant-loop-number : goal.invariant-loop-number
invariant-loop-number l = (r : ℕ) → r < l.number → is_in r l.writers ≡ true → r ≡ l.role
