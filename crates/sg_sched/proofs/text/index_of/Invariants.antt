use Rattle.std.proofs.Common.{◌≡◌, ◌<◌, ◌==◌, false, get_or, ℕ}
use Rattle.sg_sched.proofs.text.index_of.Given as goal

abbrev pub invariant-bytes : goal.invariant-bytes
invariant-bytes l = (k : ℕ) → k < l.at → (get_or l.bytes k 0 == l.mark) ≡ false
