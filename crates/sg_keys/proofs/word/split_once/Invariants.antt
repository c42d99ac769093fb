use Rattle.std.proofs.Common.{◌≡◌, ◌<◌, ◌==◌, false, get_or, ℕ}
use Rattle.sg_keys.proofs.word.split_once.Given as goal

-- the mark has not come yet
abbrev pub invariant-bytes : goal.invariant-bytes
invariant-bytes l = (k : ℕ) → k < l.at → (get_or l.word k 0 == l.mark) ≡ false
