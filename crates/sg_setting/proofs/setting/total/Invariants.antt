use Rattle.std.proofs.Common.{◌≡◌, ◌*◌, ◌≤◌, List, ℕ, length, sum_by, take}
use Rattle.sg_setting.proofs.setting.total.Given as goal

-- the bytes so far, and that they are few
abbrev pub invariant-loop-text : goal.invariant-loop-text
invariant-loop-text l = (l.size ≡ sum_by (λ (t : List ℕ). length t) (take l.text-index l.texts)) × (l.size ≤ l.text-index * 18446744073709551615)
