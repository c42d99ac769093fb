use Rattle.std.proofs.Common.{◌≡◌, ◌≤◌, ◌+◌, ◌-◌, ◌==◌, ℕ, length, drop}
use Rattle.std.specs.List.{common_prefix_len}
use Rattle.sg_compile.proofs.loader.common_length.Given as goal

abbrev pub invariant-loop-at : goal.invariant-loop-at
invariant-loop-at l = record {
  in_one : l.at ≤ length l.one;
  in_other : l.at ≤ length l.other;
  same : common_prefix_len (λ (a b : ℕ). a == b) l.one l.other ≡ l.at + common_prefix_len (λ (a b : ℕ). a == b) (drop l.at l.one) (drop l.at l.other);
}

abbrev pub decreases-loop-at : goal.decreases-loop-at
decreases-loop-at l = length l.one - l.at
