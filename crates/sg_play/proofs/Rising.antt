-- A count of faults that rose in the last part of a call rose in the call.
use Rattle.std.proofs.Common.{ℕ, ◌≤◌, inl, inr, eq-or-lt_of_le, le_trans, arith}
use Rattle.sg_base.specs.Outside.{HasRisen}

pub risen_last : (old mid new : ℕ) → old ≤ mid → mid ≤ new → HasRisen mid new → HasRisen old new
risen_last old mid new l m (inl r) = inl (omega (arith, l, r))
risen_last old mid new l m (inr r) = elim (eq-or-lt_of_le (le_trans l m)) [
  | inl e ↦ inr (omega (arith, e, l, m, r))
  | inr k ↦ inl k
]
