use Rattle.std.proofs.Common.{◌≡◌, ℕ, ◌<◌, false, get_or}
use Rattle.sg_model.specs.Lists.{is_in}
use Rattle.sg_claims.proofs.decision.least_wrong.Given as goal

abbrev pub invariant-loop-label : goal.invariant-loop-label
invariant-loop-label l = (k : ℕ) → k < l.label-index → is_in (get_or l.label-items k 0) l.claim.later ≡ false
