use Rattle.std.proofs.Common.{◌≡◌, ℕ, ◌<◌, ◌++◌, ◌∷◌, [], List, length, reverse}
use Rattle.sg_claims.specs.Search.{AreWalks}
use Rattle.sg_claims.proofs.decision.walk_by.Given as goal

abbrev pub invariant-loop-index : goal.invariant-loop-index
invariant-loop-index l = record {
  there : l.index < length l.entries;
  walk : (walks : ℕ → List ℕ) → AreWalks l.entries walks → walks l.index ++ reverse l.walk.items ≡ walks l.at ++ l.fn.label ∷ [];
}

abbrev pub decreases-loop-index : goal.decreases-loop-index
decreases-loop-index l = l.index
