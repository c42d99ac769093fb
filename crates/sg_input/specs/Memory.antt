-- What an input in memory holds.
use Rattle.std.specs.Prelude.{ℕ, max, List, [], ◌∷◌}
use Rattle.sg_base.specs.Memory.{FaultPlan}

-- the bytes to come, the lengths of the pieces in which they come, and which calls fail
pub record InputHeld : Type 0 where
  pub bytes : List ℕ
  pub pieces : List ℕ
  pub plan : FaultPlan

-- the bytes of the next piece: at least one, and all that are to come if no length is given
abbrev pub piece_bytes : List ℕ → ℕ → ℕ
piece_bytes [] all = all
piece_bytes (p ∷ ps) all = max p 1
