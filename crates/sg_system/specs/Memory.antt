use Rattle.std.specs.Prelude.{ℕ, Bool, true, false, List, [], ◌∷◌, ◌++◌}
use Rattle.sg_base.specs.Memory.{FaultPlan}

-- standard descriptors in memory: whether standard input, output and error are free, and which calls fail
pub record DescriptorsHeld : Type 0 where
  pub input : Bool
  pub output : Bool
  pub error : Bool
  pub plan : FaultPlan

-- the descriptor, if it is free
abbrev pub if_free : Bool → ℕ → List ℕ
if_free true n = n ∷ []
if_free false n = []

-- those that are free, in rising order
abbrev pub all_free : DescriptorsHeld → List ℕ
all_free d = if_free d.input 0 ++ if_free d.output 1 ++ if_free d.error 2
