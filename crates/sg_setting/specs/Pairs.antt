-- Keys of pairs of principals, no pair of which has two.
use Rattle.std.specs.Prelude.{◌≢◌, ◌⊎◌, List, All, AllPairs}
use Rattle.sg_protocol.specs.IsSchedule.{IsPairKey}
use Rattle.sg_protocol.specs.Schedule.{PairKey}

-- the two keys are of different pairs
abbrev pub AreOfTwoPairs : PairKey → PairKey → Type 0
AreOfTwoPairs j k = ((j.one ≢ k.one) ⊎ (j.two ≢ k.two)) × ((j.one ≢ k.two) ⊎ (j.two ≢ k.one))

-- each is a key of two principals, and no pair has two
pub record ArePairs (keys : List PairKey) : Type 0 where
  pub each : All IsPairKey keys
  pub apart : AllPairs AreOfTwoPairs keys
