-- What the keys of pairs keep true.
use Rattle.std.specs.Prelude.{◌≢◌, ◌⊎◌}
use Rattle.sg_protocol.specs.Schedule.{PairKey}

-- the keys are of different pairs, whichever principal stands first
abbrev pub AreApart : PairKey → PairKey → Type 0
AreApart j k = ((j.one ≢ k.one) ⊎ (j.two ≢ k.two)) × ((j.one ≢ k.two) ⊎ (j.two ≢ k.one))
