-- The counts of faults of what a play acts on.
use Rattle.std.specs.Prelude.{◌≡◌, ◌≢◌, ◌≤◌, ℕ, Result, Err}
use Rattle.sg_base.specs.Outside.{HasRisen}
use Rattle.sg_play.specs.declared.fault.PlayFault.{PlayFault}
use Rattle.sg_play.specs.declared.fault.PlayFault.TheVariants.{LinkFailed, WriteFailed}

-- a count of faults doesn't fall, and it rose if a call answers this fault
pub record CountsFault {A F : Type 0} (fault : F) (old new : ℕ) (result : Result A F) : Type 0 where
  pub falls : old ≤ new
  pub rises : result ≡ Err fault → HasRisen old new

-- so it is of a count that rises for this fault alone: after any other answer it is as before
pub record CountsFaultAlone {A F : Type 0} (fault : F) (old new : ℕ) (result : Result A F) : Type 0 where
  pub falls : old ≤ new
  pub rises : result ≡ Err fault → HasRisen old new
  pub same : result ≢ Err fault → new ≡ old

-- how often calls of the link and of the sink failed
pub record Counts : Type 0 where
  pub link : ℕ
  pub out : ℕ

-- a fault of the link or of the sink is answered only if its count rose, and that of the sink rises only then
pub record CountsFaults {A : Type 0} (old new : Counts) (result : Result A PlayFault) : Type 0 where
  pub link : CountsFault LinkFailed old.link new.link result
  pub out : CountsFaultAlone WriteFailed old.out new.out result
