-- The counts of faults of what a play over a ledger acts on.
use Rattle.std.specs.Prelude.{ℕ, Result}
use Rattle.sg_play.specs.Faults.{CountsFault, CountsFaultAlone}
use Rattle.sg_play.specs.declared.fault.PlayFault.TheVariants.{LinkFailed, WriteFailed}
use Rattle.sg_keep.specs.declared.fault.KeepFault.{KeepFault}
use Rattle.sg_keep.specs.declared.fault.KeepFault.TheVariants.{Played, DiskFailed}

-- how often calls of the link, of the sink and of the disk failed
pub record Counts : Type 0 where
  pub link : ℕ
  pub out : ℕ
  pub disk : ℕ

-- a fault of one of them is answered only if its count rose, and those of the sink and of the disk rise only then
pub record CountsFaults {A : Type 0} (old new : Counts) (result : Result A KeepFault) : Type 0 where
  pub link : CountsFault (Played LinkFailed) old.link new.link result
  pub out : CountsFaultAlone (Played WriteFailed) old.out new.out result
  pub disk : CountsFaultAlone DiskFailed old.disk new.disk result
