-- The counts of faults of what a run acts on.
use Rattle.std.specs.Prelude.{◌≤◌, ℕ, Result}
use Rattle.sg_play.specs.Faults.{CountsFaultAlone}
use Rattle.sg_serve.specs.declared.fault.ServeFault.{ServeFault}
use Rattle.sg_serve.specs.declared.fault.ServeFault.TheVariants.{WriteFailed, DiskFailed}

-- how often calls of the link, of the sink and of the disk failed
pub record Counts : Type 0 where
  pub link : ℕ
  pub out : ℕ
  pub disk : ℕ

-- no count falls, and a fault of the sink or of the disk is answered only if its count rose, which it does only then
pub record CountsFaults {A : Type 0} (old new : Counts) (result : Result A ServeFault) : Type 0 where
  pub link_falls : old.link ≤ new.link
  pub out : CountsFaultAlone WriteFailed old.out new.out result
  pub disk : CountsFaultAlone DiskFailed old.disk new.disk result
