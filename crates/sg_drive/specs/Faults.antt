-- Why a run isn't generated.
use Rattle.std.specs.Prelude.{◌≡◌, ℕ, ◌<◌, List, length, ⊤}
use Rattle.sg_protocol.specs.Graph.{Graph}
use Rattle.sg_protocol.specs.Keyring.{Program}
use Rattle.sg_world.specs.Faults.{IsFull}
use Rattle.sg_setting.specs.Replay.{Replay, size_of, up_to}
use Rattle.sg_drive.specs.Generated.{Generated}
use Rattle.sg_drive.specs.Going.{Going}
use Rattle.sg_drive.specs.declared.fault.GenerateFault.{GenerateFault}
use Rattle.sg_drive.specs.declared.fault.GenerateFault.TheVariants.{RecordFull, OutOfMemory}

-- the first step that begins with a full record begins with `bytes` bytes
pub record IsFullAt (r : Replay) (bytes : ℕ) : Type 0 where
  pub before : ℕ
  pub begins : before < length r.schedule.steps
  pub full : IsFull (up_to before r)
  pub first : (n : ℕ) → n < before → IsFull (up_to n r) → ⊥
  pub size : bytes ≡ size_of (up_to before r)

-- why the replay of all these steps goes no further: a step begins with a full record, or memory ran out
abbrev pub IsStopped : Replay → GenerateFault → Type 0
IsStopped r (RecordFull bytes) = IsFullAt r bytes
IsStopped r OutOfMemory = ⊤

-- a step of the generated run begins with a full record
pub record IsTooMuch (seed sessions : ℕ) (g : Graph) (programs : List Program) (bytes : ℕ) : Type 0 where
  pub going : Going
  pub generated : Generated seed sessions g programs going
  pub full : IsFullAt going.replay bytes

-- why the run isn't generated
abbrev pub IsGenerateFault : (seed sessions : ℕ) → Graph → List Program → GenerateFault → Type 0
IsGenerateFault seed sessions g programs (RecordFull bytes) = IsTooMuch seed sessions g programs bytes
IsGenerateFault seed sessions g programs OutOfMemory = ⊤
