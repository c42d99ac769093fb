-- Whether a ledger is made, and what one is opened with, is what the bytes of its file ask for, unless the outside fails.
use Rattle.std.specs.Prelude.{◌≡◌, ◌≢◌, ℕ, false, List, [], ◌∷◌, Some, Result, Ok, Err}
use Rattle.sg_compile.specs.Laws.{Surely}
use Rattle.sg_ledger.specs.Disk.{IfSeen}
use Rattle.sg_ledger.specs.Format.{Join, Represents}
use Rattle.sg_ledger.specs.declared.disk.Disk as Disk
use Rattle.sg_ending.specs.Ending.{Ending, Written, LedgerNotEmpty, DiskFailed, NoMemory}
use Rattle.sg_ending.specs.Laws.{asked, is_of_outside}
use Rattle.sg_ending.specs.Output.{Output}
use Rattle.sg_principal.specs.Ledgers.{LacksLedger, Makes}
use Rattle.sg_principal.specs.Outside.{Disked, disk_of}

-- what a file of these bytes asks for: a ledger is made if it is empty
abbrev pub asked_by : List ℕ → Ending
asked_by [] = Written
asked_by (b ∷ bytes) = LedgerNotEmpty

-- Of disks of any kind: unless the outside fails, the bytes of a file that are known decide whether a ledger is made
abbrev pub LedgersAreMadeByBytes : {D : Type 0} → Disk.Ghosts D → Type 0
LedgersAreMadeByBytes {D} g = (file bytes : List ℕ) (old new : Output) (disk disk' : D) (e : Ending) → g.seen disk ≡ Some bytes
    → Makes file old new (disk_of g disk) (disk_of g disk') e → is_of_outside e ≡ false → e ≢ DiskFailed → asked e ≡ asked_by bytes

-- a ledger is opened with these joins, or none is for this cause
abbrev pub OpensLedger : (disk disk' : Disked) → Result (List Join) Ending → Type 0
OpensLedger disk disk' (Ok joins) = IfSeen disk.seen (λ bytes. Represents bytes joins)
OpensLedger disk disk' (Err ending) = LacksLedger disk disk' ending

-- the disk didn't fail, nor did memory run out
abbrev pub IsOfBytes : Result (List Join) Ending → Type 0
IsOfBytes result = (result ≢ Err DiskFailed) × (result ≢ Err NoMemory)

-- Of disks of any kind: unless the outside fails, the bytes of a file that are known decide with which joins a ledger is opened, or for which cause none is
pub record LedgersAreOpenedByBytes {D : Type 0} (g : Disk.Ghosts D) : Type 0 where
  pub once : (bytes : List ℕ) (a a' b b' : D) (x y : Result (List Join) Ending) → g.seen a ≡ Some bytes → g.seen b ≡ Some bytes
      → OpensLedger (disk_of g a) (disk_of g a') x → OpensLedger (disk_of g b) (disk_of g b') y → IsOfBytes x → IsOfBytes y → x ≡ y
  pub always : (bytes : List ℕ) (disk : D) → g.seen disk ≡ Some bytes
      → Surely ((x : Result (List Join) Ending) × IsOfBytes x × OpensLedger (disk_of g disk) (disk_of g disk) x)
