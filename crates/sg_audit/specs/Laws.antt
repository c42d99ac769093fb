-- What holds of all bytes: they spell the logs of one run at most, or have one first fault.
use Rattle.std.specs.Prelude.{◌≡◌, ℕ, List}
use Rattle.sg_audit.specs.Sessions.{Logs}
use Rattle.sg_audit.specs.Spells.{SpellsLogs, IsFault}
use Rattle.sg_audit.specs.declared.fault.LogFault.{LogFault}

-- Bytes spell the logs of one run at most
abbrev pub LogsAreOne : Type 0
LogsAreOne = (bytes : List ℕ) (l m : Logs) → SpellsLogs bytes l → SpellsLogs bytes m → l ≡ m

-- Bytes have one first fault at most
abbrev pub FaultsAreOne : Type 0
FaultsAreOne = (bytes : List ℕ) (e f : LogFault) → IsFault bytes e → IsFault bytes f → e ≡ f

-- Bytes that have a fault spell no logs
abbrev pub WrongIsNoLogs : Type 0
WrongIsNoLogs = (bytes : List ℕ) (e : LogFault) (l : Logs) → IsFault bytes e → SpellsLogs bytes l → ⊥
