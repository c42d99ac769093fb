-- What holds of all bytes: they spell one schedule at most, or have one first fault.
use Rattle.std.specs.Prelude.{◌≡◌, ℕ, List}
use Rattle.sg_protocol.specs.Schedule.{Schedule}
use Rattle.sg_protocol.specs.Texts.{Hash}
use Rattle.sg_sched.specs.Format.Kinds.{Kind}
use Rattle.sg_sched.specs.Format.Spells.{SpellsSchedule, IsFirstFault}

-- Bytes spell one schedule at most
abbrev pub SchedulesAreOne : Type 0
SchedulesAreOne = (sha : Hash) (bytes : List ℕ) (s t : Schedule) → SpellsSchedule sha bytes s → SpellsSchedule sha bytes t → s ≡ t

-- Bytes have one first wrong line at most, and one thing that is wrong with it
abbrev pub FaultsAreOne : Type 0
FaultsAreOne = (bytes : List ℕ) (n m : ℕ) (k j : Kind) → IsFirstFault bytes n k → IsFirstFault bytes m j → (n ≡ m) × (k ≡ j)

-- Bytes that have a wrong line spell no schedule
abbrev pub WrongIsNoSchedule : Type 0
WrongIsNoSchedule = (sha : Hash) (bytes : List ℕ) (n : ℕ) (k : Kind) (s : Schedule) → IsFirstFault bytes n k → SpellsSchedule sha bytes s → ⊥
