-- How the program says on standard error why its work ended.
use Rattle.std.specs.Prelude.{◌≡◌, ◌≢◌, ℕ, ◌⊎◌, List, []}
use Rattle.sg_base.specs.Outside.{HasRisen, Appends, AppendsPrefix}
use Rattle.sg_ending.specs.Ending.{Ending, NoMemory, status_of, line_of}
use Rattle.sg_ending.specs.Output.{Output}

-- a line is written, no write failed, and its status is given, or it is not taken whole, which the count of faults shows, and the status is that of a failed write
abbrev pub Puts : (old new : Output) → (line : List ℕ) → (wanted status : ℕ) → Type 0
Puts old new line wanted status =
    ((status ≡ wanted) × Appends old.bytes new.bytes line × (new.faults ≡ old.faults))
    ⊎ ((status ≡ 6) × HasRisen old.faults new.faults × AppendsPrefix old.bytes new.bytes line)

-- how the program says how its work ended: by the ending's line and status, or, if memory ran out for a line, by saying this
abbrev pub Says : Ending → (old new : Output) → (status : ℕ) → Type 0
Says work old new status =
    Puts old new (line_of work) (status_of work) status
    ⊎ ((line_of work ≢ []) × Puts old new (line_of NoMemory) (status_of NoMemory) status)
