-- What the answers of opening a ledger say of its file.
use Rattle.std.specs.Prelude.{◌≡◌, ◌⊎◌, ℕ, List, Result, IfOk, IfErr, ⊤}
use Rattle.sg_ledger.specs.Format.{Join, OpenLedger, IsLedger, IsFirstBadSlot}
use Rattle.sg_ledger.specs.declared.ledger.OpenFault.{OpenFault}
use Rattle.sg_ledger.specs.declared.ledger.OpenFault.TheVariants.{NotALedger, BadSlot, Failed, OutOfMemory}

-- what a refusal says of the slots of a file
abbrev pub RefusesSlots : List ℕ → OpenFault → Type 0
RefusesSlots file NotALedger = ⊥
RefusesSlots file (BadSlot slot) = IsFirstBadSlot file slot
RefusesSlots file Failed = ⊥
RefusesSlots file OutOfMemory = ⊤

-- what a refusal says of a file
abbrev pub Refuses : List ℕ → OpenFault → Type 0
Refuses file NotALedger = ¬ IsLedger file
Refuses file (BadSlot slot) = IsLedger file × IsFirstBadSlot file slot
Refuses file Failed = ⊤
Refuses file OutOfMemory = ⊤

-- These joins are opened, and the only refusals are that the disk failed or that memory ran out.
abbrev pub Opens : Result OpenLedger OpenFault → List Join → Type 0
Opens result joins =
    (IfOk result (λ ledger. ledger.joins ≡ joins)) × (IfErr result (λ e. (e ≡ Failed) ⊎ (e ≡ OutOfMemory)))
