-- Which refusals a file that represents joins leaves.
use Rattle.std.proofs.Common.{◌≡◌, ◌⊎◌, inl, inr, List, ℕ, refl}
use Rattle.sg_ledger.specs.Format.{Join, IsLedger, Represents}
use Rattle.sg_ledger.specs.Opening.{Refuses, RefusesSlots}
use Rattle.sg_ledger.specs.declared.ledger.OpenFault.{OpenFault}
use Rattle.sg_ledger.specs.declared.ledger.OpenFault.TheVariants.{NotALedger, BadSlot, Failed, OutOfMemory}
use Rattle.sg_ledger.proofs.SlotBySlot.{represents_not_bad}

-- none except for the disk and memory
pub no_refusal : (file : List ℕ) (joins : List Join) (e : OpenFault) → Represents file joins → Refuses file e → (e ≡ Failed) ⊎ (e ≡ OutOfMemory)
no_refusal file joins NotALedger represents refused = absurd (refused represents.ledger)
no_refusal file joins (BadSlot slot) represents refused = absurd (represents_not_bad file joins slot represents refused.1)
no_refusal file joins Failed represents refused = inl refl
no_refusal file joins OutOfMemory represents refused = inr refl

-- what is refused of the slots of a ledger is refused of its file
pub slots_refused : (file : List ℕ) (e : OpenFault) → IsLedger file → RefusesSlots file e → Refuses file e
slots_refused file NotALedger ledger refused = absurd refused
slots_refused file (BadSlot slot) ledger refused = (ledger, refused)
slots_refused file Failed ledger refused = absurd refused
slots_refused file OutOfMemory ledger refused = tt
