-- The refusals of the program as those of the definitions.
use Rattle.std.specs.Prelude.{◌≡◌, Option, Some}
use Rattle.sg_protocol.specs.Calls as Protocol
use Rattle.sg_role.specs.declared.fault.Refusal.{Refusal}
use Rattle.sg_role.specs.declared.fault.Refusal.TheVariants as refusals
use Rattle.sg_role.specs.declared.fault.SendFault.{SendFault}
use Rattle.sg_role.specs.declared.fault.SendFault.TheVariants as faults

-- the first row that holds is this one, or memory ran out
abbrev pub Refuses : Option Protocol.Refusal → Refusal → Type 0
Refuses first refusals.BadFrameTag = first ≡ Some Protocol.Refusal.BadFrameTag
Refuses first refusals.NoSuchView = first ≡ Some Protocol.Refusal.NoSuchView
Refuses first (refusals.BadTime item got least) = first ≡ Some (Protocol.Refusal.BadTime item got least)
Refuses first (refusals.BadEvidence item) = first ≡ Some (Protocol.Refusal.BadEvidence item)
Refuses first (refusals.BadOpening var) = first ≡ Some (Protocol.Refusal.BadOpening var)
Refuses first refusals.OutOfMemory = Unit {0}

-- the first row that holds is this one, or memory ran out
abbrev pub RefusesToSend : Option Protocol.SendFault → SendFault → Type 0
RefusesToSend first faults.NoSuchLabel = first ≡ Some Protocol.SendFault.NoSuchLabel
RefusesToSend first (faults.BadValues var) = first ≡ Some (Protocol.SendFault.BadValues var)
RefusesToSend first faults.TimeSpent = first ≡ Some Protocol.SendFault.TimeSpent
RefusesToSend first faults.OutOfMemory = Unit {0}
