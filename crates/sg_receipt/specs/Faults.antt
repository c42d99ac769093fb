-- The faults of the program as refusals of the definitions. None is `OutOfMemory`.
use Rattle.std.specs.Prelude.{Option, Some, None}
use Rattle.sg_protocol.specs.Calls as Protocol
use Rattle.sg_receipt.specs.declared.fault.StartFault.{StartFault}
use Rattle.sg_receipt.specs.declared.fault.StartFault.TheVariants as starting
use Rattle.sg_receipt.specs.declared.fault.Refusal.{Refusal}
use Rattle.sg_receipt.specs.declared.fault.Refusal.TheVariants as refusals

-- why a start is refused
abbrev pub start_fault : StartFault → Option Protocol.StartFault
start_fault starting.UnknownGraph = Some Protocol.StartFault.UnknownGraph
start_fault starting.BadCast = Some Protocol.StartFault.BadCast
start_fault (starting.UnknownPeer name) = Some (Protocol.StartFault.UnknownPeer name)
start_fault starting.Joined = Some Protocol.StartFault.Joined
start_fault starting.CacheFull = Some Protocol.StartFault.CacheFull
start_fault starting.SessionsFull = Some Protocol.StartFault.SessionsFull
start_fault starting.OutOfMemory = None

-- why a delivery is refused
abbrev pub refusal : Refusal → Option Protocol.Refusal
refusal (refusals.Malformed at) = Some (Protocol.Refusal.Malformed at)
refusal refusals.UnknownGraph = Some Protocol.Refusal.UnknownGraph
refusal refusals.BadCast = Some Protocol.Refusal.BadCast
refusal (refusals.UnknownPeer name) = Some (Protocol.Refusal.UnknownPeer name)
refusal refusals.BadSession = Some Protocol.Refusal.BadSession
refusal refusals.Joined = Some Protocol.Refusal.Joined
refusal refusals.CacheFull = Some Protocol.Refusal.CacheFull
refusal refusals.SessionsFull = Some Protocol.Refusal.SessionsFull
refusal refusals.UnknownSession = Some Protocol.Refusal.UnknownSession
refusal refusals.NotWaiting = Some Protocol.Refusal.NotWaiting
refusal refusals.BadFrameTag = Some Protocol.Refusal.BadFrameTag
refusal refusals.NoSuchView = Some Protocol.Refusal.NoSuchView
refusal (refusals.BadTime item got least) = Some (Protocol.Refusal.BadTime item got least)
refusal (refusals.BadEvidence item) = Some (Protocol.Refusal.BadEvidence item)
refusal (refusals.BadOpening var) = Some (Protocol.Refusal.BadOpening var)
refusal refusals.OutOfMemory = None
