-- The faults of the program as refusals of the definitions. None is `OutOfMemory`.
use Rattle.std.specs.Prelude.{Option, Some, None, option_map}
use Rattle.sg_protocol.specs.Calls as Protocol
use Rattle.sg_role.specs.declared.fault.Refusal.{Refusal as RoleRefusal}
use Rattle.sg_role.specs.declared.fault.Refusal.TheVariants as role
use Rattle.sg_role.specs.declared.fault.SendFault.{SendFault}
use Rattle.sg_role.specs.declared.fault.SendFault.TheVariants as sending
use Rattle.sg_node.specs.declared.fault.ActFault.{ActFault}
use Rattle.sg_node.specs.declared.fault.ActFault.TheVariants as acting

-- a refusal of the role that waits
abbrev pub role_refusal : RoleRefusal → Option Protocol.Refusal
role_refusal role.BadFrameTag = Some Protocol.Refusal.BadFrameTag
role_refusal role.NoSuchView = Some Protocol.Refusal.NoSuchView
role_refusal (role.BadTime item got least) = Some (Protocol.Refusal.BadTime item got least)
role_refusal (role.BadEvidence item) = Some (Protocol.Refusal.BadEvidence item)
role_refusal (role.BadOpening var) = Some (Protocol.Refusal.BadOpening var)
role_refusal role.OutOfMemory = None

-- why a step is not sent
abbrev pub send_fault : SendFault → Option Protocol.SendFault
send_fault sending.NoSuchLabel = Some Protocol.SendFault.NoSuchLabel
send_fault (sending.BadValues var) = Some (Protocol.SendFault.BadValues var)
send_fault sending.TimeSpent = Some Protocol.SendFault.TimeSpent
send_fault sending.OutOfMemory = None

-- why an act is refused
abbrev pub act_fault : ActFault → Option Protocol.ActFault
act_fault acting.UnknownSession = Some Protocol.ActFault.UnknownSession
act_fault acting.NotYourTurn = Some Protocol.ActFault.NotYourTurn
act_fault (acting.Send fault) = option_map Protocol.ActFault.Send (send_fault fault)
act_fault acting.OutOfMemory = None
