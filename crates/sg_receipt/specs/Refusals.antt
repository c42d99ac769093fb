-- The refusals of the program as those of the definitions, and the graphs by which they name variables.
use Rattle.std.specs.Prelude.{Option, Some, None}
use Rattle.sg_protocol.specs.Calls as Protocol
use Rattle.sg_protocol.specs.Graph.{Graph}
use Rattle.sg_receipt.specs.declared.refusal.StartRefusal.{StartRefusal}
use Rattle.sg_receipt.specs.declared.refusal.StartRefusal.TheVariants as starts
use Rattle.sg_receipt.specs.declared.refusal.ActRefusal.{ActRefusal}
use Rattle.sg_receipt.specs.declared.refusal.ActRefusal.TheVariants as acts
use Rattle.sg_receipt.specs.declared.refusal.DeliveryRefusal.{DeliveryRefusal}
use Rattle.sg_receipt.specs.declared.refusal.DeliveryRefusal.TheVariants as deliveries

-- why a start is refused
abbrev pub start_refusal : StartRefusal → Protocol.StartFault
start_refusal starts.UnknownGraph = Protocol.StartFault.UnknownGraph
start_refusal starts.BadCast = Protocol.StartFault.BadCast
start_refusal (starts.UnknownPeer name) = Protocol.StartFault.UnknownPeer name
start_refusal starts.Joined = Protocol.StartFault.Joined
start_refusal starts.CacheFull = Protocol.StartFault.CacheFull
start_refusal starts.SessionsFull = Protocol.StartFault.SessionsFull

-- why an act is refused
abbrev pub act_refusal : ActRefusal → Protocol.ActFault
act_refusal acts.UnknownSession = Protocol.ActFault.UnknownSession
act_refusal acts.NotYourTurn = Protocol.ActFault.NotYourTurn
act_refusal acts.NoSuchLabel = Protocol.ActFault.Send Protocol.SendFault.NoSuchLabel
act_refusal (acts.BadValues var graph) = Protocol.ActFault.Send (Protocol.SendFault.BadValues var)
act_refusal acts.TimeSpent = Protocol.ActFault.Send Protocol.SendFault.TimeSpent

-- the graph by which it names a variable
abbrev pub graph_of_act_refusal : ActRefusal → Option Graph
graph_of_act_refusal (acts.BadValues var graph) = Some graph.now
graph_of_act_refusal other = None

-- why a delivery is refused
abbrev pub delivery_refusal : DeliveryRefusal → Protocol.Refusal
delivery_refusal (deliveries.Malformed at) = Protocol.Refusal.Malformed at
delivery_refusal deliveries.UnknownGraph = Protocol.Refusal.UnknownGraph
delivery_refusal deliveries.BadCast = Protocol.Refusal.BadCast
delivery_refusal (deliveries.UnknownPeer name) = Protocol.Refusal.UnknownPeer name
delivery_refusal deliveries.BadSession = Protocol.Refusal.BadSession
delivery_refusal deliveries.Joined = Protocol.Refusal.Joined
delivery_refusal deliveries.CacheFull = Protocol.Refusal.CacheFull
delivery_refusal deliveries.SessionsFull = Protocol.Refusal.SessionsFull
delivery_refusal deliveries.UnknownSession = Protocol.Refusal.UnknownSession
delivery_refusal deliveries.NotWaiting = Protocol.Refusal.NotWaiting
delivery_refusal deliveries.BadFrameTag = Protocol.Refusal.BadFrameTag
delivery_refusal deliveries.NoSuchView = Protocol.Refusal.NoSuchView
delivery_refusal (deliveries.BadTime item got least) = Protocol.Refusal.BadTime item got least
delivery_refusal (deliveries.BadEvidence item) = Protocol.Refusal.BadEvidence item
delivery_refusal (deliveries.BadOpening var graph) = Protocol.Refusal.BadOpening var

-- the graph by which it names a variable
abbrev pub graph_of_delivery_refusal : DeliveryRefusal → Option Graph
graph_of_delivery_refusal (deliveries.BadOpening var graph) = Some graph.now
graph_of_delivery_refusal other = None
