-- The calls of a node, its answers, its events, and the reasons for which it refuses.
use Rattle.std.specs.Prelude.{ℕ, List, [], ◌∷◌, Bool, true, false}
use Rattle.sg_model.specs.Last.{Map}
use Rattle.sg_model.specs.Names.{Name}
use Rattle.sg_model.specs.Values.{Value}
use Rattle.sg_protocol.specs.Frame.{Cast, Frame}

-- what a role did in a session. Values stand in the order of their variables
pub data Event : Type 0 where
  Started : (sid : List ℕ) (role : ℕ) → Event
  Sent : (sid : List ℕ) (role label time : ℕ) (values : Map Value) → Event
  Received : (sid : List ℕ) (role label time : ℕ) (values : Map Value) (joins : Bool) → Event

-- the sid of an event
abbrev pub sid_of : Event → List ℕ
sid_of (Started sid r) = sid
sid_of (Sent sid r label time values) = sid
sid_of (Received sid r label time values joins) = sid

-- the role of an event
abbrev pub role_of : Event → ℕ
role_of (Started sid r) = r
role_of (Sent sid r label time values) = r
role_of (Received sid r label time values joins) = r

-- the event joins a session
abbrev pub does_join : Event → Bool
does_join (Started sid r) = true
does_join (Sent sid r label time values) = false
does_join (Received sid r label time values joins) = joins

-- why a delivery is refused, in the order in which it is looked at
pub data Refusal : Type 0 where
  Malformed : (at : ℕ) → Refusal
  UnknownGraph : Refusal
  BadCast : Refusal
  UnknownPeer : Name → Refusal
  BadSession : Refusal
  Joined : Refusal
  CacheFull : Refusal
  SessionsFull : Refusal
  UnknownSession : Refusal
  NotWaiting : Refusal
  BadFrameTag : Refusal
  NoSuchView : Refusal
  BadTime : (item got least : ℕ) → Refusal
  BadEvidence : (item : ℕ) → Refusal
  BadOpening : (variable : ℕ) → Refusal

-- why a start is refused
pub data StartFault : Type 0 where
  UnknownGraph : StartFault
  BadCast : StartFault
  UnknownPeer : Name → StartFault
  Joined : StartFault
  CacheFull : StartFault
  SessionsFull : StartFault

-- why a step is not sent
pub data SendFault : Type 0 where
  NoSuchLabel : SendFault
  BadValues : (variable : ℕ) → SendFault
  TimeSpent : SendFault

-- why an act is refused
pub data ActFault : Type 0 where
  UnknownSession : ActFault
  NotYourTurn : ActFault
  Send : SendFault → ActFault

-- what a node is asked
pub data Call : Type 0 where
  Start : Cast → Call
  Act : (sid : List ℕ) (label : ℕ) (values : Map Value) (confounders : List (List ℕ)) → Call
  Abandon : (sid : List ℕ) → Call
  Deliver : (bytes : List ℕ) → Call

-- what it answers. A frame goes to a principal
pub data Answer : Type 0 where
  Happened : Event → Answer
  Sends : Event → Name → Frame → Answer
  Abandoned : Answer
  NotStarted : StartFault → Answer
  NotActed : ActFault → Answer
  NotAbandoned : Answer
  NotDelivered : Refusal → Answer

-- the event of an answer, if it has one
abbrev pub events_of_answer : Answer → List Event
events_of_answer (Happened e) = e ∷ []
events_of_answer (Sends e to f) = e ∷ []
events_of_answer other = []
