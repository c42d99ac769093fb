-- What a step of a role leaves, and what is noted.
use Rattle.std.specs.Prelude.{◌≡◌, ◌++◌, ◌+◌, ℕ, List, Bool, true, false}
use Rattle.sg_model.specs.Names.{Name}
use Rattle.sg_model.specs.Last.{Map}
use Rattle.sg_model.specs.Values.{Value}
use Rattle.sg_protocol.specs.Calls as Protocol
use Rattle.sg_protocol.specs.Calls.{Event}
use Rattle.sg_protocol.specs.Representation.{Held}
use Rattle.sg_protocol.specs.Notes.{Notes}
use Rattle.sg_walk.specs.Model.{event_of}
use Rattle.sg_role.specs.Model.{RoleState}
use Rattle.sg_role.specs.declared.sent.Sent.{Sent}
use Rattle.sg_role.specs.declared.sent.Sent.TheVariants.{Waiting, Ended}
use Rattle.sg_role.specs.declared.turn_or_done.TurnOrDone.{TurnOrDone}
use Rattle.sg_role.specs.declared.turn_or_done.TurnOrDone.TheVariants.{Turn, Done}

-- what was noted before, and more
abbrev pub with_notes : Notes → Notes → Notes
with_notes n more = record { made = n.made ++ more.made; found = n.found ++ more.found; hashed = n.hashed ++ more.hashed }

-- the event of a step along a label with these values, one tick after the last
abbrev pub step_of : Held → ℕ → Map Value → Event
step_of h label values = Protocol.Event.Sent h.sid h.role label (h.kept.time + 1) values

-- the event of what was sent
abbrev pub event_sent : Sent → Event
event_sent (Waiting a e f) = event_of e
event_sent (Ended d e f) = event_of e

-- the principal that the made frame is for, and its bytes
abbrev pub frame_made : Sent → Name × List ℕ
frame_made (Waiting a e f) = f
frame_made (Ended d e f) = f

-- the role waits for a turn with this state if it may return, and otherwise has ended
abbrev pub WaitsOrEnds : Bool → RoleState → Sent → Type 0
WaitsOrEnds returns state (Waiting a e f) = (returns ≡ true) × (a ≡ state)
WaitsOrEnds returns state (Ended d e f) = returns ≡ false

-- the role is at its turn with this state if the place leads on, and otherwise has ended
abbrev pub TurnsOrEnds : Bool → RoleState → TurnOrDone → Type 0
TurnsOrEnds leads_on state (Turn t) = (leads_on ≡ true) × (t ≡ state)
TurnsOrEnds leads_on state (Done d) = leads_on ≡ false
