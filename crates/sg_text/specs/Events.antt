-- How events are written.
use Rattle.std.specs.Prelude.{ℕ, List, [], ◌++◌, codes}
use Rattle.std.specs.Fmt.{decimal}
use Rattle.sg_model.specs.Names.{Name}
use Rattle.sg_protocol.specs.Calls.{Event, Started, Sent, Received}
use Rattle.sg_protocol.specs.Graph.{Graph, role_name}
use Rattle.sg_graph.specs.Parts.{edge_name}
use Rattle.sg_text.specs.Values.{values_text}

-- a step along a label's edge in a session
abbrev pub moved_text : (session word : List ℕ) → Graph → (label time : ℕ) → List ℕ
moved_text session word g label time = session ++ word ++ edge_name g label ++ codes " time " ++ decimal time

-- an event without its values, in a session of this name
abbrev pub event_text : (session : List ℕ) → Graph → Event → List ℕ
event_text session g (Started sid r) = session ++ codes " started as " ++ role_name g r
event_text session g (Sent sid r label time values) = moved_text session (codes " sent ") g label time
event_text session g (Received sid r label time values joins) = moved_text session (codes " received ") g label time

-- the principal to whom a frame goes, and the frame's number
abbrev pub sent_to : Name → ℕ → List ℕ
sent_to to frame = codes " to " ++ to ++ codes " as f" ++ decimal frame

-- the values of an event
abbrev pub event_values : Graph → Event → List ℕ
event_values g (Started sid r) = []
event_values g (Sent sid r label time values) = values_text g values
event_values g (Received sid r label time values joins) = values_text g values
