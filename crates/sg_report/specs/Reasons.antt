-- The words for why a step was refused.
use Rattle.std.specs.Prelude.{ℕ, List, ◌++◌, codes}
use Rattle.std.specs.Fmt.{decimal}
use Rattle.sg_protocol.specs.Calls.{Refusal, StartFault, ActFault, SendFault}
use Rattle.sg_protocol.specs.Graph.{Graph, variable_name}

-- why a delivery was refused. A variable has its name by the graph
abbrev pub refusal_text : Graph → Refusal → List ℕ
refusal_text g (Refusal.Malformed at) = codes "malformed at " ++ decimal at
refusal_text g Refusal.UnknownGraph = codes "unknown-graph"
refusal_text g Refusal.BadCast = codes "bad-cast"
refusal_text g (Refusal.UnknownPeer name) = codes "unknown-peer " ++ name
refusal_text g Refusal.BadSession = codes "bad-session"
refusal_text g Refusal.Joined = codes "joined"
refusal_text g Refusal.CacheFull = codes "cache-full"
refusal_text g Refusal.SessionsFull = codes "sessions-full"
refusal_text g Refusal.UnknownSession = codes "unknown-session"
refusal_text g Refusal.NotWaiting = codes "not-waiting"
refusal_text g Refusal.BadFrameTag = codes "bad-frame-tag"
refusal_text g Refusal.NoSuchView = codes "no-such-view"
refusal_text g (Refusal.BadTime item got least) = codes "bad-time item " ++ decimal item ++ codes " got " ++ decimal got ++ codes " least " ++ decimal least
refusal_text g (Refusal.BadEvidence item) = codes "bad-evidence item " ++ decimal item
refusal_text g (Refusal.BadOpening x) = codes "bad-opening " ++ variable_name g x

-- why a start was refused
abbrev pub start_text : StartFault → List ℕ
start_text StartFault.UnknownGraph = codes "unknown-graph"
start_text StartFault.BadCast = codes "bad-cast"
start_text (StartFault.UnknownPeer name) = codes "unknown-peer " ++ name
start_text StartFault.Joined = codes "joined"
start_text StartFault.CacheFull = codes "cache-full"
start_text StartFault.SessionsFull = codes "sessions-full"

-- why a step was not sent
abbrev pub send_text : Graph → SendFault → List ℕ
send_text g SendFault.NoSuchLabel = codes "no-such-label"
send_text g (SendFault.BadValues x) = codes "bad-values " ++ variable_name g x
send_text g SendFault.TimeSpent = codes "time-spent"

-- why an act was refused
abbrev pub act_text : Graph → ActFault → List ℕ
act_text g ActFault.UnknownSession = codes "unknown-session"
act_text g ActFault.NotYourTurn = codes "not-your-turn"
act_text g (ActFault.Send fault) = send_text g fault
