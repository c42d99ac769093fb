-- The schedule of all that is declared, with each graph hashed once.
use Rattle.std.specs.Prelude.{ℕ, List, map, unwrap_or, slice_get, []}
use Rattle.std.specs.List.{AllByRecursion}
use Rattle.sg_protocol.specs.Texts.{Hash}
use Rattle.sg_protocol.specs.Crafted.{nonce_of}
use Rattle.sg_protocol.specs.Schedule.{NamedSession, Schedule}
use Rattle.sg_sched.specs.Format.Items.{Session, SoFar, graphs_declared, declared}
use Rattle.sg_sched_text.specs.Holding.{HasCast}

-- the schedule of what is declared
abbrev pub schedule_declared : Hash → SoFar → Schedule
schedule_declared sha past = record {
  graphs = graphs_declared past;
  honest = past.honest;
  keys = past.keys;
  sessions = map (declared sha (graphs_declared past)) past.sessions;
  steps = past.steps;
}

-- a session, by the digests of the graphs
abbrev pub declared_by : List (List ℕ) → Session → NamedSession
declared_by digests s = record {
  name = s.name;
  cast = record { version = s.version; graph = unwrap_or (slice_get digests s.graph) []; nonce = nonce_of s.nonce; names = s.names };
}

-- each session has a cast
abbrev pub HaveCasts : ℕ → List Session → Type 0
HaveCasts graphs sessions = AllByRecursion (HasCast graphs) sessions
