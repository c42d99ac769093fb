-- Logs that fit one walk.
use Rattle.std.specs.Prelude.{◌≡◌, ℕ, ◌==◌, ◌<◌, Bool, false, List, [], ◌∷◌, filter, length, Option, None, IsTrue, ⊤}
use Rattle.std.specs.List.{AllByRecursion}
use Rattle.sg_model.specs.Lists.{is_in}
use Rattle.sg_protocol.specs.Graph.{Graph}
use Rattle.sg_protocol.specs.Calls.{Event, role_of}
use Rattle.sg_protocol.specs.Walk.{StoredStep, OnePath}
use Rattle.sg_audit.specs.Merged.{Log, IsMerged, roles_of, events_of, clashes}

-- the event is the role's
abbrev pub is_by : ℕ → Event → Bool
is_by r e = role_of e == r

-- no time clashes
abbrev pub NoneClashes : List Log → Type 0
NoneClashes logs = (time : ℕ) → clashes (events_of logs) time ≡ false

-- the events of all logs by time are the honest part of the walk, no time clashes, and of each role they are its log in its order. The roles that have a log are honest
pub record Agree (g : Graph) (logs : List Log) (steps : List StoredStep) : Type 0 where
  pub merged : List Event
  pub is_merged : IsMerged logs merged
  pub apart : NoneClashes logs
  pub restricted : AllByRecursion (λ (l : Log). filter (is_by l.0) merged ≡ l.1) logs
  pub path : OnePath g (λ r. is_in r (roles_of logs)) merged steps

-- ---- the logs of one session, as they are read

-- no role has two logs
abbrev pub roles_differ : List Log → Type 0
roles_differ [] = ⊤
roles_differ (l ∷ ls) = (is_in l.0 (roles_of ls) ≡ false) × roles_differ ls

-- the log is of a role of the graph, and its events are the role's
abbrev pub IsLog : Graph → Log → Type 0
IsLog g l = (l.0 < length g.roles) × AllByRecursion (λ e. IsTrue (is_by l.0 e)) l.1

-- each role has a log
abbrev pub AllHaveLogs : Graph → List Log → Type 0
AllHaveLogs g logs = (r : ℕ) → r < length g.roles → IsTrue (is_in r (roles_of logs))

-- the logs of a session. A walk is given exactly if a role has no log
pub record AreLogs (g : Graph) (logs : List Log) (walk : Option (List StoredStep)) : Type 0 where
  pub differ : roles_differ logs
  pub each : AllByRecursion (IsLog g) logs
  pub unknown : walk ≡ None → AllHaveLogs g logs
