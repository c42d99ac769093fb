-- The sessions of a log file, and what lines say of them so far.
use Rattle.std.specs.Prelude.{ℕ, Bool, true, false, List, [], ◌∷◌, ◌++◌, map, Option, Some, None, option_map, unwrap_or, replicate}
use Rattle.std.specs.Option.{option_map_or}
use Rattle.sg_model.specs.Last.{Map}
use Rattle.sg_model.specs.Names.{Name}
use Rattle.sg_model.specs.Values.{Value}
use Rattle.sg_protocol.specs.Graph.{Graph}
use Rattle.sg_protocol.specs.Calls.{Event, Sent, Received}
use Rattle.sg_protocol.specs.Walk.{StoredStep}
use Rattle.sg_audit.specs.Merged.{Log}
use Rattle.sg_audit.specs.LineContents.{StepContent, LogContent, SessionLine, LogHeadLine, EventLine, WalkLine}

-- a session with its logs, and its walk, if one is given
pub record Session : Type 0 where
  pub name : Name
  pub logs : List Log
  pub walk : Option (List StoredStep)

-- the logs of a file: the graph, and the sessions in their order
pub record Logs : Type 0 where
  pub graph : Graph
  pub sessions : List Session

-- what lines say: the sessions that are over, and the last one, which may go on
pub record LogsSoFar : Type 0 where
  pub over : List Session
  pub last : Option Session

-- all sessions
abbrev pub sessions_of : LogsSoFar → List Session
sessions_of t = option_map_or (λ s. t.over ++ s ∷ []) t.last t.over

-- ---- what one more line adds

-- the last element changed
abbrev pub change_last : {A : Type 0} → (A → A) → List A → List A
change_last f [] = []
change_last f (x ∷ []) = f x ∷ []
change_last f (x ∷ y ∷ ys) = x ∷ change_last f (y ∷ ys)

-- an event, with zeros for its session. No receipt joins
abbrev pub event : Bool → (role label time : ℕ) → Map Value → Event
event true role label time values = Sent (replicate 32 0) role label time values
event false role label time values = Received (replicate 32 0) role label time values false

-- the step, if its label is the graph's
abbrev pub stored_step : StepContent → StoredStep
stored_step s = record { label = option_map_or (λ l. l) s.label 0; writes = s.writes.pairs }

-- the last log with one more event of its role
abbrev pub with_event : (ℕ → Event) → List Log → List Log
with_event e logs = change_last (λ (l : Log). (l.0, l.1 ++ e l.0 ∷ [])) logs

-- the last session with other logs
abbrev pub with_logs : (List Log → List Log) → LogsSoFar → LogsSoFar
with_logs f t = record { over = t.over; last = option_map (λ s. record { name = s.name; logs = f s.logs; walk = s.walk }) t.last }

-- a session begins; the last one gets a log, the last log an event, the last session its walk
abbrev pub added : LogsSoFar → LogContent → LogsSoFar
added t (SessionLine n) = record { over = sessions_of t; last = Some (record { name = n; logs = []; walk = None }) }
added t (LogHeadLine role) = with_logs (λ logs. logs ++ (unwrap_or role 0, []) ∷ []) t
added t (EventLine sent label time v) = with_logs (with_event (λ r. event sent r (unwrap_or label 0) time v.pairs)) t
added t (WalkLine steps) = record { over = t.over; last = option_map (λ s. record { name = s.name; logs = s.logs; walk = Some (map stored_step steps) }) t.last }
