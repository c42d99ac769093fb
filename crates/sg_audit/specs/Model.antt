-- What the program holds of a session's logs, as the values of the definitions.
use Rattle.std.specs.Prelude.{ℕ, List, map, Option, option_map}
use Rattle.sg_protocol.specs.Walk.{StoredStep}
use Rattle.sg_walk.specs.Model.{event_of, steps_of}
use Rattle.sg_walk.specs.declared.event.Event.{Event as CodeEvent}
use Rattle.sg_audit.specs.Merged.{Log}
use Rattle.sg_audit.specs.declared.session.SessionLog.{SessionLog}

-- a log that is held
abbrev pub log_of : ℕ × List CodeEvent → Log
log_of l = (l.0, map event_of l.1)

-- the logs of a session
abbrev pub logs_of : SessionLog → List Log
logs_of s = map log_of s.logs

-- the steps of the walk that is given, if one is
abbrev pub reported_of : SessionLog → Option (List StoredStep)
reported_of s = option_map steps_of s.walk
