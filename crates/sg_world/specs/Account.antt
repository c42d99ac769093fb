-- The account of a replay: what its report says, by the run.
use Rattle.std.specs.Prelude.{ℕ, nat_lt, Bool, false, List, ◌++◌, map, flat_map, find, length, zip, Option, Some, None, is_none, option_map, option_and_then}
use Rattle.std.specs.Option.{option_map_or, option_to_list}
use Rattle.sg_protocol.specs.Broken.{first_forged, first_collision}
use Rattle.sg_protocol.specs.Calls.{Send, BadValues}
use Rattle.sg_protocol.specs.Frame.{Cast}
use Rattle.sg_protocol.specs.Graph.{Graph}
use Rattle.sg_protocol.specs.Notes.{Note}
use Rattle.sg_protocol.specs.Premises.{hashed}
use Rattle.sg_protocol.specs.Run.{events_of_outcome, cast_of_session}
use Rattle.sg_protocol.specs.Schedule.{NamedSession, graph_with, honest_role}
use Rattle.sg_protocol.specs.Texts.{real, session_id}
use Rattle.sg_protocol.specs.World.{Logged}
use Rattle.sg_report.specs.Lines.{graph_or_none}
use Rattle.sg_report.specs.Report.{StepLine, Forgery, Account}
use Rattle.sg_report.specs.Reported.{Reported, NotActed, reported_log, session_reported, sid_left}
use Rattle.sg_world.specs.Entries.{graph_of_entry}
use Rattle.sg_setting.specs.Replay.{Replay, run_of}

-- ---- the lines

-- the variable for which an act was refused
abbrev pub variable_refused : Reported → Option ℕ
variable_refused (NotActed (Send (BadValues x))) = Some x
variable_refused other = None

-- the graph by which a line names its numbers: that of its call. If this one doesn't have the variable for which an act was refused, it is the first graph that has it
abbrev pub graph_reported : List Graph → Option Graph → Reported → Option Graph
graph_reported graphs g reported = option_map_or (λ x. find (λ h. nat_lt x (length h.variables)) (option_to_list g ++ graphs)) (variable_refused reported) g

-- the line of an entry of which this is reported
abbrev pub line_of_entry : Replay → Logged × Reported → StepLine
line_of_entry r e = record {
  who = e.0.who;
  session = session_reported (option_and_then sid_left e.0.call) e.1;
  graph = graph_reported r.schedule.graphs (graph_of_entry r.programs r.schedule e.0) e.1;
  reported = e.1;
}

-- a line for each entry
abbrev pub lines_of : Replay → List StepLine
lines_of r = map (line_of_entry r) (zip (run_of r).log (reported_log (run_of r).log))

-- ---- the sessions

-- the cast of a session's first event
abbrev pub cast_met : Replay → List ℕ → Option Cast
cast_met r sid = cast_of_session sid (run_of r).log

-- the graph of a session, by its cast
abbrev pub graph_of : Replay → List ℕ → Graph
graph_of r sid = graph_or_none (option_and_then (λ c. graph_with real r.schedule.graphs c.graph) (cast_met r sid))

-- whether the session's role has an honest principal
abbrev pub honest_in : Replay → List ℕ → ℕ → Bool
honest_in r sid role = option_map_or (λ c. honest_role r.schedule c role) (cast_met r sid) false

-- the declared sessions with their sids
abbrev pub declared_in : List NamedSession → List (List ℕ × List ℕ)
declared_in sessions = map (λ d. (d.name, session_id real d.cast)) sessions

-- ---- the whole

-- what the report says of a forged note
abbrev pub forgery : ℕ × Note → Forgery
forgery n = record { step = n.0; one = n.1.one; two = n.1.two }

-- the account of a replay
abbrev pub account : Replay → Account
account r = record {
  lines = lines_of r;
  declared = declared_in r.schedule.sessions;
  graph_of = graph_of r;
  honest_in = honest_in r;
  events = flat_map (λ l. events_of_outcome l.outcome) (run_of r).log;
  forged = option_map forgery (first_forged r.schedule (run_of r));
  collision_free = is_none (first_collision real (hashed r.schedule (run_of r)));
}
