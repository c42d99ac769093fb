-- What the lines and the names of a report are made of, by what is kept.
use Rattle.std.specs.Prelude.{◌≡◌, ℕ, List, filter_map, Option, None, Some, option_map, slice_get}
use Rattle.sg_protocol.specs.Calls.{sid_of}
use Rattle.sg_protocol.specs.Schedule.{NamedSession, Step, AbandonStep, who_of}
use Rattle.sg_protocol.specs.Texts.{real, session_id}
use Rattle.sg_text.specs.Sessions.{KnownSessions}
use Rattle.sg_protocol.specs.Graph.{Graph}
use Rattle.sg_report.specs.Lines.{graph_or_none, reported_text}
use Rattle.sg_report.specs.Outcome.{graph_in, outcome_of}
use Rattle.sg_report.specs.Report.{StepLine}
use Rattle.sg_report.specs.declared.outcome.Outcome.{Outcome}
use Rattle.sg_report.specs.Reported.{event_reported, session_reported}
use Rattle.sg_world.specs.Account.{declared_in, graph_reported}
use Rattle.sg_world.specs.RecordModel.{TakenStep}
use Rattle.sg_setting.specs.Setting.{Setting}

-- the sid of the event that came of a step, if one did
abbrev pub sid_kept : TakenStep → Option (List ℕ)
sid_kept e = option_map sid_of (event_reported (outcome_of e.outcome))

-- the sessions that are declared, and those of the events of these steps
abbrev pub known_in : List NamedSession → List TakenStep → KnownSessions
known_in sessions entries = record { declared = declared_in sessions; events = filter_map sid_kept entries }

-- the sid that a step gives up
abbrev pub left_by : List NamedSession → Step → Option (List ℕ)
left_by sessions (AbandonStep who n) = option_map (λ d. session_id real d.cast) (slice_get sessions n)
left_by sessions other = None

-- the line of a step that was taken
abbrev pub line_kept : Setting → TakenStep → StepLine
line_kept d e = record {
  who = who_of e.step;
  session = session_reported (left_by d.sessions e.step) (outcome_of e.outcome);
  graph = graph_reported d.graphs (graph_in e.outcome) (outcome_of e.outcome);
  reported = outcome_of e.outcome;
}

-- the same outcome by the graph by which its line names its numbers, or none if its own says the same
abbrev pub IsRenamed : List Graph → Outcome → Option Outcome → Type 0
IsRenamed graphs o None =
    (session : List ℕ) → reported_text session (graph_or_none (graph_in o)) (outcome_of o) ≡ reported_text session (graph_or_none (graph_reported graphs (graph_in o) (outcome_of o))) (outcome_of o)
IsRenamed graphs o (Some other) = (outcome_of other ≡ outcome_of o) × (graph_in other ≡ graph_reported graphs (graph_in o) (outcome_of o))
