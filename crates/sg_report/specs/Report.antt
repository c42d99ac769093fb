-- The report of a replay: a line for each step, the two assumptions, and the walk of each session with an event.
use Rattle.std.specs.Prelude.{◌≡◌, ℕ, ◌+◌, Bool, true, false, ◌&&◌, if◌then◌else◌, List, [], ◌∷◌, ◌++◌, map, filter, flat_map, codes, Option, Some, None, unwrap_or, is_none, bytes_eq, All}
use Rattle.std.specs.Fmt.{decimal}
use Rattle.std.specs.Option.{option_map_or}
use Rattle.sg_model.specs.Names.{Name}
use Rattle.sg_protocol.specs.Calls.{Event, sid_of}
use Rattle.sg_protocol.specs.Graph.{Graph}
use Rattle.sg_protocol.specs.Walk.{StoredStep, OnePath}
use Rattle.sg_text.specs.Sessions.{KnownSessions, session_name, sids_known}
use Rattle.sg_text.specs.Walks.{walk_line}
use Rattle.sg_report.specs.Lines.{graph_or_none, line_text}
use Rattle.sg_report.specs.Reported.{Reported}

-- ---- what is reported

-- a step: the principal, or None for a craft; the sid of the session that its line names, if it names one; the graph by which it names numbers; and the outcome
pub record StepLine : Type 0 where
  pub who : Option Name
  pub session : Option (List ℕ)
  pub graph : Option Graph
  pub reported : Reported

-- a tag of two honest principals that was found right in a step, and that nobody had made
pub record Forgery : Type 0 where
  pub step : ℕ
  pub one : Name
  pub two : Name

-- the steps; the declared sessions with their sids; the graph, the honest roles and the events of each session; and the assumptions
pub record Account : Type 0 where
  pub lines : List StepLine
  pub declared : List (Name × List ℕ)
  pub graph_of : List ℕ → Graph
  pub honest_in : List ℕ → ℕ → Bool
  pub events : List Event
  pub forged : Option Forgery
  pub collision_free : Bool

-- the declared sessions, and the sids of the events
abbrev pub known_sessions : Account → KnownSessions
known_sessions a = record { declared = a.declared; events = map sid_of a.events }

-- what a session is called: its first declared name, or x and its number among the others
abbrev pub name_in : KnownSessions → List ℕ → Name
name_in m sid = session_name 120 m sid

-- ---- the steps

-- the line of step k
abbrev pub line : KnownSessions → ℕ → StepLine → List ℕ
line m k l = line_text (option_map_or (name_in m) l.session []) (graph_or_none l.graph) k (unwrap_or l.who []) l.reported

-- the lines of these steps, the first of number k
abbrev pub lines_from : KnownSessions → ℕ → List StepLine → List ℕ
lines_from m k [] = []
lines_from m k (l ∷ ls) = line m k l ++ lines_from m (k + 1) ls

-- ---- the assumptions

-- whether no tag of honest principals was forged
abbrev pub unforged_line : Option Forgery → List ℕ
unforged_line None = codes "premise unforged holds\n"
unforged_line (Some f) = codes "premise unforged broken at step " ++ decimal f.step ++ codes " for " ++ f.one ++ codes " and " ++ f.two ++ 10 ∷ []

-- whether no two texts had one digest
abbrev pub collision_line : Bool → List ℕ
collision_line true = codes "premise collision-free holds\n"
collision_line false = codes "premise collision-free broken\n"

-- both lines
abbrev pub premise_lines : Option Forgery → (collision_free : Bool) → List ℕ
premise_lines forged collision_free = unforged_line forged ++ collision_line collision_free

-- both assumptions hold
abbrev pub premises_hold : Account → Bool
premises_hold a = is_none a.forged && a.collision_free

-- ---- the walks

-- a session's walk
pub record SessionWalk : Type 0 where
  pub sid : List ℕ
  pub steps : List StoredStep

-- the line of a session's walk
abbrev pub walk_of : Account → SessionWalk → List ℕ
walk_of a w = walk_line (name_in (known_sessions a) w.sid) (a.graph_of w.sid) (a.honest_in w.sid) w.steps

-- ---- the report

-- the text with these walks, which stand there if both assumptions hold
abbrev pub report_text : Account → List SessionWalk → List ℕ
report_text a walks = lines_from (known_sessions a) 1 a.lines ++ premise_lines a.forged a.collision_free ++ (if premises_hold a then flat_map (walk_of a) walks else [])

-- the events of a session
abbrev pub events_in : Account → List ℕ → List Event
events_in a sid = filter (λ e. bytes_eq (sid_of e) sid) a.events

-- the walk explains the events of its session
abbrev pub Explains : Account → SessionWalk → Type 0
Explains a w = OnePath (a.graph_of w.sid) (a.honest_in w.sid) (events_in a w.sid) w.steps

-- there is a walk for each session with an event, in the order of the sessions, and it explains what happened in it
pub record AreWalks (a : Account) (walks : List SessionWalk) : Type 0 where
  pub sessions : map (λ w. w.sid) walks ≡ sids_known (known_sessions a)
  pub explain : All (Explains a) walks

-- the text of the steps and the assumptions, and if both hold of walks that explain the sessions
pub record IsReport (a : Account) (text : List ℕ) : Type 0 where
  pub walks : List SessionWalk
  pub right : premises_hold a ≡ true → AreWalks a walks
  pub spelled : text ≡ report_text a walks
