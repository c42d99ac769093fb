-- The walks of the sessions of a replay, and why a session has none.
use Rattle.std.specs.Prelude.{◌≡◌, ◌≢◌, ℕ, List, [], ◌++◌, map, flat_map, Option, option_map}
use Rattle.std.specs.List.{AllByRecursion}
use Rattle.sg_certify.specs.Traces.{Trace, Traces}
use Rattle.sg_certify.specs.Runs.{trace_at}
use Rattle.sg_certify.specs.Events.{explaining_walk}
use Rattle.sg_text.specs.Sessions.{KnownSessions, firsts, sids_known}
use Rattle.sg_text.specs.Walks.{HasSteps, walk_line}
use Rattle.sg_model.specs.Lists.{is_in}
use Rattle.sg_protocol.specs.Calls.{sid_of}
use Rattle.sg_protocol.specs.Graph.{Graph}
use Rattle.sg_protocol.specs.Premises.{Premises}
use Rattle.sg_protocol.specs.Run.{events_of}
use Rattle.sg_protocol.specs.Texts.{real}
use Rattle.sg_protocol.specs.Walk.{StoredStep, OnePath}
use Rattle.sg_report.specs.Report.{known_sessions, name_in}
use Rattle.sg_walk.specs.Model.{steps_of}
use Rattle.sg_walk.specs.declared.stored.StoredWalk.{StoredWalk}
use Rattle.sg_world.specs.Account.{account, graph_of, honest_in}
use Rattle.sg_setting.specs.Replay.{Replay, run_of}
use Rattle.sg_world.specs.declared.session_walk.WalkFault.{WalkFault}
use Rattle.sg_world.specs.declared.session_walk.WalkFault.TheVariants.{NoSuchSession, PremiseBroken, OutOfMemory}

-- both assumptions hold of the run
abbrev pub PremisesHold : Replay → Type 0
PremisesHold r = Premises real r.schedule (run_of r)

-- ---- no walk

-- why there is no walk, in order. Memory runs out only for a session with an event
abbrev pub IsWalkFault : Replay → List ℕ → WalkFault → Type 0
IsWalkFault r sid NoSuchSession = events_of sid (run_of r).log ≡ []
IsWalkFault r sid PremiseBroken = (events_of sid (run_of r).log ≢ []) × (PremisesHold r → ⊥)
IsWalkFault r sid OutOfMemory = events_of sid (run_of r).log ≢ []

-- ---- walks

-- the walk of a session, with a graph and the roles that are honest
pub record Path : Type 0 where
  pub sid : List ℕ
  pub graph : Graph
  pub honest : List ℕ
  pub steps : List StoredStep

-- it explains the session, with the graph and the honest roles of the session's cast
pub record IsPath (r : Replay) (p : Path) : Type 0 where
  pub graph : p.graph ≡ graph_of r p.sid
  pub honest : (role : ℕ) → is_in role p.honest ≡ honest_in r p.sid role
  pub path : OnePath (graph_of r p.sid) (honest_in r p.sid) (events_of p.sid (run_of r).log) p.steps

-- the line of a session's walk
abbrev pub path_line : KnownSessions → Path → List ℕ
path_line m p = walk_line (name_in m p.sid) p.graph (λ role. is_in role p.honest) p.steps

-- the lines of the walks of all sessions with an event are written, in their order, and each walk explains its session
pub record WalksAreWritten (r : Replay) (old new : List ℕ) : Type 0 where
  pub paths : List Path
  pub each : AllByRecursion (IsPath r) paths
  pub sids : map (λ p. p.sid) paths ≡ sids_known (known_sessions (account r))
  pub text : new ≡ old ++ flat_map (path_line (known_sessions (account r))) paths

-- a session's identifier and the steps of its walk
abbrev pub sid_and_steps : List ℕ × StoredWalk → List ℕ × List StoredStep
sid_and_steps w = (w.0, steps_of w.1)

-- these are the sessions with an event, in the order of their first events, each beside the steps of a walk that explains it
pub record WalksAreMade (r : Replay) (walks : List (List ℕ × List StoredStep)) : Type 0 where
  pub sids : map (λ (w : List ℕ × List StoredStep). w.0) walks ≡ firsts (map sid_of (account r).events)
  pub each : AllByRecursion (λ (w : List ℕ × List StoredStep). OnePath (graph_of r w.0) (honest_in r w.0) (events_of w.0 (run_of r).log) w.1) walks

-- ---- walks that are made

-- the steps of a trace's walk
abbrev pub steps_of_trace : Trace → List StoredStep
steps_of_trace c = explaining_walk c.graph (λ role. is_in role c.honest) [] c.shown

-- a session's identifier and the steps of its trace's walk
abbrev pub sid_and_walk : List ℕ × Trace → List ℕ × List StoredStep
sid_and_walk e = (e.0, steps_of_trace e.1)

-- the walk of a session's trace
abbrev pub path_of_trace : List ℕ × Trace → Path
path_of_trace e = record { sid = e.0; graph = e.1.graph; honest = e.1.honest; steps = steps_of_trace e.1 }

-- the walk of a session, if it has a trace
abbrev pub path_at : Traces → List ℕ → Option Path
path_at traces sid = option_map (λ (c : Trace). path_of_trace (sid, c)) (trace_at traces sid)

-- the graph of each trace has the steps of its walk
abbrev pub CanWalkAll : Traces → Type 0
CanWalkAll traces = AllByRecursion (λ (e : List ℕ × Trace). HasSteps e.1.graph (steps_of_trace e.1)) traces
