-- The traces of the sessions of a run.
use Rattle.std.specs.Prelude.{◌≡◌, ℕ, false, List, [], ◌∷◌, ◌++◌, map, flat_map, bytes_eq, Option, Some}
use Rattle.std.specs.Map.{lookup}
use Rattle.std.specs.List.{AllByRecursion}
use Rattle.sg_certify.specs.Traces.{IsTrace, Trace, Traces}
use Rattle.sg_certify.specs.Sessions.{steps_of_session}
use Rattle.sg_text.specs.Sessions.{firsts}
use Rattle.sg_certify.specs.Adding.{AreHonestIn}
use Rattle.sg_model.specs.Lists.{has_text, is_in}
use Rattle.sg_protocol.specs.Explaining.{IsShown}
use Rattle.sg_protocol.specs.Frame.{Cast}
use Rattle.sg_protocol.specs.Graph.{Graph}
use Rattle.sg_protocol.specs.Calls.{Call, Event, sid_of}
use Rattle.sg_protocol.specs.Headline.{IsExplained}
use Rattle.sg_protocol.specs.IsSchedule.{AreCompiled, IsSchedule}
use Rattle.sg_protocol.specs.Keyring.{Program}
use Rattle.sg_protocol.specs.Premises.{Premises}
use Rattle.sg_protocol.specs.Run.{run, cast_of_session, events_of_outcome}
use Rattle.sg_protocol.specs.Schedule.{Schedule, graph_with, honest_role}
use Rattle.sg_protocol.specs.Texts.{real}
use Rattle.sg_protocol.specs.Walk.{StoredStep}
use Rattle.sg_protocol.specs.World.{Logged}

-- the programs are those of the schedule's graphs, and both assumptions hold of its run
pub record IsUnbroken (programs : List Program) (s : Schedule) : Type 0 where
  pub compiled : AreCompiled real s.graphs programs
  pub schedule : IsSchedule real s
  pub premises : Premises real s (run real programs s)

-- the step comes next in the run, after these
pub record IsNext (programs : List Program) (s : Schedule) (before : List Logged) (l : Logged) : Type 0 where
  pub after : List Logged
  pub parts : (run real programs s).log ≡ before ++ l ∷ after

-- the sids of the steps' events, in order
abbrev pub sids_of : List Logged → List (List ℕ)
sids_of steps = map sid_of (flat_map (λ l. events_of_outcome l.outcome) steps)

-- the trace is that of the session's steps among these, with the graph and the honest roles of the cast that the session has in the whole log
pub record IsTraceOf (s : Schedule) (log steps : List Logged) (sid : List ℕ) (c : Trace) : Type 0 where
  pub cast : Cast
  pub is_cast : cast_of_session sid log ≡ Some cast
  pub graph : graph_with real s.graphs cast.graph ≡ Some c.graph
  pub honest : (r : ℕ) → is_in r c.honest ≡ honest_role s cast r
  pub trace : IsTrace c.graph sid (steps_of_session sid steps) c.shown

-- the traces are those of the sessions that have events in these steps of the run, in the order of their first events
pub record AreTraces (programs : List Program) (s : Schedule) (steps : List Logged) (c : Traces) : Type 0 where
  pub sids : map (λ (e : List ℕ × Trace). e.0) c ≡ firsts (sids_of steps)
  pub each : AllByRecursion (λ (e : List ℕ × Trace). IsTraceOf s (run real programs s).log steps e.0 e.1) c

-- the step, after these, has this event, in a session of this graph; if it is the session's first, these are the honest roles; and the walk shows what it took, if it took a frame
pub record IsShownStep (programs : List Program) (s : Schedule) (before : List Logged) (l : Logged) (g : Graph) (roles : List ℕ) (e : Event) (walk : List ℕ) : Type 0 where
  pub call : Call
  pub is_call : l.call ≡ Some call
  pub event : events_of_outcome l.outcome ≡ e ∷ []
  pub graph : (cast : Cast) → cast_of_session (sid_of e) (run real programs s).log ≡ Some cast → graph_with real s.graphs cast.graph ≡ Some g
  pub honest : (cast : Cast) → cast_of_session (sid_of e) (run real programs s).log ≡ Some cast → has_text (sid_of e) (sids_of before) ≡ false → AreHonestIn s.honest cast roles
  pub shown : IsShown g (sid_of e) before l walk

-- the trace of a session
abbrev pub trace_at : Traces → List ℕ → Option Trace
trace_at c sid = lookup (bytes_eq sid) c

-- these steps are a walk that explains the session
abbrev pub IsExplainedBy : List Program → Schedule → List ℕ → List StoredStep → Type 0
IsExplainedBy programs s sid steps = (e : IsExplained real s (run real programs s) sid) × (e.steps ≡ steps)
