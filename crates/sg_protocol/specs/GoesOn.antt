-- A session of honest principals is never stuck.
use Rattle.std.specs.Prelude.{◌≡◌, ◌≢◌, ◌⊎◌, ℕ, ◌<◌, List, true, length, map, find, All, Some, None, IsTrue, is_some}
use Rattle.sg_model.specs.Last.{Map, last}
use Rattle.sg_model.specs.Lists.{below}
use Rattle.sg_model.specs.Names.{Name}
use Rattle.sg_model.specs.Shape.{source, role_at, end_of}
use Rattle.sg_model.specs.Values.{Value}
use Rattle.sg_model.specs.Limits.{most_joins, most_live, most_time}
use Rattle.sg_protocol.specs.Graph.{Graph, shape}
use Rattle.sg_protocol.specs.Frame.{Cast, Frame}
use Rattle.sg_protocol.specs.Spelling.{spelling}
use Rattle.sg_protocol.specs.Texts.{Hash}
use Rattle.sg_protocol.specs.Keyring.{Program}
use Rattle.sg_protocol.specs.Session.{Session, principal, time}
use Rattle.sg_protocol.specs.Calls.{Event, Act, Abandon, Deliver, Happened, Abandoned}
use Rattle.sg_protocol.specs.Node.{program_for, session_with, stranger}
use Rattle.sg_protocol.specs.Acting.{is_bad, sent, answer}
use Rattle.sg_protocol.specs.Past.{Past, node_of}
use Rattle.sg_protocol.specs.Schedule.{Schedule, graph_with, is_honest}
use Rattle.sg_protocol.specs.World.{Logged, World, frame_at, past_of}
use Rattle.sg_protocol.specs.Run.{run, cast_of_session}
use Rattle.sg_protocol.specs.Premises.{Premises}
use Rattle.sg_protocol.specs.IsSchedule.{AreCompiled, IsSchedule}
use Rattle.sg_protocol.specs.LastSteps.{honest_items}
use Rattle.sg_protocol.specs.Completeness.{IsSentTo, HadAnswer, IsAwaited}

-- the node to which the steps lead that were sent in the session
abbrev pub place_in : Graph → List ℕ → List Logged → ℕ
place_in g sid log = end_of (shape g) 0 (map (λ i. i.label) (honest_items sid log))

-- no edge leaves this node
abbrev pub IsAtEnd : Graph → List ℕ → List Logged → Type 0
IsAtEnd g sid log = (e : ℕ) → e < length g.edges → source (shape g) e ≢ place_in g sid log

-- a principal of the cast has abandoned the session
abbrev pub WasAbandoned : Cast → List ℕ → List Logged → Type 0
WasAbandoned cast sid log = (r : ℕ) × (r < length cast.names) × HadAnswer log (principal cast r) (Abandon sid) Abandoned

-- the principal at its turn sends a step along each edge that leaves the place, if the values are right and the last time has not come
pub record CanAct (sha : Hash) (w : World) (cast : Cast) (g : Graph) (sid : List ℕ) : Type 0 where
  pub who : Name
  pub has_turn : principal cast (role_at (shape g) (place_in g sid w.log)) ≡ who
  pub past : Past
  pub is_past : past_of w who ≡ Some past
  pub session : Session
  pub is_live : session_with (node_of past).live sid ≡ Some session
  pub program : Program
  pub is_program : program_for (node_of past).programs session.cast.graph session.role ≡ Some program
  pub sends : (label : ℕ) (values : Map Value) (confounders : List (List ℕ)) → label < length g.edges → source (shape g) label ≡ place_in g sid w.log →
      find (is_bad g label values) (below 256) ≡ None → time session < most_time →
      answer sha (node_of past) (Act sid label values confounders) ≡ sent sha (node_of past).keys program session label values confounders

-- the frame that was sent last in the session was not taken, and is awaited if its receiver shares keys with the cast and, if it joins, has room
pub record IsUnderWay (sha : Hash) (s : Schedule) (w : World) (cast : Cast) (sid : List ℕ) : Type 0 where
  pub number : ℕ
  pub who : Name
  pub frame : Frame
  pub recorded : frame_at w number ≡ Some (spelling frame)
  pub is_sent : IsSentTo w.log (spelling frame) who frame
  pub of_session : frame.sid ≡ sid
  pub receiver : principal cast frame.receiver ≡ who
  pub newest : last frame.items ≡ last (honest_items sid w.log)
  pub not_taken : (e : Event) → HadAnswer w.log who (Deliver (spelling frame)) (Happened e) → ⊥
  pub awaited : (past : Past) → past_of w who ≡ Some past → stranger past.keys cast ≡ None →
      (IsTrue (is_some frame.join) → (length (node_of past).joins < most_joins) × (length (node_of past).live < most_live)) → IsAwaited sha s w number who past frame

-- If the assumptions hold and all principals of a session are honest, it is at its end, or was abandoned by one of them, or the one at its turn can act, or the newest frame is under way
abbrev pub SessionsGoOn : Hash → Type 0
SessionsGoOn sha = (programs : List Program) (s : Schedule) → AreCompiled sha s.graphs programs → IsSchedule sha s →
    let w = run sha programs s in
    Premises sha s w →
    (sid : List ℕ) (cast : Cast) (g : Graph) → cast_of_session sid w.log ≡ Some cast → graph_with sha s.graphs cast.graph ≡ Some g → All (λ n. is_honest s n ≡ true) cast.names →
    IsAtEnd g sid w.log ⊎ (WasAbandoned cast sid w.log ⊎ (CanAct sha w cast g sid ⊎ IsUnderWay sha s w cast sid))
