-- The headline: each session follows one walk, and no pair of session and role is joined twice.
use Rattle.std.specs.Prelude.{◌≡◌, ◌≢◌, ℕ, ◌<◌, List, [], Some, All, IsTrue, Contains, length, option_and_then}
use Rattle.sg_model.specs.Lists.{all_differ}
use Rattle.sg_model.specs.Names.{Name}
use Rattle.sg_protocol.specs.Graph.{Graph}
use Rattle.sg_protocol.specs.Frame.{Cast}
use Rattle.sg_protocol.specs.Texts.{Hash, session_id}
use Rattle.sg_protocol.specs.Keyring.{Program}
use Rattle.sg_protocol.specs.Session.{principal}
use Rattle.sg_protocol.specs.Calls.{Event, sid_of, role_of, does_join}
use Rattle.sg_protocol.specs.Past.{Past, JoinedOnce, AreAnswers, new_node, pairs_differ}
use Rattle.sg_protocol.specs.Walk.{StoredStep, OnePath}
use Rattle.sg_protocol.specs.Schedule.{Schedule, graph_with, honest_role}
use Rattle.sg_protocol.specs.World.{Logged, World}
use Rattle.sg_protocol.specs.Run.{run, events_of_outcome, events_of, cast_in, cast_of_session}
use Rattle.sg_protocol.specs.Premises.{hashed, CollisionFree, Premises}
use Rattle.sg_protocol.specs.IsSchedule.{AreCompiled, IsSchedule}

-- the session has a cast and a graph, and one walk of the graph explains its events, which are those at honest principals
pub record IsExplained (sha : Hash) (s : Schedule) (w : World) (sid : List ℕ) : Type 0 where
  pub cast : Cast
  pub is_cast : cast_of_session sid w.log ≡ Some cast
  pub graph : Graph
  pub is_graph : graph_with sha s.graphs cast.graph ≡ Some graph
  pub steps : List StoredStep
  pub path : OnePath graph (honest_role s cast) (events_of sid w.log) steps

-- If the assumptions hold, the events of each session are those of one walk
abbrev pub SessionsFollowWalks : Hash → Type 0
SessionsFollowWalks sha = (programs : List Program) (s : Schedule) → AreCompiled sha s.graphs programs → IsSchedule sha s →
    let w = run sha programs s in
    Premises sha s w → (sid : List ℕ) → events_of sid w.log ≢ [] → IsExplained sha s w sid

-- No honest principal of a run joins a pair of sid and role twice, whatever holds
abbrev pub NoneJoinsTwice : Hash → Type 0
NoneJoinsTwice sha = (programs : List Program) (s : Schedule) → All JoinedOnce (run sha programs s).pasts

-- A node joins no pair of sid and role twice, whatever it is asked, if the pairs that it was made with differ
abbrev pub NodesJoinOnce : Hash → Type 0
NodesJoinOnce sha = (past : Past) → IsTrue (pairs_differ past.first) → AreAnswers sha (new_node past.keys past.programs past.first) past.calls → JoinedOnce past

-- If the assumptions hold, each session follows one walk, and, whatever holds, no honest principal joins a pair of sid and role twice
abbrev pub Headline : Hash → Type 0
Headline sha = SessionsFollowWalks sha × NoneJoinsTwice sha

-- ---- one cast and one role

-- a step in which the principal had this event
abbrev pub HadEvent : World → Logged → Name → Event → Type 0
HadEvent w l who e = Contains w.log l × (l.who ≡ Some who) × Contains (events_of_outcome l.outcome) e

-- the event is of the session's one cast and its graph, and its role is the principal's in this cast
pub record IsOfCast (sha : Hash) (s : Schedule) (w : World) (l : Logged) (who : Name) (e : Event) : Type 0 where
  pub cast : Cast
  pub is_cast : cast_of_session (sid_of e) w.log ≡ Some cast
  pub graph : Graph
  pub is_graph : graph_with sha s.graphs cast.graph ≡ Some graph
  pub sid : session_id sha cast ≡ sid_of e
  pub differ : IsTrue (all_differ cast.names)
  pub role : role_of e < length cast.names
  pub principal : principal cast (role_of e) ≡ who
  -- it joins by no other cast
  pub joins : IsTrue (does_join e) → option_and_then cast_in l.call ≡ Some cast

-- If no two hashed texts of a run have one digest, all events of a sid are of one cast and one graph, each of the role that this cast gives the principal
abbrev pub SessionsHaveOneCast : Hash → Type 0
SessionsHaveOneCast sha = (programs : List Program) (s : Schedule) → AreCompiled sha s.graphs programs → IsSchedule sha s →
    let w = run sha programs s in
    CollisionFree sha (hashed s w) → (l : Logged) (who : Name) (e : Event) → HadEvent w l who e → IsOfCast sha s w l who e

-- If no two hashed texts of a run have one digest, all events of a principal in one session are of one role
abbrev pub NoneTakesTwoRoles : Hash → Type 0
NoneTakesTwoRoles sha = (programs : List Program) (s : Schedule) → AreCompiled sha s.graphs programs → IsSchedule sha s →
    let w = run sha programs s in
    CollisionFree sha (hashed s w) → (l l' : Logged) (who : Name) (e e' : Event) → HadEvent w l who e → HadEvent w l' who e' → sid_of e ≡ sid_of e' → role_of e ≡ role_of e'
