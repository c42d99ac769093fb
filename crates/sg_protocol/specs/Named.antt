-- The session, and the graph, by which the numbers in an answer have names.
use Rattle.std.specs.Prelude.{◌≡◌, ℕ, ◌<◌, ◌-◌, ◌⊎◌, ⊤, Bool, true, false, List, length, Option, Some, option_map, option_and_then, Contains, All}
use Rattle.std.specs.List.{AllByRecursion}
use Rattle.std.specs.Result.{result_ok}
use Rattle.sg_model.specs.Lists.{is_in, keys_of}
use Rattle.sg_model.specs.Names.{Name}
use Rattle.sg_protocol.specs.Graph.{Graph}
use Rattle.sg_protocol.specs.Frame.{Cast}
use Rattle.sg_protocol.specs.Reading.{read}
use Rattle.sg_protocol.specs.Texts.{Hash, session_id}
use Rattle.sg_protocol.specs.Keyring.{Program}
use Rattle.sg_protocol.specs.Session.{Session, new_session}
use Rattle.sg_protocol.specs.Calls.{Event, sid_of, role_of, Call, Answer, events_of_answer, Started, Sent, Received, BadOpening, Start, Act, Abandon, Deliver, Happened, Sends, NotActed, NotDelivered, BadValues, Send}
use Rattle.sg_protocol.specs.Node.{Node, program_for, starter, session_with}
use Rattle.sg_protocol.specs.Acting.{answer}
use Rattle.sg_protocol.specs.Notes.{session_of_frame}
use Rattle.sg_protocol.specs.Past.{Past, node_of, is_call_of}
use Rattle.sg_protocol.specs.Schedule.{Schedule, graph_with}
use Rattle.sg_protocol.specs.World.{Logged, World, past_of, Answered}
use Rattle.sg_protocol.specs.Run.{run, cast_of_session}
use Rattle.sg_protocol.specs.Premises.{hashed, CollisionFree}
use Rattle.sg_protocol.specs.Beginnings.{first_steps}
use Rattle.sg_protocol.specs.IsSchedule.{IsProgram, AreCompiled, IsSchedule}

-- ---- the session of a call

-- the live session with the sid, with its program
abbrev pub live_with : Node → List ℕ → Option (Program × Session)
live_with n sid = option_and_then (λ s. option_map (λ p. (p, s)) (program_for n.programs s.cast.graph s.role)) (session_with n.live sid)

-- the session that a call is of, with its program: the one that would start, the live one, or the one that the frame is for
abbrev pub session_of_call : Hash → Node → Call → Option (Program × Session)
session_of_call sha n (Start c) = option_map (λ p. (p, new_session (session_id sha c) c p.role)) (starter n.programs c.graph)
session_of_call sha n (Act sid label values confounders) = live_with n sid
session_of_call sha n (Abandon sid) = live_with n sid
session_of_call sha n (Deliver bytes) = option_and_then (session_of_frame n) (result_ok (read bytes))

-- the graph of this program: of the starter of the cast's graph, of the live session, or of the joining frame's cast and receiver
abbrev pub graph_of_call : Hash → Node → Call → Option Graph
graph_of_call sha n c = option_map (λ (x : Program × Session). x.0.graph) (session_of_call sha n c)

-- ---- what an answer names

-- the answer is an event, or a refusal that names a variable
abbrev pub names_numbers : Answer → Bool
names_numbers (Happened e) = true
names_numbers (Sends e to f) = true
names_numbers (NotActed (Send (BadValues x))) = true
names_numbers (NotDelivered (BadOpening x)) = true
names_numbers other = false

-- the graph has the role, the label and the variables
abbrev pub HasNumbers : Graph → ℕ → ℕ → List ℕ → Type 0
HasNumbers g r label xs = (r < length g.roles) × (label < length g.edges) × AllByRecursion (λ x. x < length g.variables) xs

-- the graph has what an event names
abbrev pub HasEvent : Graph → Event → Type 0
HasEvent g (Started sid r) = r < length g.roles
HasEvent g (Sent sid r label time values) = HasNumbers g r label (keys_of values)
HasEvent g (Received sid r label time values joins) = HasNumbers g r label (keys_of values)

-- the graph has what an answer names. A variable whose value is refused is the graph's, or the call gave a value for it
abbrev pub HasNamed : Graph → Call → Answer → Type 0
HasNamed g c (Happened e) = HasEvent g e
HasNamed g c (Sends e to f) = HasEvent g e
HasNamed g (Act sid label values confounders) (NotActed (Send (BadValues x))) = (x < length g.variables) ⊎ (is_in x (keys_of values) ≡ true)
HasNamed g c (NotDelivered (BadOpening x)) = x < length g.variables
HasNamed g c other = ⊤

-- the call is of a session, whose program's graph has what the answer names, and whose sid and role an event has
pub record IsNamed (sha : Hash) (n : Node) (c : Call) (a : Answer) : Type 0 where
  pub program : Program
  pub session : Session
  pub is_session : session_of_call sha n c ≡ Some (program, session)
  pub is_call : is_call_of sha session.sid c ≡ true
  pub is_graph : session.cast.graph ≡ program.digest
  pub is_role : session.role ≡ program.role
  pub named : HasNamed program.graph c a
  pub event : (e : Event) → Contains (events_of_answer a) e → (sid_of e ≡ session.sid) × (role_of e ≡ session.role)

-- an act gives values for numbers below 256 alone
abbrev pub GivesVariables : Call → Type 0
GivesVariables (Act sid label values confounders) = AllByRecursion (λ x. x < 256) (keys_of values)
GivesVariables c = ⊤

-- What any node answers to such a call has its names in the graph of the call, if its programs are programs
abbrev pub AnswersAreNamed : Hash → Type 0
AnswersAreNamed sha = (n : Node) (c : Call) → All (IsProgram sha) n.programs → GivesVariables c → names_numbers (answer sha n c) ≡ true → IsNamed sha n c (answer sha n c)

-- ---- in runs

-- the entry is what the node of the principal's past, as it was before the step, answers to the call
pub record IsAnswered (sha : Hash) (programs : List Program) (s : Schedule) (l : Logged) (c : Call) : Type 0 where
  pub who : Name
  pub past : Past
  pub is_who : l.who ≡ Some who
  pub is_past : past_of (run sha programs (first_steps (l.number - 1) s)) who ≡ Some past
  pub outcome : l.outcome ≡ Answered (answer sha (node_of past) c)

-- Each entry of a run with a call is so answered
abbrev pub EntriesAreAnswered : Hash → Type 0
EntriesAreAnswered sha = (programs : List Program) (s : Schedule) (l : Logged) (c : Call) → Contains (run sha programs s).log l → l.call ≡ Some c → IsAnswered sha programs s l c

-- Each entry of a run that names a role, a label or a variable has its names in the graph of its call
abbrev pub EntriesAreNamed : Hash → Type 0
EntriesAreNamed sha = (programs : List Program) (s : Schedule) → AreCompiled sha s.graphs programs → IsSchedule sha s → (l : Logged) (c : Call) → Contains (run sha programs s).log l → l.call ≡ Some c →
    (a : IsAnswered sha programs s l c) → names_numbers (answer sha (node_of a.past) c) ≡ true → IsNamed sha (node_of a.past) c (answer sha (node_of a.past) c)

-- the session and its program are of the graph that the schedule has for its cast, and the cast is the one of its sid, if that has an event, as that of an event and of a live session has
pub record IsOfOneGraph (sha : Hash) (s : Schedule) (w : World) (n : Node) (a : Answer) (p : Program) (x : Session) : Type 0 where
  pub graph : graph_with sha s.graphs x.cast.graph ≡ Some p.graph
  pub cast : (cast : Cast) → cast_of_session x.sid w.log ≡ Some cast → x.cast ≡ cast
  pub event : (e : Event) → Contains (events_of_answer a) e → cast_of_session x.sid w.log ≡ Some x.cast
  pub live : Contains n.live x → cast_of_session x.sid w.log ≡ Some x.cast

-- If no two hashed texts of a run have one digest, each such entry has its names in the graph of the one cast of its session
abbrev pub EntriesHaveOneGraph : Hash → Type 0
EntriesHaveOneGraph sha = (programs : List Program) (s : Schedule) → AreCompiled sha s.graphs programs → IsSchedule sha s →
    let w = run sha programs s in
    CollisionFree sha (hashed s w) → (l : Logged) (c : Call) → Contains w.log l → l.call ≡ Some c → (a : IsAnswered sha programs s l c) → names_numbers (answer sha (node_of a.past) c) ≡ true →
    (t : IsNamed sha (node_of a.past) c (answer sha (node_of a.past) c)) → IsOfOneGraph sha s w (node_of a.past) (answer sha (node_of a.past) c) t.program t.session

-- where the entries of a run have their names
pub record StepsAreNamed (sha : Hash) : Type 0 where
  pub at_nodes : AnswersAreNamed sha
  pub answered : EntriesAreAnswered sha
  pub entries : EntriesAreNamed sha
  pub one_graph : EntriesHaveOneGraph sha
