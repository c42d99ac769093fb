-- What else holds of honest principals that run apart: one cast and role, turns, walks, claims.
use Rattle.std.specs.Prelude.{◌≡◌, ◌≢◌, ℕ, List, [], ◌∷◌, ◌++◌, All, map, option_and_then, Some, Ok}
use Rattle.sg_model.specs.Claims.{Claim, HoldsOnWalks}
use Rattle.sg_model.specs.Names.{Name}
use Rattle.sg_protocol.specs.Graph.{Graph, shape}
use Rattle.sg_protocol.specs.Evidence.{IsView}
use Rattle.sg_protocol.specs.Frame.{Cast, Frame}
use Rattle.sg_protocol.specs.Reading.{read}
use Rattle.sg_protocol.specs.Texts.{Hash}
use Rattle.sg_protocol.specs.Calls.{Event, sid_of, role_of, Deliver, Happened}
use Rattle.sg_protocol.specs.Verdict.{receipt}
use Rattle.sg_protocol.specs.Node.{session_with}
use Rattle.sg_protocol.specs.Past.{Past, node_of}
use Rattle.sg_protocol.specs.Walk.{OnePath}
use Rattle.sg_protocol.specs.Schedule.{Schedule, graph_with, honest_role}
use Rattle.sg_protocol.specs.World.{Logged, World, Answered, past_of}
use Rattle.sg_protocol.specs.Run.{events_of, cast_of_session}
use Rattle.sg_protocol.specs.Premises.{hashed, CollisionFree, Premises}
use Rattle.sg_protocol.specs.Turn.{turn_in, turn_of}
use Rattle.sg_protocol.specs.Headline.{HadEvent, IsExplained, IsOfCast}
use Rattle.sg_protocol.specs.Explaining.{walk_after_steps, view_in, AllShown}
use Rattle.sg_protocol.specs.Claims.{IsClaimKept}
use Rattle.sg_apart.specs.Apart.{Begins, CallAt, AreCallsInRange, honest_are, run_apart}
use Rattle.sg_apart.specs.Laws.{AnsweredAt, IsHonest, IsOrder, as_begun, asked}

-- ---- of which runs

-- A law of runs, in which these principals are honest and have these graphs, holds of principals that run apart, whatever they are asked
abbrev pub HoldsOfRuns : Hash → (Schedule → World → Type 0) → Type 0
HoldsOfRuns sha Law = (ps : List Past) (calls : List CallAt) → All (Begins sha) ps → AreCallsInRange calls → Law (honest_are ps) (run_apart sha ps calls)

-- It holds of the pasts of honest principals, in each order of their calls
abbrev pub HoldsOfPasts : Hash → (Schedule → World → Type 0) → Type 0
HoldsOfPasts sha Law = (ps : List Past) (calls : List AnsweredAt) → All (IsHonest sha) ps → IsOrder ps calls → Law (honest_are ps) (run_apart sha (map as_begun ps) (map asked calls))

-- both
abbrev pub HoldsApart : Hash → (Schedule → World → Type 0) → Type 0
HoldsApart sha Law = HoldsOfRuns sha Law × HoldsOfPasts sha Law

-- ---- one cast and one role

-- If no two hashed texts have one digest, all events of a sid are of one cast and one graph, each of the role that this cast gives the principal
abbrev pub SessionsHaveOneCast : Hash → Schedule → World → Type 0
SessionsHaveOneCast sha s w = CollisionFree sha (hashed s w) → (l : Logged) (who : Name) (e : Event) → HadEvent w l who e → IsOfCast sha s w l who e

-- If no two hashed texts have one digest, all events of a principal in one session are of one role
abbrev pub NoneTakesTwoRoles : Hash → Schedule → World → Type 0
NoneTakesTwoRoles sha s w = CollisionFree sha (hashed s w) → (l l' : Logged) (who : Name) (e e' : Event) → HadEvent w l who e → HadEvent w l' who e' → sid_of e ≡ sid_of e' → role_of e ≡ role_of e'

-- ---- turns

-- If no two hashed texts have one digest, the first live session with a sid that is at its turn is the session with this sid
abbrev pub TurnIsOfSession : Hash → Schedule → World → Type 0
TurnIsOfSession sha s w = CollisionFree sha (hashed s w) → (who : Name) (past : Past) (sid : List ℕ) → past_of w who ≡ Some past →
    turn_of (node_of past) sid ≡ option_and_then (turn_in (node_of past).programs) (session_with (node_of past).live sid)

-- ---- walks

-- If the assumptions hold, the walk that is made event by event explains the events of the session, whichever walks that show what was taken stand beside the calls
abbrev pub WalksExplain : Hash → Schedule → World → Type 0
WalksExplain sha s w = (sid : List ℕ) (cast : Cast) (g : Graph) (log : List (Logged × List ℕ)) →
    Premises sha s w → cast_of_session sid w.log ≡ Some cast → graph_with sha s.graphs cast.graph ≡ Some g → map (λ (l : Logged × List ℕ). l.0) log ≡ w.log → AllShown g sid [] log →
    OnePath g (honest_role s cast) (events_of sid w.log) (walk_after_steps g (honest_role s cast) sid [] log)

-- If the assumptions hold, each frame of the session that was taken shows its receiver a view, so that such walks can stand beside all calls
abbrev pub FramesShowViews : Hash → Schedule → World → Type 0
FramesShowViews sha s w = (sid : List ℕ) (cast : Cast) (g : Graph) (before : List Logged) (l : Logged) (after : List Logged) (bs : List ℕ) (f : Frame) →
    Premises sha s w → cast_of_session sid w.log ≡ Some cast → graph_with sha s.graphs cast.graph ≡ Some g →
    w.log ≡ before ++ l ∷ after → l.call ≡ Some (Deliver bs) → read bs ≡ Ok f → l.outcome ≡ Answered (Happened (receipt f)) → f.sid ≡ sid →
    IsView g f.receiver (view_in (events_of sid before) f)

-- ---- claims

-- If the assumptions hold, some walk explains each session with an event, and whichever does, each claim that holds of its graph is kept on it and by its events
abbrev pub ClaimsAreKept : Hash → Schedule → World → Type 0
ClaimsAreKept sha s w = Premises sha s w → (sid : List ℕ) → events_of sid w.log ≢ [] →
    IsExplained sha s w sid × ((x : IsExplained sha s w sid) (c : Claim) → HoldsOnWalks (shape x.graph) c → IsClaimKept x.graph (honest_role s x.cast) (events_of sid w.log) x.steps c)
