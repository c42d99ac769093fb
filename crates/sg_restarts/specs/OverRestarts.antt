-- What holds of runs with restarts: deliveries, sessions that go on, walks, claims.
use Rattle.std.specs.Prelude.{◌≡◌, ◌≢◌, ◌⊎◌, ℕ, List, [], ◌∷◌, ◌++◌, All, true, map, option_map, option_and_then, Some, Ok}
use Rattle.sg_model.specs.Claims.{Claim, HoldsOnWalks}
use Rattle.sg_model.specs.Last.{last}
use Rattle.sg_model.specs.Names.{Name}
use Rattle.sg_protocol.specs.Graph.{Graph, shape}
use Rattle.sg_protocol.specs.Evidence.{IsView}
use Rattle.sg_protocol.specs.Frame.{Cast, Frame}
use Rattle.sg_protocol.specs.Reading.{read}
use Rattle.sg_protocol.specs.Texts.{Hash}
use Rattle.sg_protocol.specs.Keyring.{Program}
use Rattle.sg_protocol.specs.Calls.{Deliver, Happened}
use Rattle.sg_protocol.specs.Verdict.{receipt}
use Rattle.sg_protocol.specs.Node.{session_with}
use Rattle.sg_protocol.specs.Past.{Past, node_of}
use Rattle.sg_protocol.specs.Walk.{OnePath}
use Rattle.sg_protocol.specs.Schedule.{Schedule, Whole, DeliverStep, graph_with, is_honest, honest_role}
use Rattle.sg_protocol.specs.World.{Logged, Answered, past_of}
use Rattle.sg_protocol.specs.Run.{events_of, cast_of_session}
use Rattle.sg_protocol.specs.Premises.{hashed, CollisionFree, Premises}
use Rattle.sg_protocol.specs.Turn.{turn_in, turn_of}
use Rattle.sg_protocol.specs.IsSchedule.{AreCompiled, IsSchedule}
use Rattle.sg_protocol.specs.Headline.{IsExplained}
use Rattle.sg_protocol.specs.Explaining.{walk_after_steps, view_in, AllShown}
use Rattle.sg_protocol.specs.Completeness.{IsAwaited}
use Rattle.sg_protocol.specs.GoesOn.{IsAtEnd, WasAbandoned, CanAct, IsUnderWay}
use Rattle.sg_protocol.specs.Claims.{IsClaimKept}
use Rattle.sg_protocol.specs.Restarts.{StepOrRestart, Stepped, run_with_restarts, IsStepOrRestart}
use Rattle.sg_restarts.specs.Dropped.{WasDropped, WasDroppedByOne}

-- If the assumptions hold of a run with restarts, an awaited frame that is delivered next is accepted, unless a restart of its receiver dropped the session
abbrev pub DeliveryIsCompleteOverRestarts : Hash → Type 0
DeliveryIsCompleteOverRestarts sha = (programs : List Program) (s : Schedule) (xs : List StepOrRestart) → AreCompiled sha s.graphs programs → IsSchedule sha s → All (IsStepOrRestart sha s) xs →
    let w = run_with_restarts sha programs s xs in
    Premises sha s w →
    (number : ℕ) (who : Name) (past : Past) (f : Frame) → past_of w who ≡ Some past → IsAwaited sha s w number who past f → (WasDropped sha programs s xs who f.sid → ⊥) →
    option_map (λ l. l.outcome) (last (run_with_restarts sha programs s (xs ++ Stepped (DeliverStep who (Whole number)) ∷ [])).log) ≡ Some (Answered (Happened (receipt f)))

-- If the assumptions hold of a run with restarts and all principals of a session are honest, it is at its end, or was abandoned by one of them, or dropped by a restart of one, or the one at its turn can act, or the newest frame is under way, and no restart of its receiver dropped the session
abbrev pub SessionsGoOnOverRestarts : Hash → Type 0
SessionsGoOnOverRestarts sha = (programs : List Program) (s : Schedule) (xs : List StepOrRestart) → AreCompiled sha s.graphs programs → IsSchedule sha s → All (IsStepOrRestart sha s) xs →
    let w = run_with_restarts sha programs s xs in
    Premises sha s w →
    (sid : List ℕ) (cast : Cast) (g : Graph) → cast_of_session sid w.log ≡ Some cast → graph_with sha s.graphs cast.graph ≡ Some g → All (λ n. is_honest s n ≡ true) cast.names →
    IsAtEnd g sid w.log ⊎ (WasAbandoned cast sid w.log ⊎ (WasDroppedByOne sha programs s xs cast sid ⊎ (CanAct sha w cast g sid ⊎ ((u : IsUnderWay sha s w cast sid) × (WasDropped sha programs s xs u.who sid → ⊥)))))

-- If the assumptions hold of a run with restarts, the walk that is made event by event explains the events of the session, whichever such walks stand beside the steps
abbrev pub WalksExplainOverRestarts : Hash → Type 0
WalksExplainOverRestarts sha = (programs : List Program) (s : Schedule) (xs : List StepOrRestart) (sid : List ℕ) (cast : Cast) (g : Graph) (log : List (Logged × List ℕ)) → AreCompiled sha s.graphs programs → IsSchedule sha s → All (IsStepOrRestart sha s) xs →
    let w = run_with_restarts sha programs s xs in
    Premises sha s w → cast_of_session sid w.log ≡ Some cast → graph_with sha s.graphs cast.graph ≡ Some g → map (λ (l : Logged × List ℕ). l.0) log ≡ w.log → AllShown g sid [] log →
    OnePath g (honest_role s cast) (events_of sid w.log) (walk_after_steps g (honest_role s cast) sid [] log)

-- If the assumptions hold of a run with restarts, each frame of the session that was taken shows its receiver a view, so that such walks can stand beside all steps
abbrev pub FramesShowViewsOverRestarts : Hash → Type 0
FramesShowViewsOverRestarts sha = (programs : List Program) (s : Schedule) (xs : List StepOrRestart) (sid : List ℕ) (cast : Cast) (g : Graph) (before : List Logged) (l : Logged) (after : List Logged) (bs : List ℕ) (f : Frame) → AreCompiled sha s.graphs programs → IsSchedule sha s → All (IsStepOrRestart sha s) xs →
    let w = run_with_restarts sha programs s xs in
    Premises sha s w → cast_of_session sid w.log ≡ Some cast → graph_with sha s.graphs cast.graph ≡ Some g →
    w.log ≡ before ++ l ∷ after → l.call ≡ Some (Deliver bs) → read bs ≡ Ok f → l.outcome ≡ Answered (Happened (receipt f)) → f.sid ≡ sid →
    IsView g f.receiver (view_in (events_of sid before) f)

-- If the assumptions hold of a run with restarts, some walk explains each session with an event, and whichever does, each claim that holds of its graph is kept on it and by its events
abbrev pub ClaimsAreKeptOverRestarts : Hash → Type 0
ClaimsAreKeptOverRestarts sha = (programs : List Program) (s : Schedule) (xs : List StepOrRestart) → AreCompiled sha s.graphs programs → IsSchedule sha s → All (IsStepOrRestart sha s) xs →
    let w = run_with_restarts sha programs s xs in
    Premises sha s w → (sid : List ℕ) → events_of sid w.log ≢ [] →
    IsExplained sha s w sid × ((x : IsExplained sha s w sid) (c : Claim) → HoldsOnWalks (shape x.graph) c → IsClaimKept x.graph (honest_role s x.cast) (events_of sid w.log) x.steps c)

-- If no two hashed texts of a run with restarts have one digest, the first live session with a sid that is at its turn is the session with this sid
abbrev pub TurnIsOfSessionOverRestarts : Hash → Type 0
TurnIsOfSessionOverRestarts sha = (programs : List Program) (s : Schedule) (xs : List StepOrRestart) → AreCompiled sha s.graphs programs → IsSchedule sha s → All (IsStepOrRestart sha s) xs →
    let w = run_with_restarts sha programs s xs in
    CollisionFree sha (hashed s w) → (who : Name) (past : Past) (sid : List ℕ) → past_of w who ≡ Some past →
    turn_of (node_of past) sid ≡ option_and_then (turn_in (node_of past).programs) (session_with (node_of past).live sid)
