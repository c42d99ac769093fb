-- What holds of the walks and traces of the sessions of a run.
use Rattle.std.specs.Prelude.{◌≡◌, ℕ, List, [], ◌∷◌, ◌++◌, map, Some, Ok}
use Rattle.sg_protocol.specs.Calls.{Event, Deliver, Happened}
use Rattle.sg_protocol.specs.Evidence.{IsView}
use Rattle.sg_protocol.specs.Frame.{Cast, Frame}
use Rattle.sg_protocol.specs.Graph.{Graph}
use Rattle.sg_protocol.specs.Explaining.{AllShown, view_in}
use Rattle.sg_protocol.specs.IsSchedule.{AreCompiled, IsSchedule}
use Rattle.sg_protocol.specs.Keyring.{Program}
use Rattle.sg_protocol.specs.Premises.{Premises}
use Rattle.sg_protocol.specs.Reading.{read}
use Rattle.sg_protocol.specs.Run.{run, events_of, events_of_outcome, cast_of_session}
use Rattle.sg_protocol.specs.Schedule.{Schedule, graph_with, honest_role}
use Rattle.sg_protocol.specs.Texts.{Hash}
use Rattle.sg_protocol.specs.Verdict.{receipt}
use Rattle.sg_protocol.specs.Walk.{OnePath}
use Rattle.sg_protocol.specs.World.{Logged, Answered}
use Rattle.sg_certify.specs.Events.{explaining_walk}
use Rattle.sg_certify.specs.Adding.{IsAdded}
use Rattle.sg_certify.specs.Sessions.{events_beside, steps_of_session}
use Rattle.sg_certify.specs.Traces.{Traces, IsTrace}
use Rattle.sg_certify.specs.Runs.{AreTraces, IsNext, IsShownStep, IsUnbroken}

-- If the assumptions hold, the walk of a session's events is one path of them, whichever walks that show what was taken stand beside its steps
abbrev pub SessionsAreExplained : Hash → Type 0
SessionsAreExplained sha = (programs : List Program) (s : Schedule) (sid : List ℕ) (cast : Cast) (g : Graph) (part : List (Logged × List ℕ)) → AreCompiled sha s.graphs programs → IsSchedule sha s →
    let w = run sha programs s in
    Premises sha s w → cast_of_session sid w.log ≡ Some cast → graph_with sha s.graphs cast.graph ≡ Some g → map (λ (l : Logged × List ℕ). l.0) part ≡ steps_of_session sid w.log → AllShown g sid [] part →
    (map (λ (p : Event × List ℕ). p.0) (events_beside sid part) ≡ events_of sid w.log) × OnePath g (honest_role s cast) (events_of sid w.log) (explaining_walk g (honest_role s cast) [] (events_beside sid part))

-- If the assumptions hold, each frame that was taken in a session shows its receiver a view, by the session's steps alone
abbrev pub SessionsShowViews : Hash → Type 0
SessionsShowViews sha = (programs : List Program) (s : Schedule) (sid : List ℕ) (cast : Cast) (g : Graph) (before : List Logged) (l : Logged) (after : List Logged) (bs : List ℕ) (f : Frame) → AreCompiled sha s.graphs programs → IsSchedule sha s →
    let w = run sha programs s in
    Premises sha s w → cast_of_session sid w.log ≡ Some cast → graph_with sha s.graphs cast.graph ≡ Some g →
    steps_of_session sid w.log ≡ before ++ l ∷ after → l.call ≡ Some (Deliver bs) → read bs ≡ Ok f → l.outcome ≡ Answered (Happened (receipt f)) → f.sid ≡ sid →
    IsView g f.receiver (view_in (events_of sid before) f)

-- In a run in which the assumptions hold, traces of its steps so far are with one more event beside a walk that shows what it took those of the steps with its step
abbrev pub TracesGoOn : Type 0
TracesGoOn = (programs : List Program) (s : Schedule) (before : List Logged) (l : Logged) (g : Graph) (honest : List ℕ) (e : Event) (walk : List ℕ) (old new : Traces) → IsUnbroken programs s → IsNext programs s before l →
    IsShownStep programs s before l g honest e walk → AreTraces programs s before old → IsAdded g honest e walk old new → AreTraces programs s (before ++ l ∷ []) new

-- If the assumptions hold, the walk of the events of a trace of all its steps is one path of the session's events
abbrev pub TracesAreExplained : Hash → Type 0
TracesAreExplained sha = (programs : List Program) (s : Schedule) (sid : List ℕ) (cast : Cast) (g : Graph) (shown : List (Event × List ℕ)) → AreCompiled sha s.graphs programs → IsSchedule sha s →
    let w = run sha programs s in
    Premises sha s w → cast_of_session sid w.log ≡ Some cast → graph_with sha s.graphs cast.graph ≡ Some g → IsTrace g sid (steps_of_session sid w.log) shown →
    OnePath g (honest_role s cast) (events_of sid w.log) (explaining_walk g (honest_role s cast) [] shown)

-- A step without an event leaves traces as they are
abbrev pub OthersPass : Type 0
OthersPass = (programs : List Program) (s : Schedule) (before : List Logged) (l : Logged) (c : Traces) → events_of_outcome l.outcome ≡ [] → AreTraces programs s before c → AreTraces programs s (before ++ l ∷ []) c
