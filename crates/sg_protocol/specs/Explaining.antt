-- The walk of a session, made event by event.
use Rattle.std.specs.Prelude.{◌≡◌, ℕ, ◌==◌, Bool, if◌then◌else◌, List, [], ◌∷◌, ◌++◌, map, filter_map, Option, Some, None, Ok, ⊤}
use Rattle.std.specs.List.{list_any}
use Rattle.std.specs.Option.{option_or}
use Rattle.sg_model.specs.Last.{Map, last, after_last}
use Rattle.sg_model.specs.Lists.{is_in, value_at, keys_of}
use Rattle.sg_model.specs.Shape.{sender}
use Rattle.sg_model.specs.Values.{Value}
use Rattle.sg_law.specs.Explaining.{after_honest}
use Rattle.sg_protocol.specs.Graph.{Graph, shape, writes}
use Rattle.sg_protocol.specs.Evidence.{View, IsView}
use Rattle.sg_protocol.specs.Frame.{Cast, Frame}
use Rattle.sg_protocol.specs.Reading.{read}
use Rattle.sg_protocol.specs.Texts.{Hash}
use Rattle.sg_protocol.specs.Keyring.{Program}
use Rattle.sg_protocol.specs.Calls.{Event, Started, Sent, Received, Deliver, Happened}
use Rattle.sg_protocol.specs.Verdict.{seen, receipt}
use Rattle.sg_protocol.specs.Walk.{StoredStep, shown, OnePath}
use Rattle.sg_protocol.specs.Schedule.{Schedule, graph_with, honest_role}
use Rattle.sg_protocol.specs.World.{Logged, Answered}
use Rattle.sg_protocol.specs.Run.{run, events_of, cast_of_session}
use Rattle.sg_protocol.specs.Premises.{Premises}
use Rattle.sg_protocol.specs.IsSchedule.{AreCompiled, IsSchedule}
use Rattle.sg_protocol.specs.Named.{IsAnswered}
use Rattle.sg_protocol.specs.Notes.{session_of_frame}
use Rattle.sg_protocol.specs.Past.{node_of}
use Rattle.sg_protocol.specs.Session.{Session, origin}

-- ---- the walk

-- steps along these labels, all values hidden
abbrev pub hidden_steps : Graph → List ℕ → List StoredStep
hidden_steps g es = map (λ e. record { label = e; writes = map (λ x. (x, None)) (writes g e) }) es

-- one of the steps writes x
abbrev pub is_written : ℕ → List StoredStep → Bool
is_written x steps = list_any (λ s. is_in x (keys_of s.writes)) steps

-- a value that is hidden at the last write of its variable is filled in
abbrev pub filled : Map Value → List StoredStep → List StoredStep
filled values [] = []
filled values (s ∷ ss) =
    record { label = s.label; writes = map (λ (w : ℕ × Option Value). (w.0, if is_written w.0 ss then w.1 else option_or w.1 (value_at values w.0))) s.writes } ∷ filled values ss

-- The walk after an event. A step that was sent is added. For what was received, of a walk that shows it, the steps after the last honest one since the role's own are added, hidden, and the values received are filled in
abbrev pub walk_after_event : Graph → (ℕ → Bool) → List StoredStep → Event → List ℕ → List StoredStep
walk_after_event g honest steps (Started sid r) walk = steps
walk_after_event g honest steps (Sent sid r label time values) walk = steps ++ record { label = label; writes = shown values } ∷ []
walk_after_event g honest steps (Received sid r label time values joins) walk = filled values (steps ++ hidden_steps g (after_honest (shape g) honest (after_last (sender (shape g)) r walk)))

-- the walk after these events
abbrev pub walk_after_events : Graph → (ℕ → Bool) → List StoredStep → List Event → List ℕ → List StoredStep
walk_after_events g honest steps [] walk = steps
walk_after_events g honest steps (e ∷ es) walk = walk_after_events g honest (walk_after_event g honest steps e walk) es walk

-- the walk of a session after these steps of a run, each beside a walk that shows what it took
abbrev pub walk_after_steps : Graph → (ℕ → Bool) → List ℕ → List StoredStep → List (Logged × List ℕ) → List StoredStep
walk_after_steps g honest sid steps [] = steps
walk_after_steps g honest sid steps (l ∷ ls) = walk_after_steps g honest sid (walk_after_events g honest steps (events_of sid (l.0 ∷ [])) l.1) ls

-- ---- the walks beside it

-- the label that role r sent in an event
abbrev pub label_sent : ℕ → Event → Option ℕ
label_sent r (Sent sid r' label time values) = if r' == r then Some label else None
label_sent r other = None

-- what a frame shows its receiver, after these events of the session
abbrev pub view_in : List Event → Frame → View
view_in events f = record { origin = last (filter_map (label_sent f.receiver) events); items = map seen f.items }

-- the walk is one from the start that shows role r this view
abbrev pub IsExample : (g : Graph) (r : ℕ) (v : View) → List ℕ → Type 0
IsExample g r v walk = (i : IsView g r v) × (i.walk ≡ walk)

-- if the step took a frame of the session, the walk shows its receiver what the frame shows it
abbrev pub IsShown : (g : Graph) (sid : List ℕ) (before : List Logged) (l : Logged) → List ℕ → Type 0
IsShown g sid before l walk = (bs : List ℕ) (f : Frame) → l.call ≡ Some (Deliver bs) → read bs ≡ Ok f → l.outcome ≡ Answered (Happened (receipt f)) → f.sid ≡ sid → IsExample g f.receiver (view_in (events_of sid before) f) walk

-- each step that took a frame of the session stands beside such a walk
abbrev pub AllShown : (g : Graph) (sid : List ℕ) (before : List Logged) → List (Logged × List ℕ) → Type 0
AllShown g sid before [] = ⊤
AllShown g sid before (l ∷ ls) = IsShown g sid before l.0 l.1 × AllShown g sid (before ++ l.0 ∷ []) ls

-- ---- the law

-- If the assumptions hold, the walk that is made so explains the events of the session, whichever such walks stand beside the steps
abbrev pub WalksExplain : Hash → Type 0
WalksExplain sha = (programs : List Program) (s : Schedule) (sid : List ℕ) (cast : Cast) (g : Graph) (log : List (Logged × List ℕ)) → AreCompiled sha s.graphs programs → IsSchedule sha s →
    let w = run sha programs s in
    Premises sha s w → cast_of_session sid w.log ≡ Some cast → graph_with sha s.graphs cast.graph ≡ Some g → map (λ (l : Logged × List ℕ). l.0) log ≡ w.log → AllShown g sid [] log →
    OnePath g (honest_role s cast) (events_of sid w.log) (walk_after_steps g (honest_role s cast) sid [] log)

-- If the assumptions hold, each frame of the session that was taken shows its receiver a view, so that such walks can stand beside all steps
abbrev pub FramesShowViews : Hash → Type 0
FramesShowViews sha = (programs : List Program) (s : Schedule) (sid : List ℕ) (cast : Cast) (g : Graph) (before : List Logged) (l : Logged) (after : List Logged) (bs : List ℕ) (f : Frame) → AreCompiled sha s.graphs programs → IsSchedule sha s →
    let w = run sha programs s in
    Premises sha s w → cast_of_session sid w.log ≡ Some cast → graph_with sha s.graphs cast.graph ≡ Some g →
    w.log ≡ before ++ l ∷ after → l.call ≡ Some (Deliver bs) → read bs ≡ Ok f → l.outcome ≡ Answered (Happened (receipt f)) → f.sid ≡ sid →
    IsView g f.receiver (view_in (events_of sid before) f)

-- If the assumptions hold, the origin of the session in which a node took a frame is the last label that the frame's receiver sent in the session's events before
abbrev pub OriginsAreLastLabels : Hash → Type 0
OriginsAreLastLabels sha = (programs : List Program) (s : Schedule) (before : List Logged) (l : Logged) (after : List Logged) (bs : List ℕ) (f : Frame) (p : Program) (x : Session) → AreCompiled sha s.graphs programs → IsSchedule sha s →
    let w = run sha programs s in
    Premises sha s w → w.log ≡ before ++ l ∷ after → l.call ≡ Some (Deliver bs) → read bs ≡ Ok f → l.outcome ≡ Answered (Happened (receipt f)) →
    (a : IsAnswered sha programs s l (Deliver bs)) → session_of_frame (node_of a.past) f ≡ Some (p, x) → origin x ≡ last (filter_map (label_sent f.receiver) (events_of f.sid before))
