-- Principals that are stopped and begun anew over the joins that they kept.
use Rattle.std.specs.Prelude.{◌≡◌, ◌≢◌, ℕ, zero, suc, List, [], ◌∷◌, ◌++◌, length, IsTrue, Bool, true, false, ◌+◌, if◌then◌else◌, map, filter, filter_map, flat_map, take, bytes_eq, All, Option, Some, None, ◌⊎◌, ⊤}
use Rattle.std.specs.Option.{option_map_or}
use Rattle.sg_model.specs.Last.{up_to_last, last_of, after_last}
use Rattle.sg_model.specs.Names.{Name}
use Rattle.sg_protocol.specs.Graph.{Graph}
use Rattle.sg_protocol.specs.Frame.{Cast, Item, Frame}
use Rattle.sg_protocol.specs.Texts.{Hash}
use Rattle.sg_protocol.specs.Keyring.{Program}
use Rattle.sg_protocol.specs.Session.{Session, principal, items_of, commitments}
use Rattle.sg_protocol.specs.Calls.{Event, sid_of, role_of, does_join, Call, Abandon, Abandoned, events_of_answer}
use Rattle.sg_protocol.specs.Node.{has_joined}
use Rattle.sg_protocol.specs.Notes.{no_notes}
use Rattle.sg_protocol.specs.Past.{AnsweredCall, Past, joins_once, pairs_differ, new_node, node_of, past_after, AreAnswers, answers}
use Rattle.sg_protocol.specs.Schedule.{Schedule, NamedSession, Step, StartStep, ActStep, AbandonStep, DeliverStep, CraftStep, graph_with, honest_role}
use Rattle.sg_protocol.specs.World.{Outcome, Logged, World, Answered, frames, past_of, new_world}
use Rattle.sg_protocol.specs.Run.{world_after, run, events_of_outcome, events_of, cast_of_session}
use Rattle.sg_protocol.specs.Premises.{hashed, CollisionFree, Premises}
use Rattle.sg_protocol.specs.IsSchedule.{AreCompiled, IsSchedule, IsStep}
use Rattle.sg_protocol.specs.Headline.{IsExplained, HadEvent, IsOfCast}
use Rattle.sg_protocol.specs.Receipts.{IsTaken, WasSent}
use Rattle.sg_protocol.specs.LastSteps.{exchanges_of, honest_items, bare}

-- ---- one principal

-- a principal is begun anew: with the same keys and programs, over the joins of its node, and with no call
abbrev pub begun_anew : Past → Past
begun_anew past = record { keys = past.keys; programs = past.programs; first = (node_of past).joins; calls = [] }

-- the past with more calls, and their answers
abbrev pub past_after_all : Hash → Past → List Call → Past
past_after_all sha past [] = past
past_after_all sha past (c ∷ cs) = past_after_all sha (past_after sha past c) cs

-- one abandonment for each of these sessions, in their order
abbrev pub abandonments : List Session → List Call
abandonments live = map (λ s. Abandon s.sid) live

-- A principal that is begun anew is as if it had abandoned each live session: its node is the one after these calls, each of which is answered with Abandoned, and has the joins of before and no live session
abbrev pub RestartsAbandon : Hash → Type 0
RestartsAbandon sha = (past : Past) →
    (node_of (begun_anew past) ≡ node_of (past_after_all sha past (abandonments (node_of past).live)))
    × (answers sha (node_of past) (abandonments (node_of past).live) ≡ map (λ s. Abandoned) (node_of past).live)
    × ((node_of (begun_anew past)).joins ≡ (node_of past).joins)
    × ((node_of (begun_anew past)).live ≡ [])

-- Lives of a principal, one after another, the first over these joins and each other one over the joins that the one before left. Keys and programs may change between them.
-- A crash ends a life after some call: the joins of all calls up to this one were kept, of the last of them maybe nothing was printed, and of no call after it was anything printed, sent or kept
abbrev pub AreLives : Hash → List (List ℕ × ℕ) → List Past → Type 0
AreLives sha first [] = ⊤
AreLives sha first (p ∷ ps) = (p.first ≡ first) × AreAnswers sha (new_node p.keys p.programs p.first) p.calls × AreLives sha (node_of p).joins ps

-- the events of all lives
abbrev pub events_of_lives : List Past → List Event
events_of_lives ps = flat_map (λ p. flat_map (λ c. events_of_answer c.answer) p.calls) ps

-- In all its lives together a principal joins no pair of sid and role twice, nor one that it began with, and each other event of a pair comes after its join
abbrev pub LivesJoinOnce : Hash → Type 0
LivesJoinOnce sha = (first : List (List ℕ × ℕ)) (lives : List Past) → AreLives sha first lives → IsTrue (joins_once first (events_of_lives lives))

-- what was printed in lives, each with the number of its first calls whose lines were printed: the others were cut off by a crash
abbrev pub reported_in_lives : List (ℕ × Past) → List Event
reported_in_lives ls = flat_map (λ (l : ℕ × Past). flat_map (λ c. events_of_answer c.answer) (take l.0 (l.1).calls)) ls

-- the pairs that events join, in order
abbrev pub joined_by : List Event → List (List ℕ × ℕ)
joined_by es = map (λ e. (sid_of e, role_of e)) (filter does_join es)

-- Wherever its lives were cut off, what a principal printed of them has no two joins of one pair, and none of a pair that it began with
abbrev pub ReportedJoinOnce : Hash → Type 0
ReportedJoinOnce sha = (first : List (List ℕ × ℕ)) (ls : List (ℕ × Past)) → AreLives sha first (map (λ (l : ℕ × Past). l.1) ls) →
    IsTrue (pairs_differ (joined_by (reported_in_lives ls))) × All (λ (j : List ℕ × ℕ). has_joined first j.0 j.1 ≡ false) (joined_by (reported_in_lives ls))

-- ---- runs

-- a step is taken, or a principal is stopped and begun anew.
-- A crash in a step is this step and then the restart: its pair is joined, its event is in the log though no line has it, and its frame, if it has one, is recorded and maybe never delivered. A call that left no join and of which nothing was printed or sent is no step
pub data StepOrRestart : Type 0 where
  Stepped : Step → StepOrRestart
  Restarted : (who : Name) → StepOrRestart

-- the live sessions of a principal
abbrev pub live_of : World → Name → List Session
live_of w who = option_map_or (λ p. (node_of p).live) (past_of w who) []

-- the world after a restart: the principal is begun anew, and the record stays
abbrev pub world_restarted : World → Name → World
world_restarted w who = record w { pasts = map (λ p. if bytes_eq p.keys.me who then begun_anew p else p) w.pasts }

-- the world after these, the first of number k. A restart takes as many numbers as it drops live sessions
abbrev pub world_over_restarts : Hash → Schedule → World → ℕ → List StepOrRestart → World
world_over_restarts sha s w k [] = w
world_over_restarts sha s w k (Stepped x ∷ xs) = world_over_restarts sha s (world_after sha s w k x) (k + 1) xs
world_over_restarts sha s w k (Restarted who ∷ xs) = world_over_restarts sha s (world_restarted w who) (k + length (live_of w who)) xs

-- the run of these with what a schedule declares, whose own steps are not taken
abbrev pub run_with_restarts : Hash → List Program → Schedule → List StepOrRestart → World
run_with_restarts sha programs s xs = world_over_restarts sha s (new_world programs s) 1 xs

-- Without restarts it is the run of the schedule with these steps
abbrev pub NoRestartsNoChange : Hash → Type 0
NoRestartsNoChange sha = (programs : List Program) (s : Schedule) → run_with_restarts sha programs s (map Stepped s.steps) ≡ run sha programs s

-- a step is one of the schedule
abbrev pub IsStepOrRestart : Hash → Schedule → StepOrRestart → Type 0
IsStepOrRestart sha s (Stepped x) = IsStep sha s x
IsStepOrRestart sha s (Restarted who) = ⊤

-- ---- the schedule without restarts

-- the index of a session if m more are declared: an index that the list lacks is moved behind the new ones
abbrev pub moved_to : List NamedSession → ℕ → ℕ → ℕ
moved_to [] m n = n + m
moved_to (d ∷ ds) m zero = zero
moved_to (d ∷ ds) m (suc n) = suc (moved_to ds m n)

-- the same step if m more sessions are declared
abbrev pub moved_step : List NamedSession → ℕ → Step → Step
moved_step ds m (StartStep who n) = StartStep who (moved_to ds m n)
moved_step ds m (ActStep who n label values) = ActStep who (moved_to ds m n) label values
moved_step ds m (AbandonStep who n) = AbandonStep who (moved_to ds m n)
moved_step ds m (DeliverStep who what) = DeliverStep who what
moved_step ds m (CraftStep c) = CraftStep (record c { session = moved_to ds m c.session })

-- a session, declared
abbrev pub declared : Session → NamedSession
declared x = record { name = []; cast = x.cast }

-- the sessions that restarts drop, declared in their order
abbrev pub dropped : Hash → Schedule → World → ℕ → List StepOrRestart → List NamedSession
dropped sha s w k [] = []
dropped sha s w k (Stepped x ∷ xs) = dropped sha s (world_after sha s w k x) (k + 1) xs
dropped sha s w k (Restarted who ∷ xs) = map declared (live_of w who) ++ dropped sha s (world_restarted w who) (k + length (live_of w who)) xs

-- an abandonment of each of these sessions, of which the first is declared at index o, and each other one at the next index
abbrev pub abandon_steps : Name → ℕ → List Session → List Step
abandon_steps who o [] = []
abandon_steps who o (x ∷ xs) = AbandonStep who o ∷ abandon_steps who (o + 1) xs

-- the steps, if each restart is replaced by an abandonment of each session that it drops: m more are declared, those that are still to be dropped from index o on
abbrev pub plain_steps : Hash → Schedule → ℕ → ℕ → World → ℕ → List StepOrRestart → List Step
plain_steps sha s m o w k [] = []
plain_steps sha s m o w k (Stepped x ∷ xs) = moved_step s.sessions m x ∷ plain_steps sha s m o (world_after sha s w k x) (k + 1) xs
plain_steps sha s m o w k (Restarted who ∷ xs) = abandon_steps who o (live_of w who) ++ plain_steps sha s m (o + length (live_of w who)) (world_restarted w who) (k + length (live_of w who)) xs

-- the schedule without restarts, which declares the dropped sessions too, each once more
abbrev pub without_restarts : Hash → List Program → Schedule → List StepOrRestart → Schedule
without_restarts sha programs s xs =
    let more = dropped sha s (new_world programs s) 1 xs in
    record s { sessions = s.sessions ++ more; steps = plain_steps sha s (length more) (length s.sessions) (new_world programs s) 1 xs }

-- the call is an abandonment
abbrev pub is_abandonment : Option Call → Bool
is_abandonment (Some (Abandon sid)) = true
is_abandonment other = false

-- an abandonment of a live session: it has no event, no frame and no notes
pub record IsAbandonment (l : Logged) : Type 0 where
  pub call : IsTrue (is_abandonment l.call)
  pub outcome : l.outcome ≡ Answered Abandoned
  pub frame : l.frame ≡ None
  pub notes : l.notes ≡ no_notes

-- the first log is the other one with abandonments put between its entries
abbrev pub HasMoreAbandonments : List Logged → List Logged → Type 0
HasMoreAbandonments [] log = log ≡ []
HasMoreAbandonments (l ∷ ls) log = (IsAbandonment l × HasMoreAbandonments ls log) ⊎ ((rest : List Logged) × (log ≡ l ∷ rest) × HasMoreAbandonments ls rest)

-- a run without restarts is this one but for abandonments: every entry of this one is there, in the same order and with the same number, call, answer, frame and notes; the recorded frames are the same, and so is each principal's node in the end
pub record IsRunOf (plain w : World) : Type 0 where
  pub log : HasMoreAbandonments plain.log w.log
  pub frames : frames plain ≡ frames w
  pub nodes : map node_of plain.pasts ≡ map node_of w.pasts

-- Each run with restarts is that of its schedule without them, but for abandonments
abbrev pub RestartsAreAbandonments : Hash → Type 0
RestartsAreAbandonments sha = (programs : List Program) (s : Schedule) (xs : List StepOrRestart) → AreCompiled sha s.graphs programs → IsSchedule sha s → All (IsStepOrRestart sha s) xs →
    let plain = without_restarts sha programs s xs in
    IsSchedule sha plain × IsRunOf (run sha programs plain) (run_with_restarts sha programs s xs)

-- ---- what holds of runs with restarts

-- If the assumptions hold of a run with restarts, the events of each session are those of one walk
abbrev pub SessionsFollowWalksOverRestarts : Hash → Type 0
SessionsFollowWalksOverRestarts sha = (programs : List Program) (s : Schedule) (xs : List StepOrRestart) → AreCompiled sha s.graphs programs → IsSchedule sha s → All (IsStepOrRestart sha s) xs →
    let w = run_with_restarts sha programs s xs in
    Premises sha s w → (sid : List ℕ) → events_of sid w.log ≢ [] → IsExplained sha s w sid

-- the events of a principal in its whole life, before and after its restarts
abbrev pub events_at : Name → List Logged → List Event
events_at who log = flat_map (λ l. events_of_outcome l.outcome) (filter (λ l. option_map_or (bytes_eq who) l.who false) log)

-- In its whole life no honest principal joins a pair of sid and role twice, and each other event of a pair comes after its join, whatever holds
abbrev pub NoneJoinsTwiceOverRestarts : Hash → Type 0
NoneJoinsTwiceOverRestarts sha = (programs : List Program) (s : Schedule) (xs : List StepOrRestart) (who : Name) → IsTrue (joins_once [] (events_at who (run_with_restarts sha programs s xs).log))

-- If the assumptions hold of a run with restarts, a receipt from an honest sender was given by bytes that this sender sent before, in that session and role
abbrev pub ReceiptsHaveSendsOverRestarts : Hash → Type 0
ReceiptsHaveSendsOverRestarts sha = (programs : List Program) (s : Schedule) (xs : List StepOrRestart) → AreCompiled sha s.graphs programs → IsSchedule sha s → All (IsStepOrRestart sha s) xs →
    let w = run_with_restarts sha programs s xs in
    Premises sha s w →
    (l : Logged) (who : Name) (bs : List ℕ) (f : Frame) (cast : Cast) → IsTaken w l who bs f → cast_of_session f.sid w.log ≡ Some cast →
    honest_role s cast f.sender ≡ true → WasSent w l.number (principal cast f.sender) bs f

-- If no two hashed texts of a run with restarts have one digest, all events of a sid are of one cast and one graph, each of the role that this cast gives the principal
abbrev pub SessionsHaveOneCastOverRestarts : Hash → Type 0
SessionsHaveOneCastOverRestarts sha = (programs : List Program) (s : Schedule) (xs : List StepOrRestart) → AreCompiled sha s.graphs programs → IsSchedule sha s → All (IsStepOrRestart sha s) xs →
    let w = run_with_restarts sha programs s xs in
    CollisionFree sha (hashed s w) → (l : Logged) (who : Name) (e : Event) → HadEvent w l who e → IsOfCast sha s w l who e

-- If no two hashed texts of a run with restarts have one digest, all events of a principal in one session are of one role, restarts between them or not
abbrev pub NoneTakesTwoRolesOverRestarts : Hash → Type 0
NoneTakesTwoRolesOverRestarts sha = (programs : List Program) (s : Schedule) (xs : List StepOrRestart) → AreCompiled sha s.graphs programs → IsSchedule sha s → All (IsStepOrRestart sha s) xs →
    let w = run_with_restarts sha programs s xs in
    CollisionFree sha (hashed s w) → (l l' : Logged) (who : Name) (e e' : Event) → HadEvent w l who e → HadEvent w l' who e' → sid_of e ≡ sid_of e' → role_of e ≡ role_of e'

-- ---- last steps

-- the call of an entry, with its answer
abbrev pub answered_call : Option Call → Outcome → Option AnsweredCall
answered_call (Some c) (Answered a) = Some (record { call = c; answer = a })
answered_call call outcome = None

-- the entry's call, if it is the principal's
abbrev pub called_by : Name → Logged → Option AnsweredCall
called_by who l = if option_map_or (bytes_eq who) l.who false then answered_call l.call l.outcome else None

-- the calls of a principal in its whole life, with their answers
abbrev pub calls_at : Name → List Logged → List AnsweredCall
calls_at who log = filter_map (called_by who) log

-- the sender of an item, when it had sent it in its life, held these commitments
abbrev pub HeldInLife : World → Graph → Cast → List ℕ → Item → List (Option (List ℕ)) → Type 0
HeldInLife w g cast sid i held = (before : List Item) × (i' : Item) × (after : List Item) ×
    (flat_map items_of (exchanges_of sid i.role (calls_at (principal cast i.role) w.log)) ≡ before ++ i' ∷ after) × (bare i' ≡ bare i) × (held ≡ commitments g (before ++ i' ∷ []))

-- the frame's items of honest senders are their last steps in the log since the receiver's own last one, and after each of them the receiver, who held the items before, holds the commitments that its sender held
pub record ShowsLastStepsInLife (s : Schedule) (w : World) (g : Graph) (cast : Cast) (f : Frame) (before : List Item) : Type 0 where
  pub items : map bare (filter (λ i. honest_role s cast i.role) f.items) ≡ map bare (last_of (λ i. i.role) (after_last (λ i. i.role) f.receiver (honest_items f.sid w.log)))
  pub held : (prefix : List Item) (i : Item) (rest : List Item) → f.items ≡ prefix ++ i ∷ rest → honest_role s cast i.role ≡ true → HeldInLife w g cast f.sid i (commitments g (before ++ prefix ++ i ∷ []))

-- If the assumptions hold of a run with restarts, what a frame shows of honest senders that a step of it accepts is what they last did up to that step, and the receiver holds what they held
abbrev pub FramesShowLastStepsOverRestarts : Hash → Type 0
FramesShowLastStepsOverRestarts sha = (programs : List Program) (s : Schedule) (xs : List StepOrRestart) (x : Step) (ys : List StepOrRestart) (who : Name) (bs : List ℕ) (f : Frame) (l : Logged) (cast : Cast) (g : Graph) →
    AreCompiled sha s.graphs programs → IsSchedule sha s → All (IsStepOrRestart sha s) (xs ++ Stepped x ∷ ys) → Premises sha s (run_with_restarts sha programs s (xs ++ Stepped x ∷ ys)) →
    -- the run up to the acceptance
    let w = run_with_restarts sha programs s (xs ++ Stepped x ∷ []) in
    w.log ≡ (run_with_restarts sha programs s xs).log ++ l ∷ [] → IsTaken w l who bs f → cast_of_session f.sid w.log ≡ Some cast → graph_with sha s.graphs cast.graph ≡ Some g →
    ShowsLastStepsInLife s w g cast f (up_to_last (λ i. i.role) f.receiver (flat_map items_of (exchanges_of f.sid f.receiver (calls_at who w.log))))

-- ---- the headline

-- The headline over restarts: if the assumptions hold, each session follows one walk, and, whatever holds, no honest principal joins a pair of sid and role twice in its whole life
abbrev pub HeadlineOverRestarts : Hash → Type 0
HeadlineOverRestarts sha = SessionsFollowWalksOverRestarts sha × NoneJoinsTwiceOverRestarts sha
