-- What holds of every replay, by the core's laws of runs with SHA-256.
use Rattle.std.specs.Prelude.{◌≡◌, ◌≢◌, ◌↔◌, ℕ, List, [], Some, true, All, flat_map, option_map}
use Rattle.sg_model.specs.Claims.{Claim, HoldsOnWalks}
use Rattle.sg_model.specs.Last.{last, up_to_last}
use Rattle.sg_model.specs.Names.{Name}
use Rattle.sg_protocol.specs.Calls.{Event, Happened, role_of, sid_of}
use Rattle.sg_protocol.specs.Claims.{IsClaimKept}
use Rattle.sg_protocol.specs.Completeness.{IsAwaited}
use Rattle.sg_protocol.specs.Frame.{Cast, Frame}
use Rattle.sg_protocol.specs.Graph.{Graph, shape}
use Rattle.sg_protocol.specs.Headline.{HadEvent, IsExplained, IsOfCast}
use Rattle.sg_protocol.specs.IsSchedule.{AreCompiled, IsSchedule}
use Rattle.sg_protocol.specs.LastSteps.{ShowsLastSteps, exchanges_of}
use Rattle.sg_protocol.specs.Past.{JoinedOnce, Past}
use Rattle.sg_protocol.specs.Premises.{CollisionFree, hashed}
use Rattle.sg_protocol.specs.Receipts.{IsTaken, WasSent}
use Rattle.sg_protocol.specs.Run.{cast_of_session, events_of}
use Rattle.sg_protocol.specs.Schedule.{Step, Whole, DeliverStep, graph_with, honest_role}
use Rattle.sg_protocol.specs.Session.{items_of, principal}
use Rattle.sg_protocol.specs.Texts.{real}
use Rattle.sg_protocol.specs.Verdict.{receipt}
use Rattle.sg_protocol.specs.World.{Answered, Logged, past_of}
use Rattle.sg_report.specs.Report.{premises_hold}
use Rattle.sg_world.specs.Account.{account}
use Rattle.sg_setting.specs.Replay.{Replay, run_of, stepped, up_to, with_taken}
use Rattle.sg_world.specs.Walked.{PremisesHold}

-- ---- every replay

-- One more step is the definition's step
abbrev pub StepsAreTheRuns : Type 0
StepsAreTheRuns = (r : Replay) (x : Step) → run_of (with_taken r x) ≡ stepped r x

-- No honest principal joins a pair of session and role twice
abbrev pub NoneJoinsTwice : Type 0
NoneJoinsTwice = (r : Replay) → All JoinedOnce (run_of r).pasts

-- ---- every replay over the programs of its graphs

-- the schedule is one, and the programs are those of its graphs
pub record HasPrograms (r : Replay) : Type 0 where
  pub compiled : AreCompiled real r.schedule.graphs r.programs
  pub schedule : IsSchedule real r.schedule

-- if the assumptions hold, an honest sender's receipt was given by bytes that this sender sent before, in that session and role
abbrev pub ReceiptsWereSent : Replay → Type 0
ReceiptsWereSent r = PremisesHold r → (l : Logged) (who : Name) (bs : List ℕ) (f : Frame) (cast : Cast) → IsTaken (run_of r) l who bs f →
    cast_of_session f.sid (run_of r).log ≡ Some cast → honest_role r.schedule cast f.sender ≡ true → WasSent (run_of r) l.number (principal cast f.sender) bs f

-- if the assumptions hold, what a frame shows of honest senders as it is accepted is what they did last, and the receiver then holds what they held
abbrev pub LastStepsAreShown : Replay → Type 0
LastStepsAreShown r = PremisesHold r → (l : Logged) (who : Name) (bs : List ℕ) (f : Frame) (cast : Cast) (g : Graph) (past : Past) → IsTaken (run_of r) l who bs f →
    let w = run_of (up_to l.number r) in
    cast_of_session f.sid w.log ≡ Some cast → graph_with real r.schedule.graphs cast.graph ≡ Some g → past_of w who ≡ Some past →
    ShowsLastSteps r.schedule w g cast f (up_to_last (λ i. i.role) f.receiver (flat_map items_of (exchanges_of f.sid f.receiver past.calls)))

-- if the assumptions hold, a frame that is awaited is received if it is delivered next
abbrev pub AwaitedIsReceived : Replay → Type 0
AwaitedIsReceived r = PremisesHold r → (number : ℕ) (who : Name) (past : Past) (f : Frame) → past_of (run_of r) who ≡ Some past →
    IsAwaited real r.schedule (run_of r) number who past f →
    option_map (λ l. l.outcome) (last (stepped r (DeliverStep who (Whole number))).log) ≡ Some (Answered (Happened (receipt f)))

-- if no two hashed texts have one digest, all events of a session are of one cast and one graph, each of the role that this cast gives its principal
abbrev pub EventsAreOfOneCast : Replay → Type 0
EventsAreOfOneCast r = CollisionFree real (hashed r.schedule (run_of r)) → (l : Logged) (who : Name) (e : Event) → HadEvent (run_of r) l who e → IsOfCast real r.schedule (run_of r) l who e

-- if no two hashed texts have one digest, all events of a principal in one session are of one role
abbrev pub NoneTakesTwoRoles : Replay → Type 0
NoneTakesTwoRoles r = CollisionFree real (hashed r.schedule (run_of r)) → (l l' : Logged) (who : Name) (e e' : Event) → HadEvent (run_of r) l who e → HadEvent (run_of r) l' who e' →
    sid_of e ≡ sid_of e' → role_of e ≡ role_of e'

-- if the assumptions hold, some walk explains each session with an event, and each claim that holds of the session's graph is kept by whichever walk explains it, and by its events
abbrev pub ClaimsAreKept : Replay → Type 0
ClaimsAreKept r = PremisesHold r → (sid : List ℕ) → events_of sid (run_of r).log ≢ [] →
    IsExplained real r.schedule (run_of r) sid
    × ((x : IsExplained real r.schedule (run_of r) sid) (c : Claim) → HoldsOnWalks (shape x.graph) c → IsClaimKept x.graph (honest_role r.schedule x.cast) (events_of sid (run_of r).log) x.steps c)

-- what holds of the run of a replay: its account is right about both assumptions, and what the assumptions bring
pub record RunLaws (r : Replay) : Type 0 where
  pub premises : (premises_hold (account r) ≡ true) ↔ PremisesHold r
  pub one_cast : EventsAreOfOneCast r
  pub one_role : NoneTakesTwoRoles r
  pub receipts : ReceiptsWereSent r
  pub last_steps : LastStepsAreShown r
  pub delivery : AwaitedIsReceived r
  pub claims : ClaimsAreKept r

-- it holds of each replay over the programs of its graphs
abbrev pub LawsHold : Type 0
LawsHold = (r : Replay) → HasPrograms r → RunLaws r
