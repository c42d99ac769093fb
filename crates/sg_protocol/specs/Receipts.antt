-- What an honest sender's receipt says.
use Rattle.std.specs.Prelude.{◌≡◌, ℕ, ◌<◌, List, true, Some, Contains, Ok}
use Rattle.sg_model.specs.Names.{Name}
use Rattle.sg_protocol.specs.Frame.{Cast, Frame}
use Rattle.sg_protocol.specs.Reading.{read}
use Rattle.sg_protocol.specs.Texts.{Hash}
use Rattle.sg_protocol.specs.Keyring.{Program}
use Rattle.sg_protocol.specs.Session.{principal}
use Rattle.sg_protocol.specs.Calls.{Event, sid_of, role_of, Deliver, Happened, Sends}
use Rattle.sg_protocol.specs.Verdict.{receipt}
use Rattle.sg_protocol.specs.Schedule.{Schedule, honest_role}
use Rattle.sg_protocol.specs.World.{Logged, World, Answered}
use Rattle.sg_protocol.specs.Run.{run, cast_of_session}
use Rattle.sg_protocol.specs.Premises.{Premises}
use Rattle.sg_protocol.specs.IsSchedule.{AreCompiled, IsSchedule}

-- a step in which the principal accepted the frame
abbrev pub IsTaken : World → Logged → Name → List ℕ → Frame → Type 0
IsTaken w l who bs f = Contains w.log l × (l.who ≡ Some who) × (l.call ≡ Some (Deliver bs)) × (read bs ≡ Ok f) × (l.outcome ≡ Answered (Happened (receipt f)))

-- an earlier step in which the principal sent just these bytes in this session, by the role that the frame names as its sender
abbrev pub WasSent : World → ℕ → Name → List ℕ → Frame → Type 0
WasSent w k who bs f = (l : Logged) × (e : Event) × (to : Name) ×
    Contains w.log l × (l.number < k) × (l.who ≡ Some who) × (l.frame ≡ Some bs) × (l.outcome ≡ Answered (Sends e to f)) × (sid_of e ≡ f.sid) × (role_of e ≡ f.sender)

-- If the assumptions hold, a receipt from an honest sender was given by bytes that this sender sent before, in that session and role
abbrev pub ReceiptsHaveSends : Hash → Type 0
ReceiptsHaveSends sha = (programs : List Program) (s : Schedule) → AreCompiled sha s.graphs programs → IsSchedule sha s →
    let w = run sha programs s in
    Premises sha s w →
    (l : Logged) (who : Name) (bs : List ℕ) (f : Frame) (cast : Cast) → IsTaken w l who bs f → cast_of_session f.sid w.log ≡ Some cast →
    honest_role s cast f.sender ≡ true → WasSent w l.number (principal cast f.sender) bs f
