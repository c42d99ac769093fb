-- In a schedule's run a receipt from an honest sender has its sending.
use Rattle.std.specs.Prelude.{◌≡◌, ℕ, List, true, Some}
use Rattle.std.proofs.Common.{subst}
use Rattle.sg_model.specs.Names.{Name}
use Rattle.sg_protocol.specs.Frame.{Cast, Frame}
use Rattle.sg_protocol.specs.Texts.{Hash, IsHash}
use Rattle.sg_protocol.specs.Keyring.{Program}
use Rattle.sg_protocol.specs.Session.{principal}
use Rattle.sg_protocol.specs.Schedule.{Schedule, honest_role}
use Rattle.sg_protocol.specs.World.{Logged, World, new_world}
use Rattle.sg_protocol.specs.Run.{cast_of_session}
use Rattle.sg_protocol.specs.Premises.{Premises}
use Rattle.sg_protocol.specs.IsSchedule.{AreCompiled, IsSchedule}
use Rattle.sg_protocol.specs.Receipts.{IsTaken, WasSent, ReceiptsHaveSends}
use Rattle.sg_protocol.proofs.Courses.{course, is_course, one_key, same_run}
use Rattle.sg_protocol.proofs.Happenings.{run_of}
use Rattle.sg_protocol.proofs.Senders.{receipts_are_of_sends}

module _ (sha : Hash) (hash : IsHash sha) (programs : List Program) (s : Schedule) (compiled : AreCompiled sha s.graphs programs) (sched : IsSchedule sha s) where
  abbrev HaveSends : World → Type 0
  HaveSends w = Premises sha s w → (l : Logged) (who : Name) (bs : List ℕ) (f : Frame) (cast : Cast) → IsTaken w l who bs f → cast_of_session f.sid w.log ≡ Some cast → honest_role s cast f.sender ≡ true → WasSent w l.number (principal cast f.sender) bs f

  have_sends : HaveSends (run_of sha (new_world programs s).pasts (course sha hash programs s compiled sched))
  have_sends premises l who bs f cast taken is_cast honest =
      (receipts_are_of_sends sha hash s (new_world programs s).pasts (course sha hash programs s compiled sched) (is_course sha hash programs s compiled sched) premises l who bs f cast taken is_cast honest).1
      (λ h. one_key sha hash programs s compiled sched who (principal cast f.sender) h honest)

pub receipts_have_sends : (sha : Hash) → IsHash sha → ReceiptsHaveSends sha
receipts_have_sends sha hash programs s compiled sched = subst (HaveSends sha hash programs s compiled sched) (same_run sha hash programs s compiled sched) (have_sends sha hash programs s compiled sched)
