-- A frame that is awaited is accepted.
use Rattle.std.specs.Prelude.{◌≡◌, ℕ, ◌<◌, List, length, IsTrue, true, Some, None, Contains, ◌+◌, All, option_map, is_some}
use Rattle.sg_model.specs.Last.{last}
use Rattle.sg_model.specs.Names.{Name}
use Rattle.sg_model.specs.Limits.{most_joins, most_live}
use Rattle.sg_protocol.specs.Frame.{Cast, Frame}
use Rattle.sg_protocol.specs.Texts.{Hash}
use Rattle.sg_protocol.specs.Keyring.{Program}
use Rattle.sg_protocol.specs.Calls.{Event, Call, Answer, Abandon, Deliver, Happened, Sends, Abandoned}
use Rattle.sg_protocol.specs.Node.{stranger}
use Rattle.sg_protocol.specs.Verdict.{receipt}
use Rattle.sg_protocol.specs.Past.{Past, node_of}
use Rattle.sg_protocol.specs.Schedule.{Schedule, is_honest, Whole, DeliverStep}
use Rattle.sg_protocol.specs.World.{Logged, World, frame_at, past_of, Answered}
use Rattle.sg_protocol.specs.Run.{world_after, run, cast_of_session}
use Rattle.sg_protocol.specs.Premises.{Premises}
use Rattle.sg_protocol.specs.IsSchedule.{AreCompiled, IsSchedule}

-- the log has the sending of a frame in a session, addressed to a principal
abbrev pub IsSentTo : List Logged → List ℕ → Name → Frame → Type 0
IsSentTo log bs to f = (l : Logged) × (e : Event) × Contains log l × (l.outcome ≡ Answered (Sends e to f)) × (l.frame ≡ Some bs)

-- the principal made this call, and it had this answer
abbrev pub HadAnswer : List Logged → Name → Call → Answer → Type 0
HadAnswer log who call answer = (l : Logged) × Contains log l × (l.who ≡ Some who) × (l.call ≡ Some call) × (l.outcome ≡ Answered answer)

-- what completeness asks of a frame, before it is delivered to a principal whose past is given
pub record IsAwaited (sha : Hash) (s : Schedule) (w : World) (number : ℕ) (who : Name) (past : Past) (f : Frame) : Type 0 where
  pub bytes : List ℕ
  pub recorded : frame_at w number ≡ Some bytes
  pub sent : IsSentTo w.log bytes who f
  pub cast : Cast
  pub is_cast : cast_of_session f.sid w.log ≡ Some cast
  pub all_honest : All (λ n. is_honest s n ≡ true) cast.names
  pub covered : stranger past.keys cast ≡ None
  pub not_taken : (e : Event) → HadAnswer w.log who (Deliver bytes) (Happened e) → ⊥
  pub not_left : HadAnswer w.log who (Abandon f.sid) Abandoned → ⊥
  pub room : IsTrue (is_some f.join) → (length (node_of past).joins < most_joins) × (length (node_of past).live < most_live)

-- If the assumptions hold, an awaited frame that is delivered next is accepted
abbrev pub DeliveryIsComplete : Hash → Type 0
DeliveryIsComplete sha = (programs : List Program) (s : Schedule) → AreCompiled sha s.graphs programs → IsSchedule sha s →
    let w = run sha programs s in
    Premises sha s w →
    (number : ℕ) (who : Name) (past : Past) (f : Frame) → past_of w who ≡ Some past → IsAwaited sha s w number who past f →
    option_map (λ l. l.outcome) (last (world_after sha s w (length s.steps + 1) (DeliverStep who (Whole number))).log) ≡ Some (Answered (Happened (receipt f)))
