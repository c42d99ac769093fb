-- A frame that is awaited is accepted, of principals that run apart.
use Rattle.std.specs.Prelude.{◌≡◌, ℕ, ◌<◌, List, [], ◌∷◌, ◌++◌, length, IsTrue, true, false, Some, None, All, map, option_map, is_some}
use Rattle.sg_model.specs.Last.{last}
use Rattle.sg_model.specs.Names.{Name}
use Rattle.sg_model.specs.Limits.{most_joins, most_live}
use Rattle.sg_protocol.specs.Frame.{Cast, Frame}
use Rattle.sg_protocol.specs.Texts.{Hash}
use Rattle.sg_protocol.specs.Keyring.{Program}
use Rattle.sg_protocol.specs.Calls.{Event, Abandon, Deliver, Happened, Abandoned}
use Rattle.sg_protocol.specs.Node.{has_joined, program_for, stranger}
use Rattle.sg_protocol.specs.Verdict.{receipt}
use Rattle.sg_protocol.specs.Past.{Past, node_of}
use Rattle.sg_protocol.specs.Schedule.{Schedule, is_honest}
use Rattle.sg_protocol.specs.World.{World, past_of, Answered}
use Rattle.sg_protocol.specs.Run.{cast_of_session}
use Rattle.sg_protocol.specs.Premises.{Premises}
use Rattle.sg_protocol.specs.Completeness.{IsSentTo, HadAnswer}
use Rattle.sg_apart.specs.Apart.{Begins, CallAt, AreCallsInRange, honest_are, run_apart}
use Rattle.sg_apart.specs.Laws.{AnsweredAt, IsHonest, IsOrder, as_begun, asked}
use Rattle.sg_apart_frames.specs.Receipts.{HoldOneKey}

-- each two principals of the cast hold one key for each other
abbrev pub HoldOneKeyEach : World → Cast → Type 0
HoldOneKeyEach w cast = All (λ a. All (HoldOneKey w a) cast.names) cast.names

-- What completeness asks of a frame, before it is delivered to a principal whose past is given: as of schedules, and that the keys of the cast agree,
-- that the receiver has the graph's program of its role, and, if the frame joins, that it did not begin with this join
pub record IsAwaitedApart (s : Schedule) (w : World) (bytes : List ℕ) (who : Name) (past : Past) (f : Frame) : Type 0 where
  pub sent : IsSentTo w.log bytes who f
  pub cast : Cast
  pub is_cast : cast_of_session f.sid w.log ≡ Some cast
  pub all_honest : All (λ n. is_honest s n ≡ true) cast.names
  pub one_key : HoldOneKeyEach w cast
  pub program : Program
  pub has_program : program_for past.programs cast.graph f.receiver ≡ Some program
  pub covered : stranger past.keys cast ≡ None
  pub not_taken : (e : Event) → HadAnswer w.log who (Deliver bytes) (Happened e) → ⊥
  pub not_left : HadAnswer w.log who (Abandon f.sid) Abandoned → ⊥
  pub not_first : IsTrue (is_some f.join) → has_joined past.first f.sid f.receiver ≡ false
  pub room : IsTrue (is_some f.join) → (length (node_of past).joins < most_joins) × (length (node_of past).live < most_live)

-- each awaited frame that is delivered next in the run of these calls is accepted
abbrev pub AwaitedAreAccepted : Hash → Schedule → List Past → List CallAt → Type 0
AwaitedAreAccepted sha s ps calls = (bytes : List ℕ) (who : Name) (past : Past) (f : Frame) →
    let w = run_apart sha ps calls in
    past_of w who ≡ Some past → IsAwaitedApart s w bytes who past f →
    option_map (λ l. l.outcome) (last (run_apart sha ps (calls ++ record { who = who; call = Deliver bytes } ∷ [])).log) ≡ Some (Answered (Happened (receipt f)))

-- If the assumptions hold, an awaited frame that is delivered next is accepted
abbrev pub DeliveryIsCompleteApart : Hash → Type 0
DeliveryIsCompleteApart sha = (ps : List Past) (calls : List CallAt) → All (Begins sha) ps → AreCallsInRange calls →
    Premises sha (honest_are ps) (run_apart sha ps calls) → AwaitedAreAccepted sha (honest_are ps) ps calls

-- So it is of honest principals' pasts, in the order in which their calls happened
abbrev pub HonestDeliveryIsComplete : Hash → Type 0
HonestDeliveryIsComplete sha = (ps : List Past) (calls : List AnsweredAt) → All (IsHonest sha) ps → IsOrder ps calls →
    Premises sha (honest_are ps) (run_apart sha (map as_begun ps) (map asked calls)) → AwaitedAreAccepted sha (honest_are ps) (map as_begun ps) (map asked calls)
