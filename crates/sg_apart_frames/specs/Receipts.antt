-- What an honest sender's receipt says, of principals that run apart.
use Rattle.std.specs.Prelude.{◌≡◌, ℕ, List, All, true, map, Option, Some, option_and_then}
use Rattle.sg_model.specs.Names.{Name}
use Rattle.sg_protocol.specs.Frame.{Cast, Frame}
use Rattle.sg_protocol.specs.Spelling.{spelling}
use Rattle.sg_protocol.specs.Texts.{Hash}
use Rattle.sg_protocol.specs.Keyring.{key_of}
use Rattle.sg_protocol.specs.Session.{principal}
use Rattle.sg_protocol.specs.Past.{Past}
use Rattle.sg_protocol.specs.Schedule.{Schedule, honest_role}
use Rattle.sg_protocol.specs.World.{Logged, World, past_of}
use Rattle.sg_protocol.specs.Run.{cast_of_session}
use Rattle.sg_protocol.specs.Premises.{Premises}
use Rattle.sg_protocol.specs.Receipts.{IsTaken, WasSent}
use Rattle.sg_apart.specs.Apart.{Begins, CallAt, AreCallsInRange, honest_are, run_apart}
use Rattle.sg_apart.specs.Laws.{AnsweredAt, IsHonest, IsOrder, as_begun, asked}

-- the key that a principal holds for another
abbrev pub key_at : World → Name → Name → Option (List ℕ)
key_at w who other = option_and_then (λ p. key_of p.keys other) (past_of w who)

-- the two hold one key for each other, or neither holds any
abbrev pub HoldOneKey : World → Name → Name → Type 0
HoldOneKey w a b = key_at w a b ≡ key_at w b a

-- the frame with another tag
abbrev pub with_tag : Frame → List ℕ → Frame
with_tag f tag = record f { tag = tag }

-- what an honest sender's receipt says: the sender sent this frame before, perhaps with another tag of the frame, and just these bytes if it and the receiver hold one key
pub record SentBefore (w : World) (l : Logged) (who sender : Name) (bs : List ℕ) (f : Frame) : Type 0 where
  pub frame : (tag : List ℕ) × WasSent w l.number sender (spelling (with_tag f tag)) (with_tag f tag)
  pub bytes : HoldOneKey w who sender → WasSent w l.number sender bs f

-- each receipt from an honest sender says so
abbrev pub ReceiptsAreOfSends : Schedule → World → Type 0
ReceiptsAreOfSends s w = (l : Logged) (who : Name) (bs : List ℕ) (f : Frame) (cast : Cast) → IsTaken w l who bs f → cast_of_session f.sid w.log ≡ Some cast →
    honest_role s cast f.sender ≡ true → SentBefore w l who (principal cast f.sender) bs f

-- If the assumptions hold, a receipt from an honest sender was given by a frame that this sender sent before, in that session and role, and by its bytes if the two hold one key
abbrev pub ReceiptsHaveSendsApart : Hash → Type 0
ReceiptsHaveSendsApart sha = (ps : List Past) (calls : List CallAt) → All (Begins sha) ps → AreCallsInRange calls →
    let w = run_apart sha ps calls in
    Premises sha (honest_are ps) w → ReceiptsAreOfSends (honest_are ps) w

-- So it is of honest principals' pasts, in the order in which their calls happened
abbrev pub HonestReceiptsHaveSends : Hash → Type 0
HonestReceiptsHaveSends sha = (ps : List Past) (calls : List AnsweredAt) → All (IsHonest sha) ps → IsOrder ps calls →
    let w = run_apart sha (map as_begun ps) (map asked calls) in
    Premises sha (honest_are ps) w → ReceiptsAreOfSends (honest_are ps) w
