-- Frames that a node accepted: it doesn't accept them again.
use Rattle.std.specs.Prelude.{◌≡◌, ◌≤◌, ℕ, true, List, [], ◌∷◌, Ok, ⊤}
use Rattle.std.specs.List.{AllByRecursion, list_all}
use Rattle.sg_protocol.specs.Acting.{answer}
use Rattle.sg_protocol.specs.Calls.{Event, Call, Deliver, Happened}
use Rattle.sg_protocol.specs.Frame.{Frame}
use Rattle.sg_protocol.specs.IsSchedule.{IsProgram}
use Rattle.sg_protocol.specs.Live.{IsLive}
use Rattle.sg_protocol.specs.Node.{Node, has_joined}
use Rattle.sg_protocol.specs.NodeAfter.{node_after}
use Rattle.sg_protocol.specs.Ranges.{IsCallInRange}
use Rattle.sg_protocol.specs.Reading.{read}
use Rattle.sg_protocol.specs.Session.{Session, time, last_time}
use Rattle.sg_protocol.specs.Texts.{Hash}

-- ---- nodes

-- two sessions are of different pairs of sid and role
abbrev pub Differ : Session → Session → Type 0
Differ s t = s.sid ≡ t.sid → s.role ≡ t.role → ⊥

-- each is of another pair than all later ones
abbrev pub AllDiffer : List Session → Type 0
AllDiffer [] = ⊤
AllDiffer (s ∷ ss) = AllByRecursion (Differ s) ss × AllDiffer ss

-- the programs are programs, the live sessions are sound, and their pairs were joined and differ
pub record IsOrderly (sha : Hash) (n : Node) : Type 0 where
  pub programs : AllByRecursion (IsProgram sha) n.programs
  pub live : AllByRecursion (IsLive sha n.programs) n.live
  pub joined : list_all (λ s. has_joined n.joins s.sid s.role) n.live ≡ true
  pub differ : AllDiffer n.live

-- ---- frames

-- a session of the frame's pair is at the frame's time or a later one
abbrev pub IsPast : Frame → Session → Type 0
IsPast f s = s.sid ≡ f.sid → s.role ≡ f.receiver → last_time f.items ≤ time s

-- the frame's pair of sid and role was joined, and each live session of it is past the frame
pub record IsSpent (n : Node) (f : Frame) : Type 0 where
  pub joined : has_joined n.joins f.sid f.receiver ≡ true
  pub past : AllByRecursion (IsPast f) n.live

-- What an orderly node accepted is spent from then on, whatever it is asked, and a spent frame is never accepted; and it stays orderly
pub record FramesAreTakenOnce (sha : Hash) : Type 0 where
  pub orderly : (n : Node) (c : Call) → IsOrderly sha n → IsCallInRange c → IsOrderly sha (node_after n c (answer sha n c))
  pub accepted : (n : Node) (bytes : List ℕ) (f : Frame) (e : Event) → IsOrderly sha n → read bytes ≡ Ok f → answer sha n (Deliver bytes) ≡ Happened e → IsSpent (node_after n (Deliver bytes) (Happened e)) f
  pub stays : (n : Node) (f : Frame) (c : Call) → IsOrderly sha n → IsCallInRange c → IsSpent n f → IsSpent (node_after n c (answer sha n c)) f
  pub refused : (n : Node) (bytes : List ℕ) (f : Frame) (e : Event) → IsOrderly sha n → IsSpent n f → read bytes ≡ Ok f → answer sha n (Deliver bytes) ≡ Happened e → ⊥
