-- How many items are shown, and how long the frames are that steps send.
use Rattle.std.specs.Prelude.{◌≡◌, ◌≢◌, ℕ, ◌<◌, ◌≤◌, ◌⊎◌, true, List, length, map, flat_map, All, AllPairs, Contains}
use Rattle.std.specs.List.{AllByRecursion}
use Rattle.sg_model.specs.Bytes.{AreBytes}
use Rattle.sg_model.specs.Names.{Name}
use Rattle.sg_model.specs.Values.{Opening}
use Rattle.sg_model.specs.Limits.{most_roles, most_time, most_sent_bytes}
use Rattle.sg_protocol.specs.Graph.{Graph, writes}
use Rattle.sg_protocol.specs.Frame.{Item, Frame, IsItem, IsCastOf, IsOpening}
use Rattle.sg_protocol.specs.Spelling.{IsInRange, HasSpelling, spelling}
use Rattle.sg_protocol.specs.Texts.{Hash}
use Rattle.sg_protocol.specs.Keyring.{Keyring, Program}
use Rattle.sg_protocol.specs.Session.{Session, transcript, openings_of, time, at_turn}
use Rattle.sg_protocol.specs.Sending.{shown_to, frame_sent}
use Rattle.sg_protocol.specs.Calls.{Event, Sends}
use Rattle.sg_protocol.specs.Acting.{leaves}
use Rattle.sg_protocol.specs.Schedule.{Schedule}
use Rattle.sg_protocol.specs.World.{Logged, Answered}
use Rattle.sg_protocol.specs.Run.{run}
use Rattle.sg_protocol.specs.IsSchedule.{IsProgram, AreCompiled, IsSchedule}

-- ---- items

-- Among the items shown to a role no two are of one role, and none is its own
abbrev pub ShownOnce : Type 0
ShownOnce = (g : Graph) (r : ℕ) (items : List Item) → AllPairs (λ i j. i.role ≢ j.role) (shown_to g r items) × All (λ i. i.role ≢ r) (shown_to g r items)

-- Of items whose fields are in range, a role below 16 is shown at most 15
abbrev pub ShownAreFew : Type 0
ShownAreFew = (g : Graph) (version r : ℕ) (items : List Item) → r < most_roles → AllByRecursion (IsItem version) items → length (shown_to g r items) ≤ 15

-- ---- bytes

-- at most 57,028 bytes, or 53,652 in version 2
abbrev pub IsShort : Frame → Type 0
IsShort f = length (spelling f) ≤ most_sent_bytes f.version

-- A frame whose fields are in range and which has at most 15 items is short
abbrev pub FramesAreShort : Type 0
FramesAreShort = (f : Frame) → IsInRange f → length f.items ≤ 15 → IsShort f

-- ---- what steps send

-- the sid, the cast and the role of a session are in range, and so are its transcript and all that the role wrote and received
pub record IsSession (s : Session) : Type 0 where
  pub sid : AreBytes 32 s.sid
  pub version : (s.cast.version ≡ 1) ⊎ (s.cast.version ≡ 2)
  pub cast : IsCastOf s.cast.version s.cast
  pub role : s.role < most_roles
  pub items : AllByRecursion (IsItem s.cast.version) (transcript s)
  pub openings : AllByRecursion IsOpening (flat_map openings_of s.exchanges)

-- a frame that has a spelling, at most 15 items and few bytes
pub record IsShortFrame (f : Frame) : Type 0 where
  pub spelled : HasSpelling f
  pub items : length f.items ≤ 15
  pub bytes : IsShort f

-- At its turn, along an edge from its place and before the last time, a session in range sends a short frame, if the written openings are those of the edge and in range
abbrev pub SentAreShort : Hash → Type 0
SentAreShort sha = (keys : Keyring) (p : Program) (s : Session) (label : ℕ) (written : List Opening) → IsProgram sha p → IsSession s →
    at_turn p.graph s ≡ true → leaves p.graph s label ≡ true → time s < most_time →
    map (λ o. o.variable) written ≡ writes p.graph label → AllByRecursion IsOpening written →
    IsShortFrame (frame_sent sha keys p s label written)

-- Each frame that an act sends in the run of a schedule is short
abbrev pub RunsSendShort : Hash → Type 0
RunsSendShort sha = (programs : List Program) (s : Schedule) → AreCompiled sha s.graphs programs → IsSchedule sha s →
    (l : Logged) (e : Event) (to : Name) (f : Frame) → Contains (run sha programs s).log l → l.outcome ≡ Answered (Sends e to f) → IsShortFrame f
