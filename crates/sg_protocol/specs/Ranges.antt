-- The sessions of any node stay in range, and so what it sends can be spelled.
use Rattle.std.specs.Prelude.{◌≡◌, ℕ, ◌<◌, ◌⊎◌, List, length, map, Some, None, All, ⊤}
use Rattle.std.specs.List.{AllByRecursion}
use Rattle.sg_model.specs.Bytes.{IsBytes, AreBytes}
use Rattle.sg_model.specs.Last.{Map}
use Rattle.sg_model.specs.Lists.{first_some}
use Rattle.sg_model.specs.Names.{Name}
use Rattle.sg_model.specs.Values.{Value}
use Rattle.sg_model.specs.Limits.{most_roles}
use Rattle.sg_protocol.specs.Graph.{writes}
use Rattle.sg_protocol.specs.Frame.{Cast, Frame, IsValue, IsCastOf}
use Rattle.sg_protocol.specs.Spelling.{HasSpelling}
use Rattle.sg_protocol.specs.Texts.{Hash}
use Rattle.sg_protocol.specs.Keyring.{Keyring, Program}
use Rattle.sg_protocol.specs.Session.{Session, new_session, extended, Took, Gave}
use Rattle.sg_protocol.specs.Sending.{own_item, frame_sent}
use Rattle.sg_protocol.specs.Calls.{Event, Call, Start, Act, Abandon, Deliver, Sends}
use Rattle.sg_protocol.specs.Node.{Node}
use Rattle.sg_protocol.specs.Acting.{openings_for, rows_of_act, answer}
use Rattle.sg_protocol.specs.NodeAfter.{node_after}
use Rattle.sg_protocol.specs.IsSchedule.{IsProgram}
use Rattle.sg_protocol.specs.Bounds.{IsSession, IsShortFrame}

-- a cast of version 1 or 2 whose fields are in range
pub record IsCast (c : Cast) : Type 0 where
  pub version : (c.version ≡ 1) ⊎ (c.version ≡ 2)
  pub fields : IsCastOf c.version c

-- values of variables below 256, each with sixteen bytes to commit to it
pub record AreValues (values : Map Value) (confounders : List (List ℕ)) : Type 0 where
  pub each : AllByRecursion (λ (w : ℕ × Value). (w.0 < 256) × IsValue w.1) values
  pub count : length confounders ≡ length values
  pub bytes : AllByRecursion (AreBytes 16) confounders

-- what is handed to the node is in range
abbrev pub IsCallInRange : Call → Type 0
IsCallInRange (Start c) = IsCast c
IsCallInRange (Act sid label values confounders) = AreValues values confounders
IsCallInRange (Abandon sid) = ⊤
IsCallInRange (Deliver bytes) = IsBytes bytes

-- A session in range stays so, whatever it sends and accepts
pub record SessionsStayInRange (sha : Hash) : Type 0 where
  pub begins : (sid : List ℕ) (c : Cast) (r : ℕ) → AreBytes 32 sid → IsCast c → r < most_roles → IsSession (new_session sid c r)
  -- the session that a frame joins
  pub joins : (f : Frame) (c : Cast) → HasSpelling f → f.join ≡ Some c → IsSession (new_session f.sid c f.receiver)
  -- a step on which no row holds writes what its edge writes, sends a short frame, and leaves the session in range
  pub gives : (keys : Keyring) (p : Program) (s : Session) (label : ℕ) (values : Map Value) (confounders : List (List ℕ)) → IsProgram sha p → IsSession s →
      first_some (rows_of_act p s label values) ≡ None → AreValues values confounders →
      let written = openings_for values confounders in
      (map (λ o. o.variable) written ≡ writes p.graph label) × IsShortFrame (frame_sent sha keys p s label written) × IsSession (extended s (Gave (own_item sha keys p s label written) written))
  -- a frame of the session's version that was read
  pub takes : (s : Session) (f : Frame) → IsSession s → HasSpelling f → f.version ≡ s.cast.version → IsSession (extended s (Took f))

-- After a call in range all live sessions of a node are in range, if they were before, and a frame that it sent is short
pub record NodesStayInRange (sha : Hash) : Type 0 where
  pub live : (n : Node) (c : Call) → All (IsProgram sha) n.programs → All IsSession n.live → IsCallInRange c → All IsSession (node_after n c (answer sha n c)).live
  pub sent : (n : Node) (c : Call) (e : Event) (to : Name) (f : Frame) → All (IsProgram sha) n.programs → All IsSession n.live → IsCallInRange c → answer sha n c ≡ Sends e to f → IsShortFrame f
