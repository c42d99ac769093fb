-- What holds of each live session of a node, whatever was delivered to it.
use Rattle.std.specs.Prelude.{◌≡◌, ◌≢◌, ℕ, List, true, false, All, IsSomeAnd, Some, None}
use Rattle.sg_model.specs.Bytes.{AreBytes}
use Rattle.sg_model.specs.Last.{Map, last}
use Rattle.sg_model.specs.Lists.{first_some}
use Rattle.sg_model.specs.Shape.{role_at}
use Rattle.sg_model.specs.Values.{Value}
use Rattle.sg_protocol.specs.Graph.{shape}
use Rattle.sg_protocol.specs.Frame.{Cast, Frame}
use Rattle.sg_protocol.specs.Spelling.{HasSpelling}
use Rattle.sg_protocol.specs.Texts.{Hash}
use Rattle.sg_protocol.specs.Keyring.{Keyring, Program}
use Rattle.sg_protocol.specs.Session.{Session, new_session, extended, origin, at_turn, Took, Gave}
use Rattle.sg_protocol.specs.Sending.{own_item, frame_sent}
use Rattle.sg_protocol.specs.Calls.{Call}
use Rattle.sg_protocol.specs.Node.{Node, program_for}
use Rattle.sg_protocol.specs.Verdict.{rows_of_session}
use Rattle.sg_protocol.specs.Acting.{openings_for, rows_of_act, answer}
use Rattle.sg_protocol.specs.NodeAfter.{node_after}
use Rattle.sg_protocol.specs.Past.{Past, new_node, node_of, AreAnswers}
use Rattle.sg_protocol.specs.IsSchedule.{IsProgram}
use Rattle.sg_protocol.specs.Bounds.{IsSession, IsShortFrame}
use Rattle.sg_protocol.specs.Following.{IsFollowed}
use Rattle.sg_protocol.specs.Ranges.{IsCast, AreValues, IsCallInRange}
use Rattle.sg_protocol.specs.Representation.{EndsWithOwn, EndsWithOther}

-- the session is of the program's graph and role and in range, and what is kept of it follows a walk
pub record IsSound (sha : Hash) (p : Program) (s : Session) : Type 0 where
  pub graph : (s.cast).graph ≡ p.digest
  pub role : s.role ≡ p.role
  pub in_range : IsSession s
  pub follows : IsFollowed sha p.graph s
  -- it is new, or ends with a frame if it is at its turn, and with an own item if it waits
  pub ends_at_turn : at_turn p.graph s ≡ true → EndsWithOther s
  pub ends_waiting : at_turn p.graph s ≡ false → EndsWithOwn s

-- the session is sound under the program for its graph and role
abbrev pub IsLive : Hash → List Program → Session → Type 0
IsLive sha programs s = IsSomeAnd (program_for programs (s.cast).graph s.role) (λ p. IsSound sha p s)

-- A new session is sound, and so is it after each step and each accepted frame
pub record SessionsAreSound (sha : Hash) : Type 0 where
  pub begins : (p : Program) (sid : List ℕ) (c : Cast) → IsProgram sha p → AreBytes 32 sid → IsCast c → c.graph ≡ p.digest → IsSound sha p (new_session sid c p.role)
  -- a step on which no row holds sends a short frame, which ends with the own item, and then the role waits
  pub gives : (keys : Keyring) (p : Program) (s : Session) (label : ℕ) (values : Map Value) (confounders : List (List ℕ)) → IsProgram sha p → IsSound sha p s →
      first_some (rows_of_act p s label values) ≡ None → AreValues values confounders →
      let written = openings_for values confounders in
      let i = own_item sha keys p s label written in
      let f = frame_sent sha keys p s label written in
      let now = extended s (Gave i written) in
      (last f.items ≡ Some i) × IsShortFrame f × IsSound sha p now × (at_turn p.graph now ≡ false)
  -- a frame of the session's version that was read, and on which no row holds: then the role is at its turn
  pub takes : (keys : Keyring) (p : Program) (s : Session) (f : Frame) → IsProgram sha p → IsSound sha p s → at_turn p.graph s ≡ false →
      HasSpelling f → f.version ≡ (s.cast).version → first_some (rows_of_session sha keys p s f) ≡ None →
      let now = extended s (Took f) in
      IsSound sha p now × (at_turn p.graph now ≡ true)
  -- such a frame that joins
  pub joins : (keys : Keyring) (p : Program) (f : Frame) (c : Cast) → IsProgram sha p → HasSpelling f → f.join ≡ Some c → c.graph ≡ p.digest → f.receiver ≡ p.role →
      first_some (rows_of_session sha keys p (new_session f.sid c f.receiver) f) ≡ None →
      let now = extended (new_session f.sid c f.receiver) (Took f) in
      IsSound sha p now × (at_turn p.graph now ≡ true)
  -- no role of the start node is shown a walk on which it has no step
  pub not_at_start : (keys : Keyring) (p : Program) (s : Session) (f : Frame) → IsProgram sha p → s.role ≡ p.role → origin s ≡ None →
      first_some (rows_of_session sha keys p s f) ≡ None → role_at (shape p.graph) 0 ≢ s.role

-- All live sessions of a node are sound after each call in range, if they were before, and so after all calls of each past
pub record NodesAreSound (sha : Hash) : Type 0 where
  pub after_call : (n : Node) (c : Call) → All (IsProgram sha) n.programs → All (IsLive sha n.programs) n.live → IsCallInRange c → All (IsLive sha n.programs) (node_after n c (answer sha n c)).live
  pub in_pasts : (past : Past) → All (IsProgram sha) past.programs → All (λ c. IsCallInRange c.call) past.calls → AreAnswers sha (new_node past.keys past.programs past.first) past.calls →
      All (IsLive sha past.programs) (node_of past).live
