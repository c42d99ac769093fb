-- What a role's state can keep as its invariant: it is reachable, as it represents some sound session.
use Rattle.std.specs.Prelude.{◌≡◌, ◌≢◌, ℕ, ◌<◌, ◌⊎◌, List, length, true, false, Some, None, IsTrue}
use Rattle.sg_model.specs.Bytes.{AreBytes}
use Rattle.sg_model.specs.Last.{Map, last}
use Rattle.sg_model.specs.Lists.{is_in, first_some}
use Rattle.sg_model.specs.Shape.{role_at, source}
use Rattle.sg_model.specs.Values.{Value}
use Rattle.sg_protocol.specs.Graph.{shape, writes, reads}
use Rattle.sg_protocol.specs.Frame.{Cast, Frame}
use Rattle.sg_protocol.specs.Spelling.{HasSpelling}
use Rattle.sg_protocol.specs.Texts.{Hash}
use Rattle.sg_protocol.specs.Keyring.{Keyring, Program}
use Rattle.sg_protocol.specs.Session.{Session, Took, Gave}
use Rattle.sg_protocol.specs.Sending.{own_item, frame_sent}
use Rattle.sg_protocol.specs.Verdict.{rows_of_session}
use Rattle.sg_protocol.specs.Acting.{openings_for, rows_of_act}
use Rattle.sg_protocol.specs.IsSchedule.{IsProgram}
use Rattle.sg_protocol.specs.Bounds.{IsShortFrame}
use Rattle.sg_protocol.specs.Following.{IsOpened, FollowsWalk}
use Rattle.sg_protocol.specs.Ranges.{IsCast, AreValues}
use Rattle.sg_protocol.specs.Representation.{Held, RepresentsBefore, RepresentsWaiting, RepresentsAtTurn, nothing_kept, held_after}
use Rattle.sg_protocol.specs.Live.{IsSound}

-- the state represents some sound session that is new or ends with an own item, and what it keeps follows a walk to the role's own
-- last step
pub record IsReachableBefore (sha : Hash) (p : Program) (h : Held) : Type 0 where
  pub session : Session
  pub represents : RepresentsBefore p.graph h session
  pub sound : IsSound sha p session
  pub follows : FollowsWalk sha p.graph h.sid h.role false h.kept

-- the state, waiting, represents some sound session
pub record IsReachableWaiting (sha : Hash) (p : Program) (h : Held) : Type 0 where
  pub session : Session
  pub represents : RepresentsWaiting p.graph h session
  pub sound : IsSound sha p session

-- the state, at its turn, represents some sound session
pub record IsReachableAtTurn (sha : Hash) (p : Program) (h : Held) : Type 0 where
  pub session : Session
  pub represents : RepresentsAtTurn p.graph h session
  pub sound : IsSound sha p session

-- A new state has its invariant, and it keeps it by what is sent and accepted in any session that it represents
pub record StatesAreReachable (sha : Hash) : Type 0 where
  pub is_new : (p : Program) (sid : List ℕ) (c : Cast) → IsProgram sha p → AreBytes 32 sid → IsCast c → c.graph ≡ p.digest →
      IsReachableBefore sha p (record { sid = sid; cast = c; role = p.role; kept = nothing_kept p.graph })
  -- the start node's role begins, and each other waits to join
  pub begins : (p : Program) (h : Held) → IsReachableBefore sha p h → (h.kept).origin ≡ None → role_at (shape p.graph) 0 ≡ h.role → IsReachableAtTurn sha p h
  pub joins : (p : Program) (h : Held) → IsReachableBefore sha p h → (h.kept).origin ≡ None → role_at (shape p.graph) 0 ≢ h.role → IsReachableWaiting sha p h
  pub before : (p : Program) (h : Held) → IsReachableWaiting sha p h → IsReachableBefore sha p h
  -- a step on which no row holds sends a short frame, which ends with the own item
  pub gives : (keys : Keyring) (p : Program) (h : Held) (s : Session) (label : ℕ) (values : Map Value) (confounders : List (List ℕ)) → IsProgram sha p → IsReachableAtTurn sha p h → RepresentsAtTurn p.graph h s →
      first_some (rows_of_act p s label values) ≡ None → AreValues values confounders →
      let written = openings_for values confounders in
      let i = own_item sha keys p s label written in
      let f = frame_sent sha keys p s label written in
      (last f.items ≡ Some i) × IsShortFrame f × IsReachableWaiting sha p (held_after p.graph h (Gave i written))
  -- a frame of the cast's version that was read, and on which no row holds
  pub takes : (keys : Keyring) (p : Program) (h : Held) (s : Session) (f : Frame) → IsProgram sha p → IsReachableBefore sha p h → RepresentsBefore p.graph h s → HasSpelling f → f.version ≡ (h.cast).version →
      first_some (rows_of_session sha keys p s f) ≡ None → IsReachableAtTurn sha p (held_after p.graph h (Took f))
  -- what is kept at a turn follows a walk to the kept place, which is a node of the role, and what an edge from there reads is written by the edge or kept
  pub at_place : (p : Program) (h : Held) → IsReachableAtTurn sha p h → FollowsWalk sha p.graph h.sid h.role true h.kept × (role_at (shape p.graph) (h.kept).place ≡ h.role)
  pub keeps_reads : (p : Program) (h : Held) (label x : ℕ) → IsProgram sha p → IsReachableAtTurn sha p h → label < length p.graph.edges → source (shape p.graph) label ≡ (h.kept).place → IsTrue (is_in x (reads p.graph label)) →
      IsTrue (is_in x (writes p.graph label)) ⊎ IsOpened sha h.sid h.kept x
