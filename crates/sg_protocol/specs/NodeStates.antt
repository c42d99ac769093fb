-- What a state of a node represents: pasts whose live sessions its parts represent.
use Rattle.std.specs.Prelude.{◌≡◌, ℕ, List, [], ◌∷◌, ◌==◌, Bool, true, ◌&&◌, if◌then◌else◌, ◌⊎◌, ◌++◌, bytes_eq, not, Result, Ok, Err, All, IsSomeAnd, Option, None, Some, find, ⊤}
use Rattle.std.specs.List.{list_any}
use Rattle.std.specs.Option.{option_map_or}
use Rattle.sg_model.specs.Last.{last}
use Rattle.sg_model.specs.Shape.{role_at}
use Rattle.sg_protocol.specs.Graph.{shape}
use Rattle.sg_protocol.specs.Frame.{Cast, Frame}
use Rattle.sg_protocol.specs.Reading.{read}
use Rattle.sg_protocol.specs.Texts.{Hash}
use Rattle.sg_protocol.specs.Keyring.{Keyring, Program, may_return}
use Rattle.sg_protocol.specs.Session.{Session, Exchange, Took, Gave}
use Rattle.sg_protocol.specs.Calls.{Call, Answer, Act, Started, Received, Start, Abandon, Deliver, Happened, Sends, Abandoned}
use Rattle.sg_protocol.specs.Node.{Node, program_for, session_with, session_for}
use Rattle.sg_protocol.specs.Acting.{openings_for, answer}
use Rattle.sg_protocol.specs.NodeAfter.{node_after}
use Rattle.sg_protocol.specs.Past.{Past, node_of, past_after, new_node, AreAnswers}
use Rattle.sg_protocol.specs.IsSchedule.{IsProgram}
use Rattle.sg_protocol.specs.Ranges.{IsCallInRange}
use Rattle.sg_protocol.specs.Representation.{Held, RepresentsWaiting, RepresentsAtTurn, nothing_kept, held_after}
use Rattle.sg_protocol.specs.Live.{IsLive}
use Rattle.sg_protocol.specs.Reachable.{IsReachableAtTurn, IsReachableWaiting}

-- a node's keys, programs and joins, and what it holds of each live session in the order of joining
pub record NodeState : Type 0 where
  pub keys : Keyring
  pub programs : List Program
  pub joins : List (List ℕ × ℕ)
  pub live : List Held

-- what is held represents the session, at its turn or waiting, under the program for its graph and role
abbrev pub RepresentsLive : List Program → Held → Session → Type 0
RepresentsLive programs h s = IsSomeAnd (program_for programs (s.cast).graph s.role) (λ p. RepresentsAtTurn p.graph h s ⊎ RepresentsWaiting p.graph h s)

-- each represents the session at its index
abbrev pub RepresentEach : List Program → List Held → List Session → Type 0
RepresentEach programs [] [] = ⊤
RepresentEach programs [] (s ∷ ss) = ⊥
RepresentEach programs (h ∷ hs) [] = ⊥
RepresentEach programs (h ∷ hs) (s ∷ ss) = RepresentsLive programs h s × RepresentEach programs hs ss

-- none is there, or the one represents the other
abbrev pub RepresentsIf : List Program → Option Held → Option Session → Type 0
RepresentsIf programs None None = ⊤
RepresentsIf programs None (Some s) = ⊥
RepresentsIf programs (Some h) None = ⊥
RepresentsIf programs (Some h) (Some s) = RepresentsLive programs h s

-- the state has the node's keys, programs and joins, and represents each of its live sessions
pub record RepresentsNode (st : NodeState) (n : Node) : Type 0 where
  pub keys : st.keys ≡ n.keys
  pub programs : st.programs ≡ n.programs
  pub joins : st.joins ≡ n.joins
  pub live : RepresentEach n.programs st.live n.live

-- the state represents the node after the calls of the past
abbrev pub RepresentsPast : NodeState → Past → Type 0
RepresentsPast st past = RepresentsNode st (node_of past)

-- ---- the state after a call

-- the state of a node that is made
abbrev pub new_state : Keyring → List Program → List (List ℕ × ℕ) → NodeState
new_state keys programs first = record { keys = keys; programs = programs; joins = first; live = [] }

-- what is held of a session with the sid
abbrev pub has_sid : List ℕ → Held → Bool
has_sid sid h = bytes_eq h.sid sid

-- what is held of a session with the sid, the role and the version of a frame
abbrev pub is_held_for : Frame → Held → Bool
is_held_for f h = bytes_eq h.sid f.sid && (h.role == f.receiver) && ((h.cast).version == f.version)

-- at its turn what is held is over if no edge leaves the place, and otherwise if its role has no node to come to
abbrev pub is_spent : Program → Held → Bool
is_spent p h =
    if role_at (shape p.graph) (h.kept).place == h.role
    then not (list_any (λ e. e.source == (h.kept).place) p.graph.edges)
    else not (option_map_or (may_return p) (h.kept).origin true)

-- what is held, unless it is over
abbrev pub unless_spent : Program → Held → List Held
unless_spent p h = if is_spent p h then [] else h ∷ []

-- what is held after an exchange, unless it is over
abbrev pub still_held : List Program → Held → Exchange → List Held
still_held programs h e = option_map_or (λ p. unless_spent p (held_after p.graph h e)) (program_for programs (h.cast).graph h.role) []

-- what is held of a session that begins
abbrev pub begun : List Program → List ℕ → Cast → ℕ → List Held
begun programs sid c r = option_map_or (λ p. unless_spent p (record { sid = sid; cast = c; role = r; kept = nothing_kept p.graph })) (program_for programs c.graph r) []

-- what is held of a session that a frame joins
abbrev pub joined_by : List Program → Frame → Cast → List Held
joined_by programs f c = option_map_or (λ p. unless_spent p (held_after p.graph (record { sid = f.sid; cast = c; role = f.receiver; kept = nothing_kept p.graph }) (Took f))) (program_for programs c.graph f.receiver) []

-- the first that passes is replaced by these
abbrev pub replace_held : (Held → Bool) → (Held → List Held) → List Held → List Held
replace_held which now [] = []
replace_held which now (h ∷ hs) = if which h then now h ++ hs else (h ∷ replace_held which now hs)

-- a pair is joined, and this is held of its session
abbrev pub with_join : NodeState → List ℕ → ℕ → List Held → NodeState
with_join st sid r hs = record st { joins = st.joins ++ (sid, r) ∷ []; live = st.live ++ hs }

-- the first that passes goes on
abbrev pub with_live : NodeState → (Held → Bool) → (Held → List Held) → NodeState
with_live st which now = record st { live = replace_held which now st.live }

-- a frame was accepted
abbrev pub state_taking : NodeState → Result Frame ℕ → NodeState
state_taking st (Err at) = st
state_taking st (Ok f) = option_map_or (λ c. with_join st f.sid f.receiver (joined_by st.programs f c)) f.join (with_live st (is_held_for f) (λ h. still_held st.programs h (Took f)))

-- the state after a call that was answered so
abbrev pub state_after : NodeState → Call → Answer → NodeState
state_after st (Start c) (Happened (Started sid r)) = with_join st sid r (begun st.programs sid c r)
state_after st (Act sid label values confounders) (Sends e to f) =
    with_live st (has_sid sid) (λ h. option_map_or (λ i. still_held st.programs h (Gave i (openings_for values confounders))) (last f.items) (h ∷ []))
state_after st (Abandon sid) Abandoned = with_live st (has_sid sid) (λ h. [])
state_after st (Deliver bytes) (Happened (Received sid r label time values joins)) = state_taking st (read bytes)
state_after st call other = st

-- some sound session stands behind what is held, under the program for its graph and role
abbrev pub IsReachableLive : Hash → List Program → Held → Type 0
IsReachableLive sha programs h = IsSomeAnd (program_for programs (h.cast).graph h.role) (λ p. IsReachableAtTurn sha p h ⊎ IsReachableWaiting sha p h)

-- ---- the laws

-- A state that represents a node of sound sessions, after a call in range and its answer represents the node after them
pub record NodeStatesRepresent (sha : Hash) : Type 0 where
  pub is_new : (keys : Keyring) (programs : List Program) (first : List (List ℕ × ℕ)) → RepresentsNode (new_state keys programs first) (new_node keys programs first)
  pub finds_session : (programs : List Program) (hs : List Held) (ss : List Session) (sid : List ℕ) → RepresentEach programs hs ss → RepresentsIf programs (find (has_sid sid) hs) (session_with ss sid)
  pub finds_for_frame : (programs : List Program) (hs : List Held) (ss : List Session) (f : Frame) → RepresentEach programs hs ss → RepresentsIf programs (find (is_held_for f) hs) (session_for ss f)
  pub after_call : (st : NodeState) (n : Node) (c : Call) → All (IsProgram sha) n.programs → All (IsLive sha n.programs) n.live → IsCallInRange c → RepresentsNode st n → RepresentsNode (state_after st c (answer sha n c)) (node_after n c (answer sha n c))
  -- so does it where some sound session stands behind each thing held, whatever the sessions of the node are
  pub after_reachable : (st : NodeState) (n : Node) (c : Call) → All (IsProgram sha) n.programs → All (IsReachableLive sha n.programs) st.live → IsCallInRange c → RepresentsNode st n → RepresentsNode (state_after st c (answer sha n c)) (node_after n c (answer sha n c))
  -- and so for each past whose answers are those of the node
  pub after_past : (st : NodeState) (past : Past) (c : Call) → All (IsProgram sha) past.programs → All (λ c. IsCallInRange c.call) past.calls → AreAnswers sha (new_node past.keys past.programs past.first) past.calls → IsCallInRange c →
      RepresentsPast st past → RepresentsPast (state_after st c (answer sha (node_of past) c)) (past_after sha past c)
