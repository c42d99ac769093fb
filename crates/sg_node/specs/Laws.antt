-- The whole life of a node: the past of one that is made, and what holds of each valid past.
use Rattle.std.specs.Prelude.{◌≡◌, ℕ, List, [], map, true, false, All, IsTrue}
use Rattle.sg_protocol.specs.Acting.{answer}
use Rattle.sg_protocol.specs.Calls.{Call}
use Rattle.sg_protocol.specs.Isolation.{is_for_room, AreAlike, IsLeft}
use Rattle.sg_protocol.specs.Keyring.{Keyring, Program}
use Rattle.sg_protocol.specs.NodeStates.{RepresentsPast, new_state}
use Rattle.sg_protocol.specs.Past.{Past, new_node, node_of, past_after, AreAnswers, answers, is_call_of, calls_of_session, pairs_differ, JoinedOnce}
use Rattle.sg_protocol.specs.Ranges.{IsCallInRange}
use Rattle.sg_protocol.specs.Texts.{real}
use Rattle.sg_node.specs.Answers.{IsAnsweredPast}

-- the past of a node that is made, without calls
abbrev pub new_past : Keyring → List Program → List (List ℕ × ℕ) → Past
new_past keys programs first = record { keys = keys; programs = programs; first = first; calls = [] }

-- A node that is made represents the past without calls, which is valid
abbrev pub NewNodesRepresent : Type 0
NewNodesRepresent = (keys : Keyring) (programs : List Program) (first : List (List ℕ × ℕ)) →
    RepresentsPast (new_state keys programs first) (new_past keys programs first) × IsAnsweredPast (new_past keys programs first)

-- A valid past is valid with a call in range and the node's answer
abbrev pub PastsGoOn : Type 0
PastsGoOn = (past : Past) (c : Call) → IsAnsweredPast past → IsCallInRange c → IsAnsweredPast (past_after real past c)

-- If no call was refused because there was no room, a node answered the calls of a session as a node that gets no other calls would
abbrev pub SessionsAreAlone : Type 0
SessionsAreAlone = (past : Past) (sid : List ℕ) → AreAnswers real (new_node past.keys past.programs past.first) past.calls → All (λ c. is_for_room c.answer ≡ false) past.calls →
    map (λ c. c.answer) (calls_of_session real sid past.calls)
    ≡ answers real (new_node past.keys past.programs past.first) (map (λ c. c.call) (calls_of_session real sid past.calls))

-- Nodes that have the same of a sid answer its calls alike, and have the same of it afterwards
abbrev pub SameForSessions : Type 0
SameForSessions = (past past' : Past) (sid : List ℕ) (c : Call) → is_call_of real sid c ≡ true → AreAlike sid (node_of past) (node_of past') →
    (answer real (node_of past) c ≡ answer real (node_of past') c) × AreAlike sid (node_of (past_after real past c)) (node_of (past_after real past' c))

-- A call that is not of a sid leaves all that a node has of it
abbrev pub OthersAreLeft : Type 0
OthersAreLeft = (past : Past) (sid : List ℕ) (c : Call) → is_call_of real sid c ≡ false → IsLeft sid (node_of past) (node_of (past_after real past c))

-- Whatever the calls are, no pair of session and role is joined twice, nor one that the node was made with, if these differ
abbrev pub PairsJoinOnce : Type 0
PairsJoinOnce = (past : Past) → IsTrue (pairs_differ past.first) → AreAnswers real (new_node past.keys past.programs past.first) past.calls → JoinedOnce past
