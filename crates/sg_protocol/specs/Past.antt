-- A node by its past: what it was made with, and its calls with their answers.
use Rattle.std.specs.Prelude.{◌≡◌, ℕ, List, [], ◌∷◌, IsTrue, Bool, true, false, ◌&&◌, if◌then◌else◌, filter, bytes_eq, not, ◌++◌, flat_map, Result, Ok, Err, ⊤}
use Rattle.sg_protocol.specs.Frame.{Frame}
use Rattle.sg_protocol.specs.Reading.{read}
use Rattle.sg_protocol.specs.Texts.{Hash, session_id}
use Rattle.sg_protocol.specs.Keyring.{Keyring, Program}
use Rattle.sg_protocol.specs.Calls.{Event, sid_of, role_of, does_join, Call, Answer, events_of_answer, Act, Start, Abandon, Deliver}
use Rattle.sg_protocol.specs.Node.{Node, has_joined}
use Rattle.sg_protocol.specs.Acting.{answer}
use Rattle.sg_protocol.specs.NodeAfter.{node_after}

-- a call and its answer
pub record AnsweredCall : Type 0 where
  pub call : Call
  pub answer : Answer

-- what a node was made with, and its calls in order
pub record Past : Type 0 where
  pub keys : Keyring
  pub programs : List Program
  pub first : List (List ℕ × ℕ)
  pub calls : List AnsweredCall

-- the node after these calls
abbrev pub node_after_all : Node → List AnsweredCall → Node
node_after_all n [] = n
node_after_all n (c ∷ cs) = node_after_all (node_after n c.call c.answer) cs

-- a node that is made
abbrev pub new_node : Keyring → List Program → List (List ℕ × ℕ) → Node
new_node keys programs first = record { keys = keys; programs = programs; joins = first; live = [] }

-- the node of a past
abbrev pub node_of : Past → Node
node_of past = node_after_all (new_node past.keys past.programs past.first) past.calls

-- the past with one more call, and its answer
abbrev pub past_after : Hash → Past → Call → Past
past_after sha past call = record past { calls = past.calls ++ record { call = call; answer = answer sha (node_of past) call } ∷ [] }

-- each answer is the one that the node gives
abbrev pub AreAnswers : Hash → Node → List AnsweredCall → Type 0
AreAnswers sha n [] = ⊤
AreAnswers sha n (c ∷ cs) = (c.answer ≡ answer sha n c.call) × AreAnswers sha (node_after n c.call c.answer) cs

-- the answers of a node to these calls, one after another
abbrev pub answers : Hash → Node → List Call → List Answer
answers sha n [] = []
answers sha n (c ∷ cs) = answer sha n c ∷ answers sha (node_after n c (answer sha n c)) cs

-- ---- the calls of a session

-- what was read is a frame of the session
abbrev pub is_frame_of : List ℕ → Result Frame ℕ → Bool
is_frame_of sid (Err at) = false
is_frame_of sid (Ok f) = bytes_eq f.sid sid

-- the call belongs to the session
abbrev pub is_call_of : Hash → List ℕ → Call → Bool
is_call_of sha sid (Start c) = bytes_eq (session_id sha c) sid
is_call_of sha sid (Act sid' label values confounders) = bytes_eq sid' sid
is_call_of sha sid (Abandon sid') = bytes_eq sid' sid
is_call_of sha sid (Deliver bytes) = is_frame_of sid (read bytes)

-- the calls that belong to the session
abbrev pub calls_of_session : Hash → List ℕ → List AnsweredCall → List AnsweredCall
calls_of_session sha sid calls = filter (λ c. is_call_of sha sid c.call) calls

-- ---- joined once

-- the pairs are all different
abbrev pub pairs_differ : List (List ℕ × ℕ) → Bool
pairs_differ [] = true
pairs_differ (j ∷ js) = not (has_joined js j.0 j.1) && pairs_differ js

-- a joining event is of a new pair, and each other event of a pair that was joined before
abbrev pub joins_once : List (List ℕ × ℕ) → List Event → Bool
joins_once joins [] = true
joins_once joins (e ∷ es) =
    if does_join e
    then not (has_joined joins (sid_of e) (role_of e)) && joins_once (joins ++ (sid_of e, role_of e) ∷ []) es
    else has_joined joins (sid_of e) (role_of e) && joins_once joins es

-- no pair was joined twice, nor one that the node was made with, and each other event of a pair came after its join
pub record JoinedOnce (past : Past) : Type 0 where
  pub first : IsTrue (pairs_differ past.first)
  pub events : IsTrue (joins_once past.first (flat_map (λ c. events_of_answer c.answer) past.calls))
