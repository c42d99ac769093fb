-- Sessions do not disturb each other.
use Rattle.std.specs.Prelude.{◌≡◌, ℕ, List, Bool, true, false, map, filter, length, bytes_eq, All}
use Rattle.sg_protocol.specs.Texts.{Hash}
use Rattle.sg_protocol.specs.Session.{Session}
use Rattle.sg_protocol.specs.Calls.{Call, Answer, CacheFull, SessionsFull, NotStarted, NotDelivered}
use Rattle.sg_protocol.specs.Node.{Node}
use Rattle.sg_protocol.specs.Acting.{answer}
use Rattle.sg_protocol.specs.NodeAfter.{node_after}
use Rattle.sg_protocol.specs.Past.{Past, new_node, AreAnswers, answers, is_call_of, calls_of_session}

-- the call was refused because there was no room
abbrev pub is_for_room : Answer → Bool
is_for_room (NotDelivered CacheFull) = true
is_for_room (NotDelivered SessionsFull) = true
is_for_room (NotStarted CacheFull) = true
is_for_room (NotStarted SessionsFull) = true
is_for_room other = false

-- If no call was refused because there was no room, a node answers the calls of a session as a node that gets no other calls would
abbrev pub SessionsAreIsolated : Hash → Type 0
SessionsAreIsolated sha = (past : Past) (sid : List ℕ) →
    AreAnswers sha (new_node past.keys past.programs past.first) past.calls →
    All (λ c. is_for_room c.answer ≡ false) past.calls →
    map (λ c. c.answer) (calls_of_session sha sid past.calls)
    ≡ answers sha (new_node past.keys past.programs past.first) (map (λ c. c.call) (calls_of_session sha sid past.calls))

-- ---- each call

-- the joins with the sid, in order
abbrev pub joins_with : List (List ℕ × ℕ) → List ℕ → List (List ℕ × ℕ)
joins_with joins sid = filter (λ (j : List ℕ × ℕ). bytes_eq j.0 sid) joins

-- the live sessions with the sid, in the order of joining
abbrev pub sessions_with : List Session → List ℕ → List Session
sessions_with live sid = filter (λ s. bytes_eq s.sid sid) live

-- both nodes have the same keys and programs, the same joins and live sessions with the sid, and as many joins and live sessions in all
pub record AreAlike (sid : List ℕ) (n n' : Node) : Type 0 where
  pub keys : n.keys ≡ n'.keys
  pub programs : n.programs ≡ n'.programs
  pub joins : joins_with n.joins sid ≡ joins_with n'.joins sid
  pub live : sessions_with n.live sid ≡ sessions_with n'.live sid
  pub join_count : length n.joins ≡ length n'.joins
  pub live_count : length n.live ≡ length n'.live

-- Nodes that are alike in a sid answer a call of this sid alike
abbrev pub AnswersAreOfSessions : Hash → Type 0
AnswersAreOfSessions sha = (sid : List ℕ) (n n' : Node) (c : Call) → is_call_of sha sid c ≡ true → AreAlike sid n n' → answer sha n c ≡ answer sha n' c

-- Nodes that are alike in a sid are alike in it after a call of this sid
abbrev pub CallsKeepAlike : Hash → Type 0
CallsKeepAlike sha = (sid : List ℕ) (n n' : Node) (c : Call) → is_call_of sha sid c ≡ true → AreAlike sid n n' → AreAlike sid (node_after n c (answer sha n c)) (node_after n' c (answer sha n' c))

-- after it a node has the keys, the programs, and the joins and live sessions with the sid that it had before
pub record IsLeft (sid : List ℕ) (before after : Node) : Type 0 where
  pub keys : after.keys ≡ before.keys
  pub programs : after.programs ≡ before.programs
  pub joins : joins_with after.joins sid ≡ joins_with before.joins sid
  pub live : sessions_with after.live sid ≡ sessions_with before.live sid

-- A call that is not of a sid leaves all that the node has of this sid
abbrev pub CallsLeaveOthers : Hash → Type 0
CallsLeaveOthers sha = (sid : List ℕ) (n : Node) (c : Call) → is_call_of sha sid c ≡ false → IsLeft sid n (node_after n c (answer sha n c))
