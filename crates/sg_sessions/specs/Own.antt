-- Nodes and frames of a generated run: each principal has one role, in casts of the principals that are declared.
use Rattle.std.specs.Prelude.{◌≡◌, ℕ, ◌<◌, List, length, Ok, IfSome, Some, ⊤}
use Rattle.std.specs.List.{AllByRecursion}
use Rattle.sg_model.specs.Bytes.{IsBytes}
use Rattle.sg_protocol.specs.Calls.{Call, Start, Act, Abandon, Deliver}
use Rattle.sg_protocol.specs.Frame.{Frame}
use Rattle.sg_protocol.specs.Graph.{Graph}
use Rattle.sg_protocol.specs.Node.{Node}
use Rattle.sg_protocol.specs.Past.{Past, node_of}
use Rattle.sg_protocol.specs.Ranges.{AreValues, IsCast}
use Rattle.sg_protocol.specs.Reading.{read}
use Rattle.sg_protocol.specs.Session.{Session}
use Rattle.sg_protocol.specs.Texts.{Hash}
use Rattle.sg_protocol.specs.World.{World, frames, past_of}
use Rattle.sg_sessions.specs.Setup.{player, players}
use Rattle.sg_sessions.specs.Spent.{IsOrderly, IsSpent}

-- the session is of the role, in a cast of the declared principals
abbrev pub IsOwnSession : Graph → (role : ℕ) → Session → Type 0
IsOwnSession g role s = (s.role ≡ role) × (s.cast.names ≡ players (length g.roles))

-- the node of a role's principal: its programs are of the graph, it is orderly, and its live sessions are of the role
pub record IsOwnNode (sha : Hash) (g : Graph) (role : ℕ) (n : Node) : Type 0 where
  pub me : n.keys.me ≡ player role
  pub programs : AllByRecursion (λ p. p.graph ≡ g) n.programs
  pub orderly : IsOrderly sha n
  pub live : AllByRecursion (IsOwnSession g role) n.live

-- the bytes are bytes, and a frame that they are joins in a cast of the declared principals, if it joins
pub record IsOwnFrame (g : Graph) (bytes : List ℕ) : Type 0 where
  pub bytes_are : IsBytes bytes
  pub names : (f : Frame) → read bytes ≡ Ok f → IfSome f.join (λ c. c.names ≡ players (length g.roles))

-- a call in range: a start in such a cast, or a delivery of such a frame, or any act or abandonment
abbrev pub IsOwnCall : Graph → Call → Type 0
IsOwnCall g (Start c) = IsCast c × (c.names ≡ players (length g.roles))
IsOwnCall g (Act sid label values confounders) = AreValues values confounders
IsOwnCall g (Abandon sid) = ⊤
IsOwnCall g (Deliver bytes) = IsOwnFrame g bytes

-- the principal of each role has a past, with such a node, and the recorded frames are such
pub record IsOwnRun (sha : Hash) (g : Graph) (w : World) : Type 0 where
  pub nodes : (role : ℕ) → role < length g.roles → (past : Past) × (past_of w (player role) ≡ Some past) × IsOwnNode sha g role (node_of past)
  pub recorded : AllByRecursion (IsOwnFrame g) (frames w)

-- the node of a role's principal takes the frame no more
abbrev pub IsSpentBy : World → (role : ℕ) → Frame → Type 0
IsSpentBy w role f = (past : Past) → past_of w (player role) ≡ Some past → IsSpent (node_of past) f
