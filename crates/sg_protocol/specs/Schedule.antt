-- A schedule: what is declared, and the steps.
use Rattle.std.specs.Prelude.{ℕ, List, [], Bool, Option, Some, None, bytes_eq, ◌++◌, option_map, find, slice_get}
use Rattle.std.specs.Option.{option_map_or}
use Rattle.sg_model.specs.Last.{Map}
use Rattle.sg_model.specs.Lists.{has_text}
use Rattle.sg_model.specs.Names.{Name}
use Rattle.sg_model.specs.Values.{Value, Opening}
use Rattle.sg_protocol.specs.Graph.{Graph}
use Rattle.sg_protocol.specs.Frame.{Cast}
use Rattle.sg_protocol.specs.Spelling.{u64}
use Rattle.sg_protocol.specs.Texts.{Hash, graph_digest, session_id}
use Rattle.sg_protocol.specs.Session.{principal}

-- the key of two principals
pub record PairKey : Type 0 where
  pub one : Name
  pub two : Name
  pub key : List ℕ

-- a session by its name
pub record NamedSession : Type 0 where
  pub name : Name
  pub cast : Cast

-- a recorded frame, numbered from 1, whole or changed in one bit or cut short, or any bytes
pub data What : Type 0 where
  Whole : (number : ℕ) → What
  Flipped : (number at : ℕ) → What
  Cut : (number len : ℕ) → What
  Bytes : List ℕ → What

-- where a crafted tag comes from
pub data Source : Type 0 where
  Key : (one two : Name) → Source
  CopyItem : (frame item role : ℕ) → Source
  CopySeal : (frame : ℕ) → Source
  Zero : Source

-- another nonce or other names for a crafted cast
pub record CraftJoin : Type 0 where
  pub nonce : Option ℕ
  pub names : Option (List Name)

-- an item of a crafted frame, with openings for its commitments
pub record CraftItem : Type 0 where
  pub label : ℕ
  pub time : ℕ
  pub delta : List Opening
  pub tags : Map Source

-- a frame that a compromised principal makes
pub record Craft : Type 0 where
  pub session : ℕ
  pub from : ℕ
  pub to : ℕ
  pub join : Option CraftJoin
  pub know : List Opening
  pub items : List CraftItem
  pub openings : List Opening
  pub seal : Source

-- a step of a schedule. A session is an index in the list of those declared
pub data Step : Type 0 where
  StartStep : (who : Name) (session : ℕ) → Step
  ActStep : (who : Name) (session label : ℕ) (values : Map Value) → Step
  AbandonStep : (who : Name) (session : ℕ) → Step
  DeliverStep : (who : Name) → What → Step
  CraftStep : Craft → Step

-- what is declared, and the steps
pub record Schedule : Type 0 where
  pub graphs : List Graph
  pub honest : List Name
  pub keys : List PairKey
  pub sessions : List NamedSession
  pub steps : List Step

-- ---- what a schedule says

-- the cast of a declared session
abbrev pub cast_of : Schedule → ℕ → Option Cast
cast_of s n = option_map (λ d. d.cast) (slice_get s.sessions n)

-- the sid of a declared session
abbrev pub sid_at : Hash → Schedule → ℕ → List ℕ
sid_at sha s n = option_map_or (session_id sha) (cast_of s n) []

-- the confounder of x at step k
abbrev pub confounder : ℕ → ℕ → List ℕ
confounder k x = u64 k ++ u64 x

-- the principal whose step it is
abbrev pub who_of : Step → Option Name
who_of (StartStep who n) = Some who
who_of (ActStep who n label values) = Some who
who_of (AbandonStep who n) = Some who
who_of (DeliverStep who what) = Some who
who_of (CraftStep c) = None

-- the graph with a digest
abbrev pub graph_with : Hash → List Graph → List ℕ → Option Graph
graph_with sha graphs digest = find (λ g. bytes_eq (graph_digest sha g) digest) graphs

-- the principal is honest
abbrev pub is_honest : Schedule → Name → Bool
is_honest s name = has_text name s.honest

-- the role of the cast has an honest principal
abbrev pub honest_role : Schedule → Cast → ℕ → Bool
honest_role s c r = is_honest s (principal c r)
