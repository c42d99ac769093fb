-- What the lines of a text declare, line by line, and the schedule that they make together.
use Rattle.std.specs.Prelude.{ℕ, Bool, ◌&&◌, ◌||◌, List, [], ◌++◌, map, fold, max, filter_map, option_and_then, unwrap_or, position, find, slice_get, bytes_eq, Option, Some, None}
use Rattle.std.specs.List.{list_any}
use Rattle.std.specs.Option.{option_map_or}
use Rattle.sg_model.specs.Names.{Name}
use Rattle.sg_protocol.specs.Graph.{Graph, Edge}
use Rattle.sg_protocol.specs.Texts.{Hash, graph_digest}
use Rattle.sg_protocol.specs.Schedule.{PairKey, NamedSession, Step, Schedule}
use Rattle.sg_protocol.specs.Crafted.{nonce_of}
use Rattle.sg_sched.specs.Pair.{graphs_of}

-- a session as its line declares it: its name, the index of its graph, and its nonce, principals and version
pub record Session : Type 0 where
  pub name : Name
  pub graph : ℕ
  pub nonce : ℕ
  pub names : List Name
  pub version : ℕ

-- what a block or a line adds to a schedule
pub data Item : Type 0 where
  GraphItem : Graph → Item
  EdgeItem : Edge → Item
  HonestItem : Name → Item
  KeyItem : PairKey → Item
  SessionItem : Session → Item
  StepItem : Step → Item

-- the groups in their order: graphs, honest principals, keys, sessions, steps
abbrev pub group_of : Item → ℕ
group_of (GraphItem g) = 0
group_of (EdgeItem e) = 0
group_of (HonestItem who) = 1
group_of (KeyItem k) = 2
group_of (SessionItem s) = 3
group_of (StepItem s) = 4

-- ---- the items of each kind, in the order of their lines

-- the graph of a block
abbrev pub as_block : Item → Option Graph
as_block (GraphItem g) = Some g
as_block other = None

-- the edge of an edge line
abbrev pub as_edge : Item → Option Edge
as_edge (EdgeItem e) = Some e
as_edge other = None

-- an honest principal
abbrev pub as_honest : Item → Option Name
as_honest (HonestItem who) = Some who
as_honest other = None

-- a key
abbrev pub as_key : Item → Option PairKey
as_key (KeyItem k) = Some k
as_key other = None

-- a session
abbrev pub as_session : Item → Option Session
as_session (SessionItem s) = Some s
as_session other = None

-- a step
abbrev pub as_step : Item → Option Step
as_step (StepItem s) = Some s
as_step other = None

-- the graphs of the blocks
abbrev pub blocks : List Item → List Graph
blocks items = filter_map as_block items

-- the edges of the graph `pair`
abbrev pub edges : List Item → List Edge
edges items = filter_map as_edge items

-- the honest principals
abbrev pub honest : List Item → List Name
honest items = filter_map as_honest items

-- the keys
abbrev pub keys : List Item → List PairKey
keys items = filter_map as_key items

-- the sessions
abbrev pub sessions : List Item → List Session
sessions items = filter_map as_session items

-- the steps
abbrev pub steps : List Item → List Step
steps items = filter_map as_step items

-- the graphs: those of the blocks, and after them `pair`, if there are edge lines
abbrev pub graphs : List Item → List Graph
graphs items = blocks items ++ graphs_of (edges items)

-- ---- the schedule

-- the digest of the graph at an index
abbrev pub digest_at : Hash → List Graph → ℕ → List ℕ
digest_at sha gs n = option_map_or (graph_digest sha) (slice_get gs n) []

-- a session with its cast
abbrev pub declared : Hash → List Graph → Session → NamedSession
declared sha gs s = record {
  name = s.name;
  cast = record { version = s.version; graph = digest_at sha gs s.graph; nonce = nonce_of s.nonce; names = s.names };
}

-- what all the items declare
abbrev pub schedule_of : Hash → List Item → Schedule
schedule_of sha items = record {
  graphs = graphs items;
  honest = honest items;
  keys = keys items;
  sessions = map (declared sha (graphs items)) (sessions items);
  steps = steps items;
}

-- ---- names

-- what the lines so far declare, each kind in the order of its lines, and the last group that has begun
pub record SoFar : Type 0 where
  pub group : ℕ
  pub blocks : List Graph
  pub edges : List Edge
  pub honest : List Name
  pub keys : List PairKey
  pub sessions : List Session
  pub steps : List Step

-- the last group of these items
abbrev pub last_group : List Item → ℕ
last_group items = fold (λ n i. max n (group_of i)) 0 items

-- what these items declare
abbrev pub so_far : List Item → SoFar
so_far items = record { group = last_group items; blocks = blocks items; edges = edges items; honest = honest items; keys = keys items; sessions = sessions items; steps = steps items }

-- the graphs so far: those of the blocks, and after them `pair`, if there are edge lines
abbrev pub graphs_declared : SoFar → List Graph
graphs_declared past = past.blocks ++ graphs_of past.edges

-- the names of graphs
abbrev pub graph_names : List Graph → List Name
graph_names gs = map (λ g. g.name) gs

-- the names of sessions
abbrev pub session_names : SoFar → List Name
session_names past = map (λ s. s.name) past.sessions

-- the index of a name among those declared, which it is one of
abbrev pub index : Name → List Name → ℕ
index n names = unwrap_or (position (bytes_eq n) names) 0

-- the session of a name
abbrev pub session_named : Name → SoFar → Option Session
session_named n past = find (λ s. bytes_eq n s.name) past.sessions

-- the graph of the session of a name
abbrev pub graph_for : Name → SoFar → Option Graph
graph_for n past = option_and_then (λ s. slice_get (graphs_declared past) s.graph) (session_named n past)

-- the names of a graph's roles; none if there is no graph
abbrev pub roles_of : Option Graph → List Name
roles_of g = option_map_or (λ g. g.roles) g []

-- the names of a graph's variables
abbrev pub variables_of : Option Graph → List Name
variables_of g = option_map_or (λ g. map (λ v. v.name) g.variables) g []

-- the names of a graph's labels
abbrev pub labels_of : Option Graph → List Name
labels_of g = option_map_or (λ g. map (λ e. e.name) g.edges) g []

-- the key is that of these two principals, whichever stands first
abbrev pub is_key_of : Name → Name → PairKey → Bool
is_key_of one two k = bytes_eq one k.one && bytes_eq two k.two || bytes_eq one k.two && bytes_eq two k.one

-- the pair of principals has a key
abbrev pub has_key : SoFar → Name → Name → Bool
has_key past one two = list_any (is_key_of one two) past.keys
