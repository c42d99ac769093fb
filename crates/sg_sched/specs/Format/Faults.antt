-- What is wrong with a line of a form, after what the lines before it declare.
use Rattle.std.specs.Prelude.{ℕ, ◌==◌, nat_lt, nat_le, Bool, true, false, not, ◌&&◌, ◌||◌, if◌then◌else◌, List, [], ◌∷◌, length, map, replicate, option_map, unwrap_or, slice_get, bytes_eq, codes, Option, Some, None}
use Rattle.std.specs.List.{list_any, list_all}
use Rattle.std.specs.Option.{option_map_or}
use Rattle.sg_model.specs.Names.{Name}
use Rattle.sg_model.specs.Lists.{has_text, all_differ, rises_from, first_some}
use Rattle.sg_model.specs.Limits.{most_declared, most_edges, most_frame_bytes, most_steps}
use Rattle.sg_protocol.specs.Graph.{Graph}
use Rattle.sg_protocol.specs.Frame.{Cast, Item as FrameItem, Frame}
use Rattle.sg_protocol.specs.Spelling.{spelling}
use Rattle.sg_protocol.specs.Schedule.{CraftJoin}
use Rattle.sg_sched.specs.Format.LineContents.{Committed, TagSource, FromKey, FromItem, FromSeal, FromZero, ItemContent, CraftContent, LineContent, BlockLine, EdgeLine, HonestLine, KeyLine, SessionLine, StartLine, ActLine, AbandonLine, DeliverLine, MakeLine}
use Rattle.sg_sched.specs.Format.Items.{Session, Item, SoFar, so_far, graphs_declared, graph_names, session_names, index, session_named, graph_for, roles_of, variables_of, labels_of, has_key}
use Rattle.sg_sched.specs.Format.Numbered.{opening}
use Rattle.sg_sched.specs.Format.Kinds.{Kind, Form, TooManySteps, TooManySessions, Unknown, Twice, NotHonest}

-- ---- form: the group

-- the group in which a line stands: graphs, honest principals, keys, sessions, steps
abbrev pub group : LineContent → ℕ
group BlockLine = 0
group (EdgeLine label from to) = 0
group (HonestLine who) = 1
group (KeyLine one two digits) = 2
group (SessionLine name graph nonce names version) = 3
group step = 4

-- a line of a later group stands before it
abbrev pub is_late : SoFar → LineContent → Bool
is_late past l = nat_lt (group l) past.group

-- ---- form: a session's number of names, if its graph is declared

-- there are as many names as the graph has roles
abbrev pub fits_graph : SoFar → Name → List Name → Bool
fits_graph past graph names =
    option_map_or (λ g. length names == length g.roles) (if has_text graph (graph_names (graphs_declared past)) then slice_get (graphs_declared past) (index graph (graph_names (graphs_declared past))) else None) true

-- ---- form: what rises in a craft, if its names are declared

-- the names rise by their numbers, if all of them are declared
abbrev pub rise : List Name → List Name → Bool
rise names declared = if list_all (λ n. has_text n declared) names then rises_from 0 (map (λ n. index n declared) names) else true

-- the variables of commitments
abbrev pub variables : List Committed → List Name
variables cs = map (λ c. c.variable) cs

-- the roles for which there are tags
abbrev pub tag_roles : List (Name × TagSource) → List Name
tag_roles ts = map (λ (t : Name × TagSource). t.0) ts

-- the variables of each list rise, and the roles of each item's tags
abbrev pub rises : Option Graph → CraftContent → Bool
rises g c = rise (variables c.know) (variables_of g) && list_all (λ i. rise (variables i.delta) (variables_of g) && rise (tag_roles i.tags) (roles_of g)) c.items
    && rise (variables c.openings) (variables_of g)

-- ---- form: the length of a crafted frame, if its session is declared

-- zeros in the place of what is hashed or tagged
abbrev pub zeros : ℕ → List ℕ
zeros n = replicate n 0

-- the cast that the frame of a craft has
abbrev pub blank_cast : Session → CraftJoin → Cast
blank_cast s j = record { version = s.version; graph = zeros 32; nonce = zeros 16; names = unwrap_or j.names s.names }

-- an item with zeros for its commitments and tags
abbrev pub blank_item : ItemContent → FrameItem
blank_item i = record { role = 0; label = 0; time = i.time; delta = map (λ c. (0, zeros 32)) i.delta; tags = map (λ (t : Name × TagSource). (0, zeros 32)) i.tags }

-- the frame that a craft makes, with zeros for what is hashed or tagged, which doesn't change its length
abbrev pub blank_frame : Option Graph → Session → CraftContent → Frame
blank_frame g s c = record {
  version = s.version;
  sid = zeros 32;
  sender = 0;
  receiver = 0;
  join = option_map (blank_cast s) c.join;
  items = map blank_item c.items;
  openings = map (opening g) c.openings;
  tag = zeros 32;
}

-- the frame has at most 60,000 bytes
abbrev pub is_short : Option Graph → Option Session → CraftContent → Bool
is_short g s c = option_map_or (λ s. nat_le (length (spelling (blank_frame g s c))) most_frame_bytes) s true

-- ---- form

-- the line is out of its group, one edge too many, or of a number, an order or a length that its form doesn't allow
abbrev pub is_wrong : SoFar → LineContent → Bool
is_wrong past (EdgeLine label from to) = is_late past (EdgeLine label from to) || nat_le most_edges (length past.edges)
is_wrong past (SessionLine name graph nonce names version) = is_late past (SessionLine name graph nonce names version) || not (fits_graph past graph names)
is_wrong past (MakeLine c) = not (rises (graph_for c.session past) c && is_short (graph_for c.session past) (session_named c.session past) c)
is_wrong past other = is_late past other

-- ---- too many

-- the session 100,001, or the step 200,001
abbrev pub too_many : SoFar → LineContent → Option Kind
too_many past BlockLine = None
too_many past (EdgeLine label from to) = None
too_many past (HonestLine who) = None
too_many past (KeyLine one two digits) = None
too_many past (SessionLine name graph nonce names version) = if nat_le most_declared (length past.sessions) then Some TooManySessions else None
too_many past step = if nat_le most_steps (length past.steps) then Some TooManySteps else None

-- ---- unknown

-- the variable is one of the graph's
abbrev pub knows_variable : Option Graph → Name → Bool
knows_variable g n = has_text n (variables_of g)

-- the role of a source is one of the graph's, or its two principals have a key
abbrev pub knows_source : SoFar → Option Graph → TagSource → Bool
knows_source past g (FromKey one two) = has_key past one two
knows_source past g (FromItem frame item role) = has_text role (roles_of g)
knows_source past g (FromSeal frame) = true
knows_source past g FromZero = true

-- the label, the variables, the roles and the sources of an item are declared
abbrev pub knows_item : SoFar → Option Graph → ItemContent → Bool
knows_item past g i = has_text i.label (labels_of g) && list_all (knows_variable g) (variables i.delta)
    && list_all (λ (t : Name × TagSource). has_text t.0 (roles_of g) && knows_source past g t.1) i.tags

-- each name of a graph, role, label, variable, session or key pair is declared
abbrev pub is_known : SoFar → LineContent → Bool
is_known past BlockLine = true
is_known past (EdgeLine label from to) = true
is_known past (HonestLine who) = true
is_known past (KeyLine one two digits) = true
is_known past (SessionLine name graph nonce names version) = has_text graph (graph_names (graphs_declared past))
is_known past (StartLine who session) = has_text session (session_names past)
is_known past (ActLine who session label values) = has_text session (session_names past) && has_text label (labels_of (graph_for session past))
    && list_all (λ v. knows_variable (graph_for session past) v.variable) values
is_known past (AbandonLine who session) = has_text session (session_names past)
is_known past (DeliverLine who what) = true
is_known past (MakeLine c) = let g = graph_for c.session past in
    has_text c.session (session_names past) && has_text c.from (roles_of g) && has_text c.to (roles_of g) && list_all (knows_variable g) (variables c.know)
    && list_all (knows_item past g) c.items && list_all (knows_variable g) (variables c.openings) && knows_source past g c.seal

-- ---- twice

-- the texts are the same, one by one
abbrev pub same_names : List Name → List Name → Bool
same_names [] [] = true
same_names (m ∷ ms) (n ∷ ns) = bytes_eq m n && same_names ms ns
same_names ms ns = false

-- a session has this graph, nonce, cast and version
abbrev pub is_like : ℕ → ℕ → List Name → ℕ → Session → Bool
is_like graph nonce names version s = graph == s.graph && nonce == s.nonce && same_names names s.names && version == s.version

-- the line declares what is declared: a label, an honest principal, a pair, a session's name, or its graph, nonce, cast and version; or an act names a variable twice.
-- The first edge line declares the graph `pair`
abbrev pub is_repeated : SoFar → LineContent → Bool
is_repeated past (EdgeLine label from to) = has_text label (map (λ e. e.name) past.edges) || has_text (codes "pair") (graph_names past.blocks)
is_repeated past (HonestLine who) = has_text who past.honest
is_repeated past (KeyLine one two digits) = has_key past one two
is_repeated past (SessionLine name graph nonce names version) =
    has_text name (session_names past) || list_any (is_like (index graph (graph_names (graphs_declared past))) nonce names version) past.sessions
is_repeated past (ActLine who session label values) = not (all_differ (map (λ v. v.variable) values))
is_repeated past other = false

-- ---- not honest

-- the step's principal is honest. A craft has none
abbrev pub is_honest : SoFar → LineContent → Bool
is_honest past (StartLine who session) = has_text who past.honest
is_honest past (ActLine who session label values) = has_text who past.honest
is_honest past (AbandonLine who session) = has_text who past.honest
is_honest past (DeliverLine who what) = has_text who past.honest
is_honest past other = true

-- ---- all

-- the kind, if the test says so
abbrev pub where' : Bool → Kind → Option Kind
where' b kind = if b then Some kind else None

-- what is wrong with a line of a form, the first in this order
abbrev pub fault_after : SoFar → LineContent → Option Kind
fault_after past l = first_some (where' (is_wrong past l) Form ∷ too_many past l ∷ where' (not (is_known past l)) Unknown
    ∷ where' (is_repeated past l) Twice ∷ where' (not (is_honest past l)) NotHonest ∷ [])

-- what is wrong with a line of a form, after what the items before it declare
abbrev pub fault : List Item → LineContent → Option Kind
fault items statement = fault_after (so_far items) statement
