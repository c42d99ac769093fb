-- Uses expanded: what a use puts into a graph, and why it can't.
use Rattle.std.specs.Prelude.{ℕ, suc, ◌+◌, ◌-◌, ◌==◌, nat_lt, Bool, not, ◌&&◌, ◌||◌, if◌then◌else◌, List, [], ◌∷◌, ◌++◌, map, filter, length, get_or, Option, Some, None, Result, Ok, Err}
use Rattle.std.specs.List.{list_any}
use Rattle.sg_base.specs.Sets.{set_of}
use Rattle.sg_model.specs.Lists.{below, has_text}
use Rattle.sg_model.specs.Shape.{role_at}
use Rattle.sg_model.specs.Limits.{most_edges, most_name_bytes, most_nodes, most_variables}
use Rattle.sg_protocol.specs.Graph.{Graph, Name, Variable, Node, Edge, shape, node_name}
use Rattle.sg_graph.specs.Adding.{no_parts}
use Rattle.sg_graph.specs.Parts.{variable_names, node_names, edge_names}
use Rattle.sg_parse.specs.Parts.{Use, Part}
use Rattle.sg_compose.specs.declared.fault.ComposeFault.{ComposeFault}
use Rattle.sg_compose.specs.declared.fault.ComposeFault.TheVariants.{BadPart, BadRoles, LongName, Clash, TooLarge}

-- ---- the graph that is used

-- an edge enters the start
abbrev pub is_entered : Graph → Bool
is_entered g = list_any (λ e. e.target == 0) g.edges

-- no edge leaves the node
abbrev pub is_final : Graph → ℕ → Bool
is_final g n = not (list_any (λ e. e.source == n) g.edges)

-- the nodes that no edge leaves
abbrev pub finals : Graph → List ℕ
finals g = filter (is_final g) (below (length g.nodes))

-- the one number, which isn't 0
abbrev pub sole : List ℕ → Option ℕ
sole (suc n ∷ []) = Some (suc n)
sole ns = None

-- the end of a graph that can be used: no edge enters its start, and its end is the one node that no edge leaves, and isn't its start
abbrev pub end_of : Graph → Option ℕ
end_of g = if is_entered g then None else sole (finals g)

-- ---- what a use adds to a graph g, if the graph that is used is inner and ends at the node m

-- the role that plays a role of the graph that is used
abbrev pub player : Use → ℕ → ℕ
player u r = get_or u.roles r 0

-- the name that a name of the graph that is used gets
abbrev pub inner_name : Use → Name → Name
inner_name u n = u.name ++ 95 ∷ n

-- the node is neither start nor end
abbrev pub is_inside : (m x : ℕ) → Bool
is_inside m x = not (x == 0) && not (x == m)

-- the nodes that are added, in rising order: all but start and end
abbrev pub inside : Graph → ℕ → List ℕ
inside inner m = filter (is_inside m) (below (length inner.nodes))

-- the node for a node x of the graph that is used, if count nodes are there before: start and end stand at the nodes of the use, and the others follow one another
abbrev pub replaced : (count from to m x : ℕ) → ℕ
replaced count from to m x = if x == 0 then from else if x == m then to else count + (if nat_lt x m then x - 1 else x - 2)

-- the roles that play these roles
abbrev pub players : Use → List ℕ → List ℕ
players u rs = set_of 16 (map (player u) rs)

-- a variable that is added
abbrev pub new_variable : Use → Variable → Variable
new_variable u v = record { name = inner_name u v.name; kind = v.kind; writers = players u v.writers }

-- the node that is added for a node x
abbrev pub new_node : Graph → Use → ℕ → Node
new_node inner u x = record { name = inner_name u (node_name inner x); role = player u (role_at (shape inner) x) }

-- variables, if this many are there before
abbrev pub shifted : (variables : ℕ) → List ℕ → List ℕ
shifted variables xs = set_of 32 (map (λ x. variables + x) xs)

-- an edge that is added, if this many variables and nodes are there before
abbrev pub new_edge : (variables nodes : ℕ) → Use → ℕ → Edge → Edge
new_edge variables nodes u m e = record {
  name = inner_name u e.name;
  source = replaced nodes u.from u.to m e.source;
  target = replaced nodes u.from u.to m e.target;
  writes = shifted variables e.writes;
  reads = shifted variables e.reads;
}

-- the variables that are added
abbrev pub new_variables : Graph → Use → List Variable
new_variables inner u = map (new_variable u) inner.variables

-- the nodes that are added
abbrev pub new_nodes : Graph → Use → ℕ → List Node
new_nodes inner u m = map (new_node inner u) (inside inner m)

-- the edges that are added
abbrev pub new_edges : Graph → Graph → Use → ℕ → List Edge
new_edges g inner u m = map (new_edge (length g.variables) (length g.nodes) u m) inner.edges

-- the graph with what the use adds, after all that is there
abbrev pub with_use : Graph → Graph → Use → ℕ → Graph
with_use g inner u m = record g {
  variables = g.variables ++ new_variables inner u;
  nodes = g.nodes ++ new_nodes inner u m;
  edges = g.edges ++ new_edges g inner u m;
}

-- ---- why a use can't be expanded

-- each role of the graph that is used has a player, and the nodes of the use have those of its start and end
abbrev pub roles_fit : Graph → Graph → Use → ℕ → Bool
roles_fit g inner u m = (length u.roles == length inner.roles) && (role_at (shape g) u.from == player u (role_at (shape inner) 0)) && (role_at (shape g) u.to == player u (role_at (shape inner) m))

-- a name has more than 32 bytes
abbrev pub is_long : Name → Bool
is_long n = nat_lt most_name_bytes (length n)

-- a new name is too long
abbrev pub has_long : Graph → Use → ℕ → Bool
has_long inner u m = list_any (λ v. is_long (inner_name u v.name)) inner.variables || list_any (λ x. is_long (inner_name u (node_name inner x))) (inside inner m)
    || list_any (λ e. is_long (inner_name u e.name)) inner.edges

-- a new name is there in its kind
abbrev pub clashes : Graph → Graph → Use → ℕ → Bool
clashes g inner u m = list_any (λ v. has_text (inner_name u v.name) (variable_names g)) inner.variables || list_any (λ x. has_text (inner_name u (node_name inner x)) (node_names g)) (inside inner m)
    || list_any (λ e. has_text (inner_name u e.name) (edge_names g)) inner.edges

-- there would be more variables, nodes or edges than a graph has
abbrev pub too_large : Graph → Graph → ℕ → Bool
too_large g inner m = nat_lt most_variables (length g.variables + length inner.variables) || nat_lt most_nodes (length g.nodes + length (inside inner m))
    || nat_lt most_edges (length g.edges + length inner.edges)

-- ---- parts

-- the graph of the part of this name with a use of a graph whose end is this, or the first kind of refusal
abbrev pub with_use_to : Name → Graph → Graph → Use → Option ℕ → Result Graph ComposeFault
with_use_to part g inner u None = Err (BadPart part u.name)
with_use_to part g inner u (Some m) =
    if not (roles_fit g inner u m) then Err (BadRoles part u.name)
    else if has_long inner u m then Err (LongName part u.name)
    else if clashes g inner u m then Err (Clash part u.name)
    else if too_large g inner m then Err (TooLarge part u.name)
    else Ok (with_use g inner u m)

-- the graph with a use, or why it can't be
abbrev pub extended : Name → Graph → Graph → Use → Result Graph ComposeFault
extended part g inner u = with_use_to part g inner u (end_of inner)

-- the graph of a part that stands before
abbrev pub graph_at : List Graph → ℕ → Graph
graph_at graphs k = get_or graphs k (no_parts [])

-- what follows, if there is no fault
abbrev pub followed : {A B : Type 0} → Result A ComposeFault → (A → Result B ComposeFault) → Result B ComposeFault
followed (Err e) next = Err e
followed (Ok x) next = next x

-- the graph with these uses in their order, or the first refusal
abbrev pub all_used : Name → List Graph → Graph → List Use → Result Graph ComposeFault
all_used part graphs g [] = Ok g
all_used part graphs g (u ∷ us) = followed (extended part g (graph_at graphs u.part) u) (λ h. all_used part graphs h us)

-- the expansion of a part, if the parts before it expand to these graphs
abbrev pub expanded : List Graph → Part → Result Graph ComposeFault
expanded graphs p = all_used p.graph.name graphs p.graph p.uses

-- the expansions of parts after those that expand to these graphs, or the first refusal
abbrev pub expansions : List Graph → List Part → Result (List Graph) ComposeFault
expansions graphs [] = Ok graphs
expansions graphs (p ∷ ps) = followed (expanded graphs p) (λ g. expansions (graphs ++ g ∷ []) ps)

-- the last of the graphs
abbrev pub last_graph : List Graph → Graph
last_graph gs = graph_at gs (length gs - 1)

-- the expansion of the last part, or the first refusal in the order of the text
abbrev pub expansion : List Part → Result Graph ComposeFault
expansion ps = followed (expansions [] ps) (λ gs. Ok (last_graph gs))
