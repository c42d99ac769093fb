-- What is kept, and the graph that it is.
use Rattle.std.proofs.Common.{◌≡◌, ℕ, ◌+◌, ◌<◌, List, [], ◌∷◌, ◌++◌, map, length, get_or, sym, ◌∙◌, ap, subst, length-append}
use Rattle.std.proofs.lemmas.List.{map-append, length-map, get_or-map}
use Rattle.std.specs.Prelude.{All}
use Rattle.sg_model.specs.Shape.{Arrow, edge_at, role_at}
use Rattle.sg_protocol.specs.Graph.{Graph, Variable, Node, Edge, shape}
use Rattle.sg_graph.specs.Edges.{edge_of_label}
use Rattle.sg_graph.specs.Model.{graph_of, variable_of, node_of, edge_of}
use Rattle.sg_graph.specs.Invariant.{HoldsGraph}
use Rattle.sg_graph.specs.declared.graph.Variable.{Variable as KeptVariable}
use Rattle.sg_graph.specs.declared.graph.Node.{Node as KeptNode}
use Rattle.sg_graph.specs.declared.graph.NamedEdge.{NamedEdge}
use Rattle.sg_graph.specs.declared.graph.Graph.TheInside.{Inside}
use Rattle.sg_model.specs.Lists.{below}
use Rattle.sg_model.proofs.Numbers.{below-suc, below-at}

-- one more part is kept
pub one_more : {X Y : Type 0} (part_of : X → Y) (kept kept' : List X) (x : X) → kept ++ x ∷ [] ≡ kept' → map part_of kept ++ part_of x ∷ [] ≡ map part_of kept'
one_more part_of kept kept' x more = sym (map-append part_of kept (x ∷ [])) ∙ ap (map part_of) more

-- the labels with one edge more
pub labels-append : (es : List NamedEdge) (e : NamedEdge) (fs : List NamedEdge) → map (λ e. e.edge.label) es ≡ below (length es) → e.edge.label ≡ length es
    → es ++ e ∷ [] ≡ fs → map (λ e. e.edge.label) fs ≡ below (length fs)
labels-append es e fs kept at same =
    let longer : length (es ++ e ∷ []) ≡ length es + 1 = length-append es (e ∷ []) in
    let whole : map (λ e. e.edge.label) (es ++ e ∷ []) ≡ below (length (es ++ e ∷ [])) =
    map-append (λ (e : NamedEdge). e.edge.label) es (e ∷ []) ∙ ap (λ (ns : List ℕ). ns ++ e.edge.label ∷ []) kept ∙ ap (λ (n : ℕ). below (length es) ++ n ∷ []) at ∙ sym (below-suc (length es)) ∙ ap below (sym longer) in
    subst (λ (fs : List NamedEdge). map (λ e. e.edge.label) fs ≡ below (length fs)) same whole

-- an edge without its name
abbrev arrow_of : Edge → Arrow
arrow_of e = record { source = e.source; target = e.target; writes = e.writes; reads = e.reads }

-- the element at an index of a list that is seen through f
pub at_index : {X Y : Type 0} (f : X → Y) (xs : List X) (ys : List Y) (k i : ℕ) (x : X) (d : Y) → map f xs ≡ ys → k ≡ i → i < length ys → x ≡ get_or xs k x → get_or ys i d ≡ f x
at_index f xs ys k i x d seen at l same =
    let within : i < length xs = rw (← seen, length-map) at l in
    rw (← seen, get_or-map f xs i x d within, ← at, ← same)

-- what holds of each element holds of the one at an index
pub all_at : {X Y : Type 0} (f : X → Y) (xs : List X) (ys : List Y) (k i : ℕ) (x : X) (P : Y → Type 0) → map f xs ≡ ys → k ≡ i → i < length ys → x ≡ get_or xs k x → All P ys → P (f x)
all_at f xs ys k i x P seen at l same all = subst P (at_index f xs ys k i x (f x) seen at l same) (all i (f x) l)

-- the edge that is kept for a label is the edge of the label
pub edge_kept : (g : Inside) (now : Graph) (k i : ℕ) (e : NamedEdge) → HoldsGraph g → graph_of g ≡ now → k ≡ i → i < length now.edges
    → e ≡ get_or g.edges.items k e → e.edge ≡ edge_of_label now i
edge_kept g now k i e holds view at l same =
    let seen : map edge_of g.edges.items ≡ now.edges = ap (λ (g : Graph). g.edges) view in
    let within : i < length g.edges.items = rw (← seen, length-map) at l in
    let labels : map (λ e. e.edge.label) g.edges.items ≡ below (length g.edges.items) = holds.labels in
    let within' : i < length (below (length g.edges.items)) = rw (← labels, length-map) within in
    let label : e.edge.label ≡ i =
    sym (at_index (λ (e : NamedEdge). e.edge.label) g.edges.items (below (length g.edges.items)) k i e 0 labels at within' same)
    ∙ below-at (length g.edges.items) i 0 within in
    let arrow : arrow_of (edge_of e) ≡ edge_at (shape now) i =
    sym (get_or-map arrow_of now.edges i (edge_of e) _ l ∙ ap arrow_of (at_index edge_of g.edges.items now.edges k i e (edge_of e) seen at l same)) in
    λ j. record { label = label j; source = (arrow j).source; target = (arrow j).target; writes = (arrow j).writes; reads = (arrow j).reads }

-- what holds of each edge holds of the one that is kept for a label
pub edge_has : (P : Edge → Type 0) (g : Inside) (now : Graph) (k i : ℕ) (e : NamedEdge) → graph_of g ≡ now → k ≡ i → i < length now.edges
    → e ≡ get_or g.edges.items k e → All P now.edges → P (edge_of e)
edge_has P g now k i e view at l same all = all_at edge_of g.edges.items now.edges k i e P (ap (λ (g : Graph). g.edges) view) at l same all

-- the role that is kept for a node is the node's
pub role_kept : (g : Inside) (now : Graph) (k i : ℕ) (n : KeptNode) → graph_of g ≡ now → k ≡ i → i < length now.nodes
    → n ≡ get_or g.nodes.items k n → n.role ≡ role_at (shape now) i
role_kept g now k i n view at l same =
    let seen : map node_of g.nodes.items ≡ now.nodes = ap (λ (g : Graph). g.nodes) view in
    sym (get_or-map (λ (n : Node). n.role) now.nodes i (node_of n) 0 l
    ∙ ap (λ (n : Node). n.role) (at_index node_of g.nodes.items now.nodes k i n (node_of n) seen at l same))

-- what holds of each node holds of the one that is kept
pub node_has : (P : Node → Type 0) (g : Inside) (now : Graph) (k i : ℕ) (n : KeptNode) → graph_of g ≡ now → k ≡ i → i < length now.nodes
    → n ≡ get_or g.nodes.items k n → All P now.nodes → P (node_of n)
node_has P g now k i n view at l same all = all_at node_of g.nodes.items now.nodes k i n P (ap (λ (g : Graph). g.nodes) view) at l same all

-- what holds of each variable holds of the one that is kept
pub variable_has : (P : Variable → Type 0) (g : Inside) (now : Graph) (k i : ℕ) (v : KeptVariable) → graph_of g ≡ now → k ≡ i → i < length now.variables
    → v ≡ get_or g.vars.items k v → All P now.variables → P (variable_of v)
variable_has P g now k i v view at l same all = all_at variable_of g.vars.items now.variables k i v P (ap (λ (g : Graph). g.variables) view) at l same all
