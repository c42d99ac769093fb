-- The walks of a graph in which parts are used, and those of its expansion.
use Rattle.std.specs.Prelude.{◌≡◌, ◌≢◌, ℕ, ◌+◌, ◌-◌, ◌<◌, ◌⊎◌, ◌↔◌, List, [], ◌∷◌, ◌++◌, map, length, Some, Contains}
use Rattle.sg_model.specs.Shape.{Shape, Walk, source, target}
use Rattle.sg_model.specs.Shape as Shapes
use Rattle.sg_protocol.specs.Graph.{Graph, shape}
use Rattle.sg_parse.specs.Parts.{Use, Part}
use Rattle.sg_compose.specs.Expansion.{end_of, graph_at}

-- a use in an expansion: the graph that is put in, the nodes between which it is, and how many nodes and edges are there before it
pub record Inset : Type 0 where
  pub inner : Graph
  pub from : ℕ
  pub to : ℕ
  pub nodes : ℕ
  pub edges : ℕ

-- the graph that is put in for a use, if this many nodes and edges are there before it
abbrev pub inset : List Graph → (nodes edges : ℕ) → Use → Inset
inset graphs nodes edges u = record { inner = graph_at graphs u.part; from = u.from; to = u.to; nodes = nodes; edges = edges }

-- the uses, if this many nodes and edges are there before; start and end of a graph that is put in are no nodes of their own
abbrev pub insets : List Graph → (nodes edges : ℕ) → List Use → List Inset
insets graphs nodes edges [] = []
insets graphs nodes edges (u ∷ us) =
    inset graphs nodes edges u ∷ insets graphs (nodes + (length (graph_at graphs u.part).nodes - 2)) (edges + length (graph_at graphs u.part).edges) us

-- the uses of a part, whose nodes and edges follow its own
abbrev pub insets_of : List Graph → Part → List Inset
insets_of graphs p = insets graphs (length p.graph.nodes) (length p.graph.edges) p.uses

-- labels of the graph that is put in, as the expansion has them
abbrev pub renamed : Inset → List ℕ → List ℕ
renamed i labels = map (λ e. i.edges + e) labels

-- an initial walk that ends at the graph's end
pub record IsComplete (g : Graph) (w : List ℕ) : Type 0 where
  pub walk : Walk (shape g) 0 w
  pub ends : end_of g ≡ Some (Shapes.end_of (shape g) 0 w)

-- an initial walk that isn't empty and doesn't end at the graph's end
pub record IsUnfinished (g : Graph) (w : List ℕ) : Type 0 where
  pub walk : Walk (shape g) 0 w
  pub begun : w ≢ []
  pub unfinished : end_of g ≢ Some (Shapes.end_of (shape g) 0 w)

-- an outer walk from one node to another, in which a use counts as an edge, with a complete walk of what is put in for each use
pub data Filled (g : Shape) (is : List Inset) : ℕ → List ℕ → ℕ → Type 0 where
  Here : {n : ℕ} → Filled g is n [] n
  Along : {e n : ℕ} {w : List ℕ} → e < length g.edges → Filled g is (target g e) w n → Filled g is (source g e) (e ∷ w) n
  Through : {i : Inset} {v w : List ℕ} {n : ℕ} → Contains is i → IsComplete i.inner v → Filled g is i.to w n → Filled g is i.from (renamed i v ++ w) n

-- a filled walk from m to where a use begins, then an unfinished walk of what is put in
pub record Pending (g : Shape) (is : List Inset) (m : ℕ) (w : List ℕ) : Type 0 where
  pub prefix : List ℕ
  pub put : Inset
  pub there : Contains is put
  pub filled : Filled g is m prefix put.from
  pub inner : List ℕ
  pub unfinished : IsUnfinished put.inner inner
  pub joined : w ≡ prefix ++ renamed put inner

-- the initial walks of the expansion h of a part, if the parts before it expand to these graphs: the filled walks, which end at the part's own nodes, and the pending ones
pub record HasWalks (graphs : List Graph) (p : Part) (h : Graph) : Type 0 where
  pub walks : (w : List ℕ) → Walk (shape h) 0 w ↔ (((n : ℕ) × Filled (shape p.graph) (insets_of graphs p) 0 w n) ⊎ Pending (shape p.graph) (insets_of graphs p) 0 w)
  pub ends : (w : List ℕ) (n : ℕ) → Filled (shape p.graph) (insets_of graphs p) 0 w n → (Shapes.end_of (shape h) 0 w ≡ n) × (n < length p.graph.nodes)
