-- The graph `pair`, node by node and edge by edge.
use Rattle.std.proofs.Common.{◌≡◌, ℕ, zero, suc, ◌+◌, ◌^◌, ◌<◌, ◌≤◌, max, Bool, true, false, ◌||◌, List, [], ◌∷◌, ◌++◌, length, map, bytes_eq, refl, sym, ap, ◌∙◌, arith, add-one}
use Rattle.std.specs.Fmt.{decimal}
use Rattle.std.proofs.lemmas.Fmt.{decimal_injective}
use Rattle.std.proofs.lemmas.Slice.Eq.{bytes_eq-Decides}
use Rattle.std.proofs.lemmas.List.{map_push, length-map}
use Rattle.std.proofs.lemmas.Grind.{common_steps}
use Rattle.sg_model.specs.Names.{Name}
use Rattle.sg_model.specs.Lists.{has_text, below, range_from}
use Rattle.sg_model.proofs.Numbers.{length-range_from, range_from-suc}
use Rattle.sg_protocol.specs.Graph.{Graph, Edge}
use Rattle.sg_graph.specs.Adding.{with_node, with_edge}
use Rattle.sg_graph.specs.Parts.{node_names}
use Rattle.sg_sched.specs.Pair.{edge, node, node_count, pair_graph}

-- one node more
pub nodes_push : (n : ℕ) → map node (below (suc n)) ≡ map node (below n) ++ node n ∷ []
nodes_push n = ap (map node) (range_from-suc 0 n ∙ ap (λ m. below n ++ m ∷ []) (omega arith)) ∙ map_push node (below n) n

pub length_nodes : (n : ℕ) → length (map node (below n)) ≡ n
length_nodes n = length-map (below n) node ∙ length-range_from 0 n

-- nodes of different numbers have different names
name_apart : (n m : ℕ) → n < 2 ^ 64 → m < n → bytes_eq (110 ∷ decimal n) (110 ∷ decimal m) ≡ false
name_apart n m small below_n = by (bytes_eq (110 ∷ decimal n) (110 ∷ decimal m)) refl
  where
    by : (b : Bool) → bytes_eq (110 ∷ decimal n) (110 ∷ decimal m) ≡ b → bytes_eq (110 ∷ decimal n) (110 ∷ decimal m) ≡ false
    by true e =
        let names : 110 ∷ decimal n ≡ 110 ∷ decimal m = (bytes_eq-Decides (110 ∷ decimal n) (110 ∷ decimal m)).0 e in
        let texts : decimal n ≡ decimal m = cc names in
        let numbers : n ≡ m = decimal_injective n m small (omega arith) texts in
        absurd (omega arith)
    by false e = e

-- no node of a smaller number has the name
names_apart : (n : ℕ) → n < 2 ^ 64 → (a k : ℕ) → a + k ≤ n → has_text (110 ∷ decimal n) (map (λ v. v.name) (map node (range_from a k))) ≡ false
names_apart n small a zero h = refl
names_apart n small a (suc k) h =
    ap (λ b. b || has_text (110 ∷ decimal n) (map (λ v. v.name) (map node (range_from (suc a) k)))) (name_apart n a small (omega arith))
    ∙ names_apart n small (suc a) k (omega arith)

-- the next node has a new name
pub name_new : (g : Graph) (n : ℕ) → n < 2 ^ 64 → g.nodes ≡ map node (below n) → has_text (110 ∷ decimal n) (node_names g) ≡ false
name_new g n small e = ap (λ ns. has_text (110 ∷ decimal n) (map (λ v. v.name) ns)) e ∙ names_apart n small 0 n (omega arith)

-- the nodes have as many names as they are
pub names_there : (g : Graph) (n : ℕ) → g.nodes ≡ map node (below n) → length (node_names g) ≡ n
names_there g n e = length-map g.nodes (λ v. v.name) ∙ ap length e ∙ length_nodes n

-- one edge more
node_count-push : (es : List Edge) (e : Edge) → node_count (es ++ e ∷ []) ≡ max (node_count es) (suc (max e.source e.target))
node_count-push es e = grind (arith, common_steps)

-- the graph with the next node
pub node_more : (first g new : Graph) (n : ℕ) → g ≡ record first { nodes = map node (below n) } → new ≡ with_node g (node n) → new ≡ record first { nodes = map node (below (suc n)) }
node_more first g new n e h = h ∙ ap (λ x. with_node x (node n)) e ∙ ap (λ ns. record first { nodes = ns }) (sym (nodes_push n))

-- as many nodes as that
pub nodes_there : (first g : Graph) (n : ℕ) → g ≡ record first { nodes = map node (below n) } → length g.nodes ≡ n
nodes_there first g n e = ap (λ x. length x.nodes) e ∙ length_nodes n

-- the graph has the nodes that its edges need
pub pair_nodes : (g : Graph) → g ≡ pair_graph g.edges → length g.nodes ≡ node_count g.edges
pair_nodes g e = ap (λ x. length x.nodes) e ∙ length_nodes (node_count g.edges)

-- the graph with the next edge, and the nodes that it needs
pub edge_more : (g wide new : Graph) (label : Name) (from to count : ℕ) → g ≡ pair_graph g.edges → count ≡ max from to + 1 →
    wide ≡ record g { nodes = map node (below (max (length g.nodes) count)) } → new ≡ with_edge wide (edge label from to) → new ≡ pair_graph (g.edges ++ edge label from to ∷ [])
edge_more g wide new label from to count e n w h =
    let counted : max (length g.nodes) count ≡ node_count (g.edges ++ edge label from to ∷ []) =
    (λ i. max (pair_nodes g e i) ((n ∙ add-one (max from to)) i)) ∙ sym (node_count-push g.edges (edge label from to)) in
    h ∙ ap (λ x. with_edge x (edge label from to)) w
    ∙ (λ i. record { name = (e i).name; roles = (e i).roles; variables = (e i).variables; nodes = map node (below (counted i)); edges = g.edges ++ edge label from to ∷ [] })
