-- The graph `pair` of right edge lines is a graph.
use Rattle.std.proofs.Common.{◌≡◌, ℕ, zero, suc, ◌+◌, ◌<◌, ◌≤◌, ◌%◌, ◌/◌, max, Bool, true, false, not, ◌&&◌, List, [], ◌∷◌, map, length, refl, sym, ap, ◌∙◌, subst, arith}
use Rattle.std.specs.Prelude.{fold, nat_le, nat_lt, All}
use Rattle.std.specs.Fmt.{decimal}
use Rattle.std.specs.List.{list_all, AllByRecursion}
use Rattle.std.proofs.lemmas.Bool.{ltb-true, ltb-false}
use Rattle.std.proofs.lemmas.Bool.Decides.{nat_tests}
use Rattle.std.proofs.lemmas.List.{map_push}
use Rattle.std.proofs.lemmas.List.Elements.{All-from_recursion}
use Rattle.std.proofs.lemmas.List.Folds.{list_all-append}
use Rattle.sg_model.specs.Lists.{has_text, all_differ, below, range_from}
use Rattle.sg_model.specs.Names.{Name, is_name, is_name_byte, reserved}
use Rattle.sg_model.proofs.Small.{all_weaker}
use Rattle.sg_model.proofs.Differ.{all_differ-append}
use Rattle.sg_protocol.specs.Graph.{Graph, Node, Edge, IsGraph, AreNames, AreNumbers}
use Rattle.sg_sched.specs.Pair.{node, node_count, pair_graph}
use Rattle.sg_sched.proofs.NodeNames.{decimal_one, decimal_two, decimal_three, digit_plain}
use Rattle.sg_sched.proofs.PairLaws.{nodes_push, length_nodes, name_new}

-- ---- edges

-- nodes that a line can name, and no variables
pub record HasEnds (e : Edge) : Type 0 where
  pub source : e.source ≤ 255
  pub target : e.target ≤ 255
  pub writes : e.writes ≡ []
  pub reads : e.reads ≡ []

-- edges that lines can declare
pub record AreEdges (es : List Edge) : Type 0 where
  pub labels : AreNames (map (λ e. e.name) es)
  pub ends : AllByRecursion HasEnds es
  pub few : length es ≤ 512

abbrev wider : ℕ → Edge → ℕ
wider n e = max n (suc (max e.source e.target))

least : (a : ℕ) (es : List Edge) → a ≤ fold wider a es
least a [] = omega arith
least a (e ∷ es) = let k = least (wider a e) es in omega (arith, k)

most : (a : ℕ) (es : List Edge) → a ≤ 256 → AllByRecursion HasEnds es → fold wider a es ≤ 256
most a [] l h = l
most a (e ∷ es) l h = let s = h.0.source in let t = h.0.target in most (wider a e) es (omega (arith, l, s, t)) h.1

within : (a : ℕ) (es : List Edge) → AllByRecursion (λ (e : Edge). (e.source < fold wider a es) × (e.target < fold wider a es)) es
within a [] = tt
within a (e ∷ es) = let k = least (wider a e) es in ((omega (arith, k), omega (arith, k)), within (wider a e) es)

no_variables : (e : Edge) → HasEnds e → AreNumbers 0 e.writes × AreNumbers 0 e.reads
no_variables e h = (subst (AreNumbers 0) (sym h.writes) refl, subst (AreNumbers 0) (sym h.reads) refl)

-- ---- nodes

abbrev is_plain : Name → Bool
is_plain n = is_name n && not (has_text n reserved)

nodes_differ : (n : ℕ) → n ≤ 256 → all_differ (map (λ (n : Node). n.name) (map node (below n))) ≡ true
nodes_differ zero h = refl
nodes_differ (suc n) h =
    let before : n ≤ 256 = omega (arith, h) in
    let g : Graph = record (pair_graph []) { nodes = map node (below n) } in
    let new = name_new g n (omega (arith, before)) refl in
    ap (λ ns. all_differ (map (λ (n : Node). n.name) ns)) (nodes_push n)
    ∙ ap all_differ (map_push (λ (n : Node). n.name) (map node (below n)) (node n))
    ∙ all_differ-append (map (λ (n : Node). n.name) (map node (below n))) (110 ∷ decimal n) (nodes_differ n before) new

digit_name : (d : ℕ) → d < 10 → is_name_byte (48 + d) ≡ true
digit_name d h = grind (arith, nat_tests)

digits_plain : (d : ℕ) (ds : List ℕ) → d < 10 → list_all is_name_byte ds ≡ true → nat_le (suc (length ds)) 31 ≡ true → is_plain (110 ∷ (48 + d) ∷ ds) ≡ true
digits_plain d ds l h few = let a = digit_name d l in let b = digit_plain d ds l in (λ i. a i && h i && few i && not (b i))

node_plain : (n : ℕ) → n < 256 → is_plain (110 ∷ decimal n) ≡ true
node_plain n h = by (nat_lt n 10) (nat_lt n 100) refl refl
  where
    digit : (d : ℕ) → d < 10 → is_name_byte (48 + d) ≡ true
    digit d l = digit_name d l

    by : (p q : Bool) → nat_lt n 10 ≡ p → nat_lt n 100 ≡ q → is_plain (110 ∷ decimal n) ≡ true
    by true q e f = let l = ltb-true n 10 e in ap (λ ds. is_plain (110 ∷ ds)) (decimal_one n l) ∙ digits_plain n [] l refl refl
    by false true e f =
        let m : 10 ≤ n = ltb-false n 10 e in
        let l = ltb-true n 100 f in
        let b = digit (n % 10) (omega arith) in
        ap (λ ds. is_plain (110 ∷ ds)) (decimal_two n m l) ∙ digits_plain (n / 10) ((48 + n % 10) ∷ []) (omega (arith, l)) (λ i. b i && true) refl
    by false false e f =
        let m : 100 ≤ n = ltb-false n 100 f in
        let b = digit (n / 10 % 10) (omega arith) in
        let c = digit (n % 10) (omega arith) in
        ap (λ ds. is_plain (110 ∷ ds)) (decimal_three n m (omega (arith, h)))
        ∙ digits_plain (n / 100) ((48 + n / 10 % 10) ∷ (48 + n % 10) ∷ []) (omega (arith, h)) (λ i. b i && (c i && true)) refl

nodes_plain : (n : ℕ) → n ≤ 256 → list_all is_plain (map (λ (n : Node). n.name) (map node (below n))) ≡ true
nodes_plain zero h = refl
nodes_plain (suc n) h =
    let before : n ≤ 256 = omega (arith, h) in
    let last : is_plain (110 ∷ decimal n) ≡ true = node_plain n (omega (arith, h)) in
    ap (λ ns. list_all is_plain (map (λ (n : Node). n.name) ns)) (nodes_push n)
    ∙ ap (list_all is_plain) (map_push (λ (n : Node). n.name) (map node (below n)) (node n))
    ∙ list_all-append is_plain (map (λ (n : Node). n.name) (map node (below n))) ((110 ∷ decimal n) ∷ [])
    ∙ (λ i. nodes_plain n before i && (last i && true))

roles_few : (a k : ℕ) → AllByRecursion (λ (n : Node). n.role < 2) (map node (range_from a k))
roles_few a zero = tt
roles_few a (suc k) = (let m : a % 2 < 2 = omega arith in m, roles_few (suc a) k)

-- ---- the graph

pub pair_is_graph : (es : List Edge) → AreEdges es → IsGraph (pair_graph es)
pair_is_graph es h =
    let n = node_count es in
    let few : n ≤ 256 = most 0 es (omega arith) h.ends in
    let many : length (map node (below n)) ≡ n = length_nodes n in
    record {
      named = refl;
      role_names = refl;
      variable_names = refl;
      node_names = (λ i. nodes_plain n few i && nodes_differ n few i);
      edge_names = h.labels;
      writers = All-from_recursion _ [] tt;
      roles = All-from_recursion (λ (n : Node). n.role < 2) (map node (below n)) (roles_few 0 n);
      ends = subst (λ m. All (λ (e : Edge). (e.source < m) × (e.target < m)) es) (sym many) (All-from_recursion _ es (within 0 es));
      variables = All-from_recursion _ es (all_weaker HasEnds _ no_variables es h.ends);
      sizes = (omega arith, omega arith, omega (arith, many, few), h.few);
    }
