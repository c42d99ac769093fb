-- The index of a name among names that differ.
use Rattle.std.proofs.Common.{◌≡◌, ℕ, zero, suc, ◌<◌, ◌&&◌, not, true, false, List, [], ◌∷◌, length, get_or, bytes_eq, refl, ap, ◌∙◌, inl, inr, arith}
use Rattle.std.proofs.lemmas.List.{get_or-map, length-map}
use Rattle.std.proofs.lemmas.Slice.Eq.{bytes_eq-Decides}
use Rattle.std.specs.List.{list_all}
use Rattle.std.proofs.lemmas.Bool.{cases_Bool, not-true, and_parts}
use Rattle.sg_model.specs.Lists.{has_text, all_differ}
use Rattle.sg_model.specs.Names.{is_name, reserved}
use Rattle.sg_protocol.specs.Graph.{Graph, IsGraph, AreNames, Name, Variable, Node, role_name, variable_name, node_name, Edge}
use Rattle.sg_graph.specs.Parts.{variable_names, node_names, edge_names, edge_name}
use Rattle.sg_parse.specs.Reading.{index_of}

-- a name that is at an index is one of the names
pub named_there : (names : List Name) (r : ℕ) → r < length names → has_text (get_or names r []) names ≡ true
named_there [] r h = absurd (omega arith)
named_there (m ∷ ms) zero h = (let e : bytes_eq m m ≡ true = (bytes_eq-Decides m m).1 refl in rw e refl)
named_there (m ∷ ms) (suc r) h = elim (cases_Bool (bytes_eq (get_or ms r []) m)) [
  | inl y ↦ rw y refl
  | inr n ↦ rw n (named_there ms r (omega arith))
]

-- the index of the name that is at an index
pub index_there : (names : List Name) (r : ℕ) → all_differ names ≡ true → r < length names → index_of (get_or names r []) names ≡ r
index_there [] r d h = absurd (omega arith)
index_there (m ∷ ms) zero d h = (let e : bytes_eq m m ≡ true = (bytes_eq-Decides m m).1 refl in rw e refl)
index_there (m ∷ ms) (suc r) d h =
    let parts = and_parts (not (has_text m ms)) (all_differ ms) d in
    let apart : has_text m ms ≡ false = not-true (has_text m ms) parts.0 in
    let in' : has_text (get_or ms r []) ms ≡ true = named_there ms r (omega arith) in
    elim (cases_Bool (bytes_eq (get_or ms r []) m)) [
      | inl y ↦ (let same : get_or ms r [] ≡ m = (bytes_eq-Decides (get_or ms r []) m).0 y in let there : has_text m ms ≡ true = rw same at in' in absurd (cc))
      | inr n ↦ rw n (ap suc (index_there ms r parts.1 (omega arith)))
    ]

-- names that are names differ
pub names_differ : (names : List Name) → AreNames names → all_differ names ≡ true
names_differ names h = (and_parts (list_all (λ n. is_name n && not (has_text n reserved)) names) (all_differ names) h).1

-- the index of a role's name
pub role_index : (g : Graph) (n : Name) (r : ℕ) → IsGraph g → r < length g.roles → role_name g r ≡ n → index_of n g.roles ≡ r
role_index g n r is h e = rw (← e) (index_there g.roles r (names_differ g.roles is.role_names) h)

-- the index of a variable's name
pub variable_index : (g : Graph) (n : Name) (x : ℕ) → IsGraph g → x < length g.variables → variable_name g x ≡ n → index_of n (variable_names g) ≡ x
variable_index g n x is h e =
    let within : x < length (variable_names g) = rw length-map h in
    let named : get_or (variable_names g) x [] ≡ n = get_or-map (λ (v : Variable). v.name) g.variables x _ [] h ∙ e in
    rw (← named) (index_there (variable_names g) x (names_differ (variable_names g) is.variable_names) within)

-- the index of a node's name
pub node_index : (g : Graph) (n : Name) (m : ℕ) → IsGraph g → m < length g.nodes → node_name g m ≡ n → index_of n (node_names g) ≡ m
node_index g n m is h e =
    let within : m < length (node_names g) = rw length-map h in
    let named : get_or (node_names g) m [] ≡ n = get_or-map (λ (v : Node). v.name) g.nodes m _ [] h ∙ e in
    rw (← named) (index_there (node_names g) m (names_differ (node_names g) is.node_names) within)

-- the index of a label's name
pub label_index : (g : Graph) (n : Name) (e : ℕ) → IsGraph g → e < length g.edges → edge_name g e ≡ n → index_of n (edge_names g) ≡ e
label_index g n e is h q =
    let within : e < length (edge_names g) = rw length-map h in
    let named : get_or (edge_names g) e [] ≡ n = get_or-map (λ (d : Edge). d.name) g.edges e _ [] h ∙ q in
    rw (← named) (index_there (edge_names g) e (names_differ (edge_names g) is.edge_names) within)
