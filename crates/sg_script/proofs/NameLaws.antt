-- Names and their indices in a graph.
use Rattle.std.proofs.Common.{◌≡◌, ℕ, ◌<◌, List, length, bytes_eq, position, refl}
use Rattle.std.specs.Prelude.{Option, Some, None, IsSome, IsTrue, IfSome, ◌↔◌}
use Rattle.sg_graph.specs.Parts.{variable_names, node_names, edge_names, edge_name}
use Rattle.sg_model.specs.Lists.{has_text}
use Rattle.sg_model.specs.Names.{Name}
use Rattle.sg_parse.specs.Reading.{index_of}
use Rattle.sg_parse.proofs.Names.{variable_index, node_index, label_index}
use Rattle.sg_parse.proofs.Indices.{first_index, index_is_there}
use Rattle.sg_protocol.specs.Graph.{Graph, IsGraph, node_name, variable_name}

number_is : (names : List Name) (n : Name) (o : Option ℕ) → (IsSome o ↔ IsTrue (has_text n names)) → IfSome o (λ r. index_of n names ≡ r) → o ≡ position (bytes_eq n) names
number_is names n o f p = by o (position (bytes_eq n) names) f p (index_is_there n names (position (bytes_eq n) names) refl) (first_index n names (position (bytes_eq n) names) refl)
  where
    by : (o q : Option ℕ) → (IsSome o ↔ IsTrue (has_text n names)) → IfSome o (λ r. index_of n names ≡ r)
        → (IsSome q → IsTrue (has_text n names)) × (IsTrue (has_text n names) → IsSome q) → IfSome q (λ r. index_of n names ≡ r) → o ≡ q
    by None None f p g q = refl
    by None (Some k) f p g q = let s = f.1 (g.0 refl) in absurd (cc)
    by (Some r) None f p g q = let s = g.1 (f.0 refl) in absurd (cc)
    by (Some r) (Some k) f p g q = cc

-- the variable that is found
pub variable_is : (g : Graph) (n : Name) (o : Option ℕ) → IsGraph g → (IsSome o ↔ IsTrue (has_text n (variable_names g))) → IfSome o (λ x. (x < length g.variables) × (variable_name g x ≡ n)) → o ≡ position (bytes_eq n) (variable_names g)
variable_is g n None is f p = number_is (variable_names g) n None f tt
variable_is g n (Some x) is f p = number_is (variable_names g) n (Some x) f (variable_index g n x is p.0 p.1)

-- the node that is found
pub node_is : (g : Graph) (n : Name) (o : Option ℕ) → IsGraph g → (IsSome o ↔ IsTrue (has_text n (node_names g))) → IfSome o (λ m. (m < length g.nodes) × (node_name g m ≡ n)) → o ≡ position (bytes_eq n) (node_names g)
node_is g n None is f p = number_is (node_names g) n None f tt
node_is g n (Some m) is f p = number_is (node_names g) n (Some m) f (node_index g n m is p.0 p.1)

-- the label that is found
pub label_is : (g : Graph) (n : Name) (o : Option ℕ) → IsGraph g → (IsSome o ↔ IsTrue (has_text n (edge_names g))) → IfSome o (λ e. (e < length g.edges) × (edge_name g e ≡ n)) → o ≡ position (bytes_eq n) (edge_names g)
label_is g n None is f p = number_is (edge_names g) n None f tt
label_is g n (Some e) is f p = number_is (edge_names g) n (Some e) f (label_index g n e is p.0 p.1)
