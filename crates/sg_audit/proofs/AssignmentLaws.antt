-- Variables with what they are given, one after the other.
use Rattle.std.proofs.Common.{◌≡◌, ℕ, ◌<◌, true, List, length, refl, inl, inr}
use Rattle.std.specs.Prelude.{Option, Some, None, IsSome, IsTrue, IfSome, ◌↔◌}
use Rattle.std.proofs.lemmas.Bool.{cases_Bool}
use Rattle.sg_model.specs.Lists.{has_text}
use Rattle.sg_model.specs.Names.{Name}
use Rattle.sg_protocol.specs.Graph.{Graph, IsGraph, role_name, variable_name}
use Rattle.sg_graph.specs.Parts.{variable_names, edge_names, edge_name}
use Rattle.sg_parse.specs.Reading.{index_of}
use Rattle.sg_parse.proofs.Names.{role_index, variable_index, label_index}
use Rattle.sg_audit.specs.LineContents.{numbered}

-- ---- numbers of names

numbered_is : (names : List Name) (n : Name) (o : Option ℕ) → (IsSome o ↔ IsTrue (has_text n names)) → IfSome o (λ r. index_of n names ≡ r) → o ≡ numbered names n
numbered_is names n None f p = elim (cases_Bool (has_text n names)) [ inl y ↦ (let s = f.1 y in absurd (cc)) | inr z ↦ rw z refl ]
numbered_is names n (Some r) f p = let y : has_text n names ≡ true = f.0 refl in rw (y, p) refl

pub role_is : (g : Graph) (n : Name) (o : Option ℕ) → IsGraph g → (IsSome o ↔ IsTrue (has_text n g.roles)) → IfSome o (λ r. (r < length g.roles) × (role_name g r ≡ n)) → o ≡ numbered g.roles n
role_is g n None is f p = numbered_is g.roles n None f tt
role_is g n (Some r) is f p = numbered_is g.roles n (Some r) f (role_index g n r is p.0 p.1)

pub variable_is : (g : Graph) (n : Name) (o : Option ℕ) → IsGraph g → (IsSome o ↔ IsTrue (has_text n (variable_names g))) → IfSome o (λ x. (x < length g.variables) × (variable_name g x ≡ n)) → o ≡ numbered (variable_names g) n
variable_is g n None is f p = numbered_is (variable_names g) n None f tt
variable_is g n (Some x) is f p = numbered_is (variable_names g) n (Some x) f (variable_index g n x is p.0 p.1)

pub label_is : (g : Graph) (n : Name) (o : Option ℕ) → IsGraph g → (IsSome o ↔ IsTrue (has_text n (edge_names g))) → IfSome o (λ e. (e < length g.edges) × (edge_name g e ≡ n)) → o ≡ numbered (edge_names g) n
label_is g n None is f p = numbered_is (edge_names g) n None f tt
label_is g n (Some e) is f p = numbered_is (edge_names g) n (Some e) f (label_index g n e is p.0 p.1)

-- ---- one after the other
