-- A graph with one part more is a graph.
use Rattle.std.proofs.Common.{◌≡◌, zero, suc, ◌<◌, ◌≤◌, Bool, true, false, not, ◌&&◌, List, [], ◌∷◌, ◌++◌, length, get_or, refl, ◌∙◌, arith}
use Rattle.std.specs.Prelude.{All}
use Rattle.std.specs.List.{list_all}
use Rattle.std.proofs.lemmas.List.{map-append}
use Rattle.std.proofs.lemmas.List.Folds.{list_all-append}
use Rattle.std.proofs.lemmas.List.Elements.{All-append}
use Rattle.std.proofs.lemmas.Bool.{and_parts}
use Rattle.sg_model.specs.Lists.{has_text, all_differ}
use Rattle.sg_model.specs.Names.{is_name, reserved}
use Rattle.sg_model.proofs.Small.{length-more}
use Rattle.sg_model.proofs.Differ.{all_differ-append}
use Rattle.sg_protocol.specs.Graph.{Graph, Name, Variable, Node, Edge, IsGraph, AreNames, AreNumbers}
use Rattle.sg_graph.specs.Adding.{no_parts, with_role, with_variable, with_node, with_edge}
use Rattle.sg_graph.specs.Parts.{variable_names, node_names, edge_names}
use Rattle.sg_graph.proofs.Sets.{numbers_within}

-- names with one more
AreNames-append : (ns : List Name) (n : Name) → AreNames ns → is_name n ≡ true → has_text n reserved ≡ false → has_text n ns ≡ false → AreNames (ns ++ n ∷ [])
AreNames-append ns n named is free new =
    let p : Name → Bool = λ n. is_name n && not (has_text n reserved) in
    let parts = and_parts (list_all p ns) (all_differ ns) named in
    let all : list_all p (ns ++ n ∷ []) ≡ true = list_all-append p ns (n ∷ []) ∙ rw (parts.0, is, free) in
    rw (all, all_differ-append ns n parts.1 new)

-- what holds of each element and follows of it
pub All-map : {X : Type 0} (P Q : X → Type 0) (xs : List X) → ((x : X) → P x → Q x) → All P xs → All Q xs
All-map P Q xs step all = λ k d l. step (get_or xs k d) (all k d l)

-- what holds of one element
pub All-one : {X : Type 0} (P : X → Type 0) (x : X) → P x → All P (x ∷ [])
All-one P x p zero d l = p
All-one P x p (suc k) d l = absurd (omega arith)

-- no parts are a graph
pub IsGraph-no_parts : (name : Name) → is_name name ≡ true → has_text name reserved ≡ false → IsGraph (no_parts name)
IsGraph-no_parts name is free = record {
  named = rw (is, free);
  role_names = refl;
  variable_names = refl;
  node_names = refl;
  edge_names = refl;
  writers = λ k d l. absurd (omega arith);
  roles = λ k d l. absurd (omega arith);
  ends = λ k d l. absurd (omega arith);
  variables = λ k d l. absurd (omega arith);
  sizes = (omega arith, omega arith, omega arith, omega arith);
}

-- with one role more
pub IsGraph-with_role : (g : Graph) (name : Name) → IsGraph g → is_name name ≡ true → has_text name reserved ≡ false → has_text name g.roles ≡ false
    → length g.roles < 16 → IsGraph (with_role g name)
IsGraph-with_role g name h is free new room =
    let more : length g.roles ≤ length (g.roles ++ name ∷ []) = omega (arith, length-more g.roles name) in
    record {
      named = h.named;
      role_names = AreNames-append g.roles name h.role_names is free new;
      variable_names = h.variable_names;
      node_names = h.node_names;
      edge_names = h.edge_names;
      writers = All-map (λ (v : Variable). AreNumbers (length g.roles) v.writers × (0 < length v.writers)) (λ (v : Variable). AreNumbers (length (g.roles ++ name ∷ [])) v.writers × (0 < length v.writers)) g.variables (λ v w. (numbers_within _ _ v.writers more w.0, w.1)) h.writers;
      roles = All-map (λ (n : Node). n.role < length g.roles) (λ (n : Node). n.role < length (g.roles ++ name ∷ [])) g.nodes (λ n w. omega (arith, more, w)) h.roles;
      ends = h.ends;
      variables = h.variables;
      sizes = (omega (arith, room, length-more g.roles name), h.sizes.1, h.sizes.2, h.sizes.3);
    }

-- with one variable more
pub IsGraph-with_variable : (g : Graph) (v : Variable) → IsGraph g → is_name v.name ≡ true → has_text v.name reserved ≡ false
    → has_text v.name (variable_names g) ≡ false → AreNumbers (length g.roles) v.writers → 0 < length v.writers → length g.variables < 32 → IsGraph (with_variable g v)
IsGraph-with_variable g v h is free new there some room =
    let more : length g.variables ≤ length (g.variables ++ v ∷ []) = omega (arith, length-more g.variables v) in
    record {
      named = h.named;
      role_names = h.role_names;
      variable_names = rw (map-append (λ (v : Variable). v.name) g.variables (v ∷ [])) (AreNames-append (variable_names g) v.name h.variable_names is free new);
      node_names = h.node_names;
      edge_names = h.edge_names;
      writers = (let P : Variable → Type 0 = λ v. AreNumbers (length g.roles) v.writers × (0 < length v.writers) in All-append P g.variables (v ∷ []) h.writers (All-one P v (there, some)));
      roles = h.roles;
      ends = h.ends;
      variables = All-map (λ (e : Edge). AreNumbers (length g.variables) e.writes × AreNumbers (length g.variables) e.reads) (λ (e : Edge). AreNumbers (length (g.variables ++ v ∷ [])) e.writes × AreNumbers (length (g.variables ++ v ∷ [])) e.reads) g.edges (λ e w. (numbers_within _ _ e.writes more w.0, numbers_within _ _ e.reads more w.1)) h.variables;
      sizes = (h.sizes.0, omega (arith, room, length-more g.variables v), h.sizes.2, h.sizes.3);
    }

-- with one node more
pub IsGraph-with_node : (g : Graph) (n : Node) → IsGraph g → is_name n.name ≡ true → has_text n.name reserved ≡ false
    → has_text n.name (node_names g) ≡ false → n.role < length g.roles → length g.nodes < 256 → IsGraph (with_node g n)
IsGraph-with_node g n h is free new there room =
    let more : length g.nodes ≤ length (g.nodes ++ n ∷ []) = omega (arith, length-more g.nodes n) in
    record {
      named = h.named;
      role_names = h.role_names;
      variable_names = h.variable_names;
      node_names = rw (map-append (λ (n : Node). n.name) g.nodes (n ∷ [])) (AreNames-append (node_names g) n.name h.node_names is free new);
      edge_names = h.edge_names;
      writers = h.writers;
      roles = (let P : Node → Type 0 = λ n. n.role < length g.roles in All-append P g.nodes (n ∷ []) h.roles (All-one P n there));
      ends = All-map (λ (e : Edge). (e.source < length g.nodes) × (e.target < length g.nodes)) (λ (e : Edge). (e.source < length (g.nodes ++ n ∷ [])) × (e.target < length (g.nodes ++ n ∷ []))) g.edges (λ e w. (omega (arith, more, w.0), omega (arith, more, w.1))) h.ends;
      variables = h.variables;
      sizes = (h.sizes.0, h.sizes.1, omega (arith, room, length-more g.nodes n), h.sizes.3);
    }

-- with one edge more
pub IsGraph-with_edge : (g : Graph) (e : Edge) → IsGraph g → is_name e.name ≡ true → has_text e.name reserved ≡ false
    → has_text e.name (edge_names g) ≡ false → e.source < length g.nodes → e.target < length g.nodes
    → AreNumbers (length g.variables) e.writes → AreNumbers (length g.variables) e.reads → length g.edges < 512 → IsGraph (with_edge g e)
IsGraph-with_edge g e h is free new source target writes reads room =
    record {
      named = h.named;
      role_names = h.role_names;
      variable_names = h.variable_names;
      node_names = h.node_names;
      edge_names = rw (map-append (λ (e : Edge). e.name) g.edges (e ∷ [])) (AreNames-append (edge_names g) e.name h.edge_names is free new);
      writers = h.writers;
      roles = h.roles;
      ends = (let P : Edge → Type 0 = λ e. (e.source < length g.nodes) × (e.target < length g.nodes) in All-append P g.edges (e ∷ []) h.ends (All-one P e (source, target)));
      variables = (let P : Edge → Type 0 = λ e. AreNumbers (length g.variables) e.writes × AreNumbers (length g.variables) e.reads in All-append P g.edges (e ∷ []) h.variables (All-one P e (writes, reads)));
      sizes = (h.sizes.0, h.sizes.1, h.sizes.2, omega (arith, room, length-more g.edges e));
    }
