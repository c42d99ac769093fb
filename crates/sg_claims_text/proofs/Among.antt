-- The names of a graph's labels, one after the other.
use Rattle.std.proofs.Common.{◌≡◌, ℕ, zero, suc, ◌+◌, ◌<◌, ◌≤◌, not, false, true, List, [], ◌∷◌, ◌++◌, length, get_or, take, bytes_eq, refl, sym, subst, ap, ◌∙◌, inl, inr, arith}
use Rattle.std.proofs.Math.Seq.{take-length}
use Rattle.std.proofs.lemmas.Bool.{cases_Bool, not-true, and_parts}
use Rattle.std.proofs.lemmas.List.{get_or-map, length-map, take_more}
use Rattle.std.proofs.lemmas.Slice.Eq.{bytes_eq-Decides}
use Rattle.sg_graph.specs.Parts.{edge_name, edge_names}
use Rattle.sg_model.specs.Lists.{has_text, all_differ}
use Rattle.sg_parse.proofs.Names.{named_there, names_differ}
use Rattle.sg_protocol.specs.Graph.{Graph, IsGraph, Name, Edge}

-- of names that differ none stands before itself
new-at : (ns : List Name) (r : ℕ) → all_differ ns ≡ true → r < length ns → has_text (get_or ns r []) (take r ns) ≡ false
new-at [] r d l = absurd (omega arith)
new-at (n ∷ ns) zero d l = refl
new-at (n ∷ ns) (suc r) d l =
    let parts = and_parts (not (has_text n ns)) (all_differ ns) d in
    let apart : has_text n ns ≡ false = not-true (has_text n ns) parts.0 in
    let there : has_text (get_or ns r []) ns ≡ true = named_there ns r (omega arith) in
    elim (cases_Bool (bytes_eq (get_or ns r []) n)) [
      | inl y ↦ (let same : get_or ns r [] ≡ n = (bytes_eq-Decides (get_or ns r []) n).0 y in let clash : has_text n ns ≡ true = rw same at there in absurd (cc))
      | inr z ↦ rw z (new-at ns r parts.1 (omega arith))
    ]

-- the name at a label's index
pub name_at : (g : Graph) (e : ℕ) → e < length g.edges → get_or (edge_names g) e [] ≡ edge_name g e
name_at g e l = get_or-map (λ (d : Edge). d.name) g.edges e _ [] l

pub within : (g : Graph) (e : ℕ) → e < length g.edges → e < length (edge_names g)
within g e l = rw length-map l

-- the name of a label is none of those before it
pub is_new : (g : Graph) (e : ℕ) → IsGraph g → e < length g.edges → has_text (edge_name g e) (take e (edge_names g)) ≡ false
is_new g e is l = subst (λ n. has_text n (take e (edge_names g)) ≡ false) (name_at g e l) (new-at (edge_names g) e (names_differ (edge_names g) is.edge_names) (within g e l))

-- the names up to a label, with its own
pub one_more : (g : Graph) (e : ℕ) → e < length g.edges → take e (edge_names g) ++ edge_name g e ∷ [] ≡ take (e + 1) (edge_names g)
one_more g e l = sym (take_more (edge_names g) e [] (within g e l) ∙ ap (λ n. take e (edge_names g) ++ n ∷ []) (name_at g e l))

-- all of them
pub all : (g : Graph) (k : ℕ) → k ≡ length g.edges → take k (edge_names g) ≡ edge_names g
all g k e = ap (λ n. take n (edge_names g)) (e ∙ sym (length-map g.edges (λ (d : Edge). d.name))) ∙ take-length (edge_names g)

-- there are few
pub few : (g : Graph) → IsGraph g → length (edge_names g) ≤ 512
few g is = (let same : length (edge_names g) ≡ length g.edges = length-map g.edges (λ (d : Edge). d.name) in omega (arith, same, is.sizes.3))
