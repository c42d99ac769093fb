-- What is read and written is there.
use Rattle.std.proofs.Common.{◌≡◌, ℕ, suc, ◌<◌, ◌≤◌, ◌==◌, nat_lt, true, false, not, List, [], ◌∷◌, length, get_or, refl, sym, ap, ◌∙◌, inl, inr, arith}
use Rattle.std.specs.List.{list_all}
use Rattle.std.proofs.lemmas.Bool.{cases_Bool, cases_lt, and_parts, eq-eqb, not-true}
use Rattle.std.proofs.lemmas.Bool.Decides.{nat_tests}
use Rattle.std.proofs.lemmas.List.{get_or_past, get_or-map, length-map}
use Rattle.sg_model.specs.Lists.{is_in, rises_from}
use Rattle.sg_model.specs.Shape.{Arrow, edge_at, source}
use Rattle.sg_protocol.specs.Graph.{Graph, Edge, IsGraph, AreNumbers, shape, writes, reads}
use Rattle.sg_graph.proofs.Sets.{number_below}

-- past the last edge there is none
no_edge : (g : Graph) (e : ℕ) → length g.edges ≤ e → get_or (shape g).edges e (record { source = 0; target = 0; writes = []; reads = [] }) ≡ record { source = 0; target = 0; writes = []; reads = [] }
no_edge g e le = get_or_past (shape g).edges e _ (rw length-map le)

-- an edge that writes is there
pub written_there : (g : Graph) (e x : ℕ) → is_in x (writes g e) ≡ true → e < length g.edges
written_there g e x h =
    elim (cases_lt e (length g.edges)) [
      | inl l ↦ l
      | inr le ↦ (let none : false ≡ true = sym (ap (λ (a : Arrow). is_in x a.writes) (no_edge g e le)) ∙ h in absurd (cc))
    ]

-- an edge that reads is there
pub read_there : (g : Graph) (e x : ℕ) → is_in x (reads g e) ≡ true → e < length g.edges
read_there g e x h =
    elim (cases_lt e (length g.edges)) [
      | inl l ↦ l
      | inr le ↦ (let none : false ≡ true = sym (ap (λ (a : Arrow). is_in x a.reads) (no_edge g e le)) ∙ h in absurd (cc))
    ]

-- the first number is one of them
pub is_in_first : (x : ℕ) (xs : List ℕ) → is_in x (x ∷ xs) ≡ true
is_in_first x xs = rw (eq-eqb x x refl) refl

-- rising numbers of which each is r are r alone, if r is one of them
pub only_one : (n r : ℕ) (xs : List ℕ) → AreNumbers n xs → ((y : ℕ) → y < n → is_in y xs ≡ true → y ≡ r) → is_in r xs ≡ true → xs ≡ r ∷ []
only_one n r xs h each i = one xs (and_parts (rises_from 0 xs) (list_all (λ k. nat_lt k n) xs) h).0 (λ y k. each y (number_below n y xs h k) k) i
  where
    one : (xs : List ℕ) → rises_from 0 xs ≡ true → ((y : ℕ) → is_in y xs ≡ true → y ≡ r) → is_in r xs ≡ true → xs ≡ r ∷ []
    one [] h each i = absurd (cc)
    one (x ∷ []) h each i = ap (λ y. y ∷ []) (each x (is_in_first x []))
    one (x ∷ (y ∷ ys)) h each i =
        let rest = (and_parts (not (nat_lt x 0)) (rises_from (suc x) (y ∷ ys)) h).1 in
        let up = not-true (nat_lt y (suc x)) (and_parts (not (nat_lt y (suc x))) (rises_from (suc y) ys) rest).0 in
        let first : x ≡ r = each x (is_in_first x (y ∷ ys)) in
        let second : y ≡ r = each y (elim (cases_Bool (x == y)) [ inl e ↦ rw e refl | inr d ↦ rw d (is_in_first y ys) ]) in
        absurd (grind (arith, nat_tests, up))

-- ---- what the graph promises of an edge that is there

-- an edge without its name
abbrev arrow_of : Edge → Arrow
arrow_of e = record { source = e.source; target = e.target; writes = e.writes; reads = e.reads }

-- what stands past the last edge
abbrev no_named_edge : Edge
no_named_edge = record { name = []; source = 0; target = 0; writes = []; reads = [] }

-- the edge of a label, as the walks see it
edge_seen : (g : Graph) (e : ℕ) → e < length g.edges → edge_at (shape g) e ≡ arrow_of (get_or g.edges e no_named_edge)
edge_seen g e l = get_or-map arrow_of g.edges e no_named_edge _ l

-- it leaves a node that is there
pub source_there : (g : Graph) (e : ℕ) → IsGraph g → e < length g.edges → source (shape g) e < length g.nodes
source_there g e h l = let same : source (shape g) e ≡ (get_or g.edges e no_named_edge).source = ap (λ (a : Arrow). a.source) (edge_seen g e l) in rw same (h.ends e no_named_edge l).0

-- it reads variables that are there
pub read_var_there : (g : Graph) (e x : ℕ) → IsGraph g → is_in x (reads g e) ≡ true → x < length g.variables
read_var_there g e x h i =
    let l = read_there g e x i in
    let same : reads g e ≡ (get_or g.edges e no_named_edge).reads = ap (λ (a : Arrow). a.reads) (edge_seen g e l) in
    number_below (length g.variables) x (get_or g.edges e no_named_edge).reads (h.variables e no_named_edge l).1 (rw same at i)

-- it writes variables that are there
pub written_var_there : (g : Graph) (e x : ℕ) → IsGraph g → is_in x (writes g e) ≡ true → x < length g.variables
written_var_there g e x h i =
    let l = written_there g e x i in
    let same : writes g e ≡ (get_or g.edges e no_named_edge).writes = ap (λ (a : Arrow). a.writes) (edge_seen g e l) in
    number_below (length g.variables) x (get_or g.edges e no_named_edge).writes (h.variables e no_named_edge l).0 (rw same at i)
