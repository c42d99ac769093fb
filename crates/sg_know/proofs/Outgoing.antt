-- The edges that leave a node.
use Rattle.std.proofs.Common.{◌≡◌, ℕ, zero, suc, ◌+◌, ◌<◌, ◌==◌, nat_le, nat_lt, true, false, ◌&&◌, ◌||◌, List, [], ◌∷◌, length, get_or, take, refl, sym, ◌∙◌, subst, inl, inr, arith}
use Rattle.std.proofs.lemmas.Bool.{cases_Bool, and_parts, eqb-true, eq-eqb}
use Rattle.std.proofs.lemmas.Bool.Decides.{nat_tests}
use Rattle.std.proofs.lemmas.List.{take_more}
use Rattle.sg_base.proofs.SetLaws.{is_in-filter}
use Rattle.sg_model.specs.Lists.{is_in}
use Rattle.sg_model.specs.Shape.{source}
use Rattle.sg_model.proofs.Numbers.{is_in-append}
use Rattle.sg_protocol.specs.Graph.{Graph, shape}
use Rattle.sg_graph.specs.Edges.{leaving_from}

-- an edge of the list is there and leaves the node
pub in_leaving : (g : Graph) (n e : ℕ) → is_in e (leaving_from g n) ≡ true → (e < length g.edges) × (source (shape g) e ≡ n)
in_leaving g n e h =
    let parts = and_parts (nat_le 0 e && nat_lt e (0 + length g.edges)) (source (shape g) e == n) (sym (is_in-filter (λ e. source (shape g) e == n) 0 (length g.edges) e) ∙ h) in
    let within = (and_parts (nat_le 0 e) (nat_lt e (0 + length g.edges)) parts.0).1 in
    (grind (arith, nat_tests, within), eqb-true (source (shape g) e) n parts.1)

-- an edge that leaves the node is in the list
pub leaves_in : (g : Graph) (n e : ℕ) → e < length g.edges → source (shape g) e ≡ n → is_in e (leaving_from g n) ≡ true
leaves_in g n e l s =
    let low : nat_le 0 e ≡ true = grind (arith, nat_tests) in
    let high : nat_lt e (0 + length g.edges) ≡ true = grind (arith, nat_tests) in
    is_in-filter (λ e. source (shape g) e == n) 0 (length g.edges) e ∙ rw (low, high, eq-eqb (source (shape g) e) n s) refl

-- a number of a list is in it
pub is_in-at : (xs : List ℕ) (k d : ℕ) → k < length xs → is_in (get_or xs k d) xs ≡ true
is_in-at [] k d l = absurd (omega arith)
is_in-at (x ∷ xs) zero d l = rw (eq-eqb x x refl) refl
is_in-at (x ∷ xs) (suc k) d l = elim (cases_Bool (x == get_or xs k d)) [ inl e ↦ rw e refl | inr e ↦ rw e (is_in-at xs k d (omega arith)) ]

-- what holds of each number taken so far, and of the next, holds of each number taken then
pub taken_more : (P : ℕ → Type 0) (xs : List ℕ) (k d : ℕ) → k < length xs → ((e : ℕ) → is_in e (take k xs) ≡ true → P e) → P (get_or xs k d)
    → (e : ℕ) → is_in e (take (k + 1) xs) ≡ true → P e
taken_more P xs k d l before next e h =
    let parts : (is_in e (take k xs) || ((get_or xs k d == e) || false)) ≡ true = sym (is_in-append e (take k xs) (get_or xs k d ∷ [])) ∙ (rw (take_more xs k d l) at h) in
    elim (cases_Bool (is_in e (take k xs))) [
      | inl y ↦ before e y
      | inr n ↦
          (let last : ((get_or xs k d == e) || false) ≡ true = rw n at parts in
          elim (cases_Bool (get_or xs k d == e)) [ inl s ↦ subst P (eqb-true (get_or xs k d) e s) next | inr o ↦ (let z : false ≡ true = rw o at last in absurd (cc)) ])
    ]

-- each of the labels is one of an edge that leaves the node
pub listed_leaves : (g : Graph) (labels : List ℕ) (n k label : ℕ) → labels ≡ leaving_from g n → k < length labels → label ≡ get_or labels k label → (label < length g.edges) × (source (shape g) label ≡ n)
listed_leaves g labels n k label is l at =
    let there : is_in label labels ≡ true = subst (λ (e : ℕ). is_in e labels ≡ true) (sym at) (is_in-at labels k label l) in
    in_leaving g n label (subst (λ (ls : List ℕ). is_in label ls ≡ true) is there)
