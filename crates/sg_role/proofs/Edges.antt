-- Whether an edge leaves a node, edge by edge.
use Rattle.std.proofs.Common.{◌≡◌, ℕ, zero, suc, ◌+◌, ◌<◌, ◌==◌, true, false, List, [], ◌∷◌, map, length, take, get_or, refl, ◌∙◌, ap, arith, inl, inr}
use Rattle.std.specs.List.{list_any}
use Rattle.std.proofs.lemmas.Bool.{cases_Bool, or_parts}
use Rattle.sg_model.specs.Shape.{Arrow, source}
use Rattle.sg_protocol.specs.Graph.{Graph, Edge, shape}
use Rattle.sg_role.specs.Accepting.{goes_on}

abbrev arrow : Edge → Arrow
arrow e = record { source = e.source; target = e.target; writes = e.writes; reads = e.reads }

abbrev nowhere : Arrow
nowhere = record { source = 0; target = 0; writes = []; reads = [] }

leads : (es : List Edge) (n k : ℕ) → k < length es → ((get_or (map arrow es) k nowhere).source == n) ≡ true → list_any (λ (e : Edge). e.source == n) es ≡ true
leads [] n k l h = absurd (omega (arith, l))
leads (e ∷ es) n zero l h = rw h refl
leads (e ∷ es) n (suc k) l h = elim (cases_Bool (e.source == n)) [ inl q ↦ rw q refl | inr q ↦ rw q (leads es n k (omega (arith, l)) h) ]

none : (es : List Edge) (n k : ℕ) → k < length es → list_any (λ (e : Edge). e.source == n) (take k es) ≡ false → ((get_or (map arrow es) k nowhere).source == n) ≡ false → list_any (λ (e : Edge). e.source == n) (take (suc k) es) ≡ false
none [] n k l h q = refl
none (e ∷ es) n zero l h q = rw q refl
none (e ∷ es) n (suc k) l h q = let a = or_parts (e.source == n) (list_any (λ (e : Edge). e.source == n) (take k es)) h in rw a.0 (none es n k (omega (arith, l)) a.1 q)

-- an edge from the node is one that goes on
pub goes_on_by : (g : Graph) (n k : ℕ) → k < length g.edges → (source (shape g) k == n) ≡ true → goes_on g n ≡ true
goes_on_by g n k l h = leads g.edges n k l h

-- if none of the first edges and not the next one leaves the node, none of one more does
pub none_goes_on : (g : Graph) (n k : ℕ) → k < length g.edges → list_any (λ (e : Edge). e.source == n) (take k g.edges) ≡ false → (source (shape g) k == n) ≡ false → list_any (λ (e : Edge). e.source == n) (take (k + 1) g.edges) ≡ false
none_goes_on g n k l h q = ap (λ j. list_any (λ (e : Edge). e.source == n) (take j g.edges)) (later k) ∙ none g.edges n k l h q
  where
    later : (k : ℕ) → k + 1 ≡ suc k
    later k = omega arith
