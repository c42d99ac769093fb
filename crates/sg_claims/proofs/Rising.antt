-- The labels that leave a node rise.
use Rattle.std.proofs.Common.{◌≡◌, ℕ, zero, suc, ◌+◌, ◌<◌, ◌≤◌, ◌==◌, Bool, true, false, List, filter, length, get_or, refl, subst, inl, inr, arith}
use Rattle.sg_model.specs.Lists.{range_from}
use Rattle.sg_model.specs.Shape.{source}
use Rattle.sg_protocol.specs.Graph.{Graph, shape}
use Rattle.sg_graph.specs.Edges.{leaving_from}
use Rattle.sg_graph.proofs.Left.{IsLeft, left_on}

-- each number that passes is at least the first of the range
from_first : (p : ℕ → Bool) (a k i : ℕ) → i < length (filter p (range_from a k)) → a ≤ get_or (filter p (range_from a k)) i 0
from_first p a zero i l = absurd (omega arith)
from_first p a (suc k) i l = of (p a) refl (λ i l. from_first p (suc a) k i l) i l
  where
    of : (b : Bool) → p a ≡ b → ((i : ℕ) → i < length (filter p (range_from (suc a) k)) → suc a ≤ get_or (filter p (range_from (suc a) k)) i 0) → (i : ℕ) → i < length (filter p (range_from a (suc k))) → a ≤ get_or (filter p (range_from a (suc k))) i 0
    of true e rest zero l = rw e (omega arith)
    of true e rest (suc i) l = let l' = rw e at l in rw e (let h = rest i (omega arith) in omega arith)
    of false e rest i l = let l' = rw e at l in rw e (let h = rest i l' in omega arith)

-- the numbers that pass rise
rise : (p : ℕ → Bool) (a k i j : ℕ) → i < j → j < length (filter p (range_from a k)) → get_or (filter p (range_from a k)) i 0 < get_or (filter p (range_from a k)) j 0
rise p a zero i j b l = absurd (omega arith)
rise p a (suc k) i j b l = of (p a) refl (λ i j b l. rise p (suc a) k i j b l) i j b l
  where
    of : (t : Bool) → p a ≡ t → ((i j : ℕ) → i < j → j < length (filter p (range_from (suc a) k)) → get_or (filter p (range_from (suc a) k)) i 0 < get_or (filter p (range_from (suc a) k)) j 0)
        → (i j : ℕ) → i < j → j < length (filter p (range_from a (suc k))) → get_or (filter p (range_from a (suc k))) i 0 < get_or (filter p (range_from a (suc k))) j 0
    of true e rest i zero b l = absurd (omega arith)
    of true e rest zero (suc j) b l = let l' = rw e at l in rw e (let h = from_first p (suc a) k j (omega arith) in omega arith)
    of true e rest (suc i) (suc j) b l = let l' = rw e at l in rw e (rest i j (omega arith) (omega arith))
    of false e rest i j b l = let l' = rw e at l in rw e (rest i j b l')

-- the labels that leave a node rise
pub leaving_rise : (g : Graph) (n i j : ℕ) → i < j → j < length (leaving_from g n) → get_or (leaving_from g n) i 0 < get_or (leaving_from g n) j 0
leaving_rise g n i j b l = rise (λ e. source (shape g) e == n) 0 (length g.edges) i j b l

-- a label that is left after an index is left at it
pub left_before : (labels : List ℕ) (at e : ℕ) → IsLeft labels (at + 1) e → IsLeft labels at e
left_before labels at e left = (left.0, omega (arith, left.1), left.2, left.3)

-- of labels that rise, those that are left after an index are greater than the one there
pub left_greater : (labels : List ℕ) → ((i j : ℕ) → i < j → j < length labels → get_or labels i 0 < get_or labels j 0) → (at e : ℕ) → IsLeft labels (at + 1) e → get_or labels at 0 < e
left_greater labels rises at e left = subst (λ k. get_or labels at 0 < k) left.3 (rises at left.0 (let l = left.1 in omega arith) left.2)

-- and the one at an index is at most each that is left there
pub left_at_least : (labels : List ℕ) → ((i j : ℕ) → i < j → j < length labels → get_or labels i 0 < get_or labels j 0) → (at e : ℕ) → IsLeft labels at e → get_or labels at 0 ≤ e
left_at_least labels rises at e left =
    elim (left_on labels at e left) [
      | inl same ↦ omega arith
      | inr more ↦ (let h = left_greater labels rises at e more in omega arith)
    ]
