-- The labels of a list, one after another: which are left from an index on.
use Rattle.std.proofs.Common.{◌≡◌, ℕ, ◌+◌, ◌<◌, ◌≤◌, ◌⊎◌, List, All, Contains, length, get_or, sym, ◌∙◌, ap, subst, inl, inr, arith}
use Rattle.std.proofs.lemmas.List.{get_or_default}
use Rattle.sg_model.proofs.Small.{same_or_not}

-- the label stands in the list, at this index or later
abbrev pub IsLeft : List ℕ → ℕ → ℕ → Type 0
IsLeft labels at e = (i : ℕ) × (at ≤ i) × (i < length labels) × (get_or labels i 0 ≡ e)

-- each label of the list is left at its first index
pub left_at_first : (labels : List ℕ) (e : ℕ) → Contains labels e → IsLeft labels 0 e
left_at_first labels e h = (h.0, omega arith, h.1, get_or_default labels h.0 0 e h.1 ∙ h.2)

-- a label that is left is the one at this index, or is left after it
pub left_on : (labels : List ℕ) (at e : ℕ) → IsLeft labels at e → (e ≡ get_or labels at 0) ⊎ IsLeft labels (at + 1) e
left_on labels at e left =
    elim (same_or_not left.0 at) [
      | inl same ↦ inl (sym left.3 ∙ ap (λ i. get_or labels i 0) same)
      | inr other ↦ inr (left.0, omega (arith, left.1), left.2, left.3)
    ]

-- past the last index none is left
pub none_left : (labels : List ℕ) (at e : ℕ) → length labels ≤ at → IsLeft labels at e → ⊥
none_left labels at e past left = omega (arith, left.1, left.2)

-- what holds of each label holds of the one at an index
pub at_index : (P : ℕ → Type 0) (labels : List ℕ) (at label : ℕ) → All P labels → at < length labels → label ≡ get_or labels at label → P label × (label ≡ get_or labels at 0)
at_index P labels at label all l is = (subst P (sym is) (all at label l), is ∙ get_or_default labels at label 0 l)
