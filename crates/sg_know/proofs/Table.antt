-- A list of states with the table of their indices.
use Rattle.std.proofs.Common.{◌≡◌, ◌≢◌, ℕ, ◌+◌, ◌<◌, ◌≤◌, false, cond, List, [], ◌∷◌, ◌++◌, length, get_or, set, refl, sym, ap, ◌∙◌, subst, inl, inr, arith}
use Rattle.std.specs.Prelude.{Option, Some, None, IfSome, is_some}
use Rattle.std.specs.List.{count_by}
use Rattle.std.proofs.lemmas.Bool.{cases_lt, cases_eq}
use Rattle.std.proofs.lemmas.List.{get_or_append_left, get_or_push, length_push, length-set, get_or-set_same, get_or-set_other, get_or_read}
use Rattle.std.proofs.lemmas.List.Sums.{sum_by-set}
use Rattle.sg_know.specs.declared.states.Mark.{Mark}
use Rattle.sg_know.specs.declared.states.Mark.TheVariants.{Unwritten, Unknown, Known}
use Rattle.sg_know.specs.declared.states.WalkState.{WalkState}
use Rattle.sg_know.specs.declared.states.Arrival.{Arrival}
use Rattle.sg_know.specs.declared.states.ReachedState.{ReachedState}
use Rattle.sg_know.specs.States.{AreInOrder, IsTable, begin, key_of, rank_of, state_at}

-- there are three ranks
rank_below : (m : Mark) → rank_of m < 3
rank_below Unwritten = omega arith
rank_below Unknown = omega arith
rank_below Known = omega arith

-- a state at one of 256 nodes has a number below 768
key_below : (s : WalkState) → s.node < 256 → key_of s < 768
key_below s l = omega (arith, rank_below s.mark)

-- what was at an index of the list is there still
still : (states : List ReachedState) (t : ReachedState) (i : ℕ) → i < length states → get_or (states ++ t ∷ []) i begin ≡ get_or states i begin
still states t i l = get_or_append_left states (t ∷ []) begin i l

-- the last element is the new one
at_end : (states : List ReachedState) (t : ReachedState) (i : ℕ) → length states ≤ i → i < length (states ++ t ∷ []) → (length states ≡ i) × (get_or (states ++ t ∷ []) i begin ≡ t)
at_end states t i le li = let end : length states ≡ i = omega (arith, length_push states t) in (end, get_or_push states t begin i end)

-- what holds of each index and its element, and of the end and the new one, holds of each index with one element more
each_more : (P : ℕ → ReachedState → Type 0) (states : List ReachedState) (t : ReachedState) → ((i : ℕ) → i < length states → P i (get_or states i begin)) → P (length states) t
    → (i : ℕ) → i < length (states ++ t ∷ []) → P i (get_or (states ++ t ∷ []) i begin)
each_more P states t before last i li =
    elim (cases_lt i (length states)) [
      | inl w ↦ subst (P i) (sym (still states t i w)) (before i w)
      | inr w ↦ (let end = at_end states t i w li in subst (P i) (sym (end.1)) (subst (λ (k : ℕ). P k t) end.0 last))
    ]

-- one state more, at an empty index of the table
pub IsTable-more : (states : List ReachedState) (indices : List (Option ℕ)) (t : ReachedState) (key n : ℕ) → IsTable states indices → t.state.node < 256 → key ≡ key_of t.state → n ≡ length states
    → get_or indices key None ≡ None → IsTable (states ++ t ∷ []) (set indices key (Some n))
IsTable-more states indices t key n h l k e free = record {
  size = length-set indices key (Some n) ∙ h.size;
  within = each_more (λ i s. s.state.node < 256) states t h.within l;
  noted = each_more (λ i s. get_or (set indices key (Some n)) (key_of s.state) None ≡ Some i) states t old_noted (rw (← k) (get_or-set_same indices key (Some n) None there ∙ ap Some e));
  right = indexed;
  count = counted;
}
  where
    there : key < length indices
    there = rw (h.size, k) (key_below t.state l)

    longer : length (states ++ t ∷ []) ≡ length states + 1
    longer = length_push states t

    old_noted : (i : ℕ) → i < length states → get_or (set indices key (Some n)) (key_of (state_at states i)) None ≡ Some i
    old_noted i li =
        let was = h.noted i li in
        let other : key_of (state_at states i) ≢ key = λ same. (let z : None ≡ Some i = sym free ∙ ap (λ (j : ℕ). get_or indices j None) (sym same) ∙ was in absurd (cc)) in
        get_or-set_other indices key (key_of (state_at states i)) (Some n) None other ∙ was

    onto : (o : Option ℕ) (j : ℕ) → IfSome o (λ i. (i < length states) × (key_of (state_at states i) ≡ j)) → IfSome o (λ i. (i < length (states ++ t ∷ [])) × (key_of (state_at (states ++ t ∷ []) i) ≡ j))
    onto None j m = tt
    onto (Some i) j m = (omega (arith, longer, m.0), ap (λ (s : ReachedState). key_of s.state) (still states t i m.0) ∙ m.1)

    indexed : (j : ℕ) → IfSome (get_or (set indices key (Some n)) j None) (λ i. (i < length (states ++ t ∷ [])) × (key_of (state_at (states ++ t ∷ []) i) ≡ j))
    indexed j =
        elim (cases_eq j key) [
          | inl same ↦
              (let end = at_end states t n (omega arith) (omega (arith, longer)) in
              let here : get_or (set indices key (Some n)) j None ≡ Some n = rw same (get_or-set_same indices key (Some n) None there) in
              rw here (omega (arith, longer), ap (λ (s : ReachedState). key_of s.state) end.1 ∙ sym k ∙ sym same))
          | inr other ↦ rw (get_or-set_other indices key j (Some n) None other) (onto (get_or indices j None) j (h.right j))
        ]

    counted : count_by is_some (set indices key (Some n)) ≡ length (states ++ t ∷ [])
    counted =
        let sums = sum_by-set (λ (o : Option ℕ). cond (is_some o) 1 0) indices key (Some n) None there in
        let sums' = rw free at sums in
        omega (arith, sums', h.count, longer)

-- one state more, from an earlier one
pub AreInOrder-more : (states : List ReachedState) (t : ReachedState) → AreInOrder states → IfSome t.by (λ (s : Arrival). s.from < length states) → AreInOrder (states ++ t ∷ [])
AreInOrder-more states t h l = each_more (λ i s. IfSome s.by (λ (p : Arrival). p.from < i)) states t h l

-- an index of the table that holds none is empty
pub is_free : (indices : List (Option ℕ)) (key : ℕ) (found : Option ℕ) → key < length indices → found ≡ get_or indices key found → is_some found ≡ false → get_or indices key None ≡ None
is_free indices key found l at away = sym (get_or_read indices key found l at None) ∙ none found away
  where
    none : (o : Option ℕ) → is_some o ≡ false → o ≡ None
    none None e = refl
    none (Some i) e = absurd (cc)
