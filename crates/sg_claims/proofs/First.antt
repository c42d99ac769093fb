-- What a search that has stopped says of the claim.
use Rattle.std.proofs.Common.{◌≡◌, ℕ, ◌<◌, ◌≤◌, Bool, false, not, ◌⊎◌, List, [], ◌∷◌, ◌++◌, length, refl, sym, ◌∙◌, ap, subst, inl, inr, arith, append-nil, append_assoc, IsTrue}
use Rattle.sg_model.specs.Lists.{is_in}
use Rattle.sg_model.specs.Shape.{Shape, Walk, source, target, end_of}
use Rattle.sg_model.specs.Claims.{Claim, HoldsOnWalks, bit_after, bit_after_all, right_bit}
use Rattle.sg_model.proofs.Small.{same_or_not, length-more}
use Rattle.sg_model.proofs.Walks.{walk-append, walk_join}
use Rattle.sg_model.proofs.OneBit.{right_from, right_to}
use Rattle.sg_claims.specs.Breaks.{AreInOrder, IsFirstBreak}
use Rattle.sg_claims.specs.Search.{Any, entry_at, AreWalks, IsEntered, IsSearch, IsLeastWrong}
use Rattle.sg_claims.specs.declared.search.Entry.{Entry}
use Rattle.sg_claims.proofs.Cases.{less_or, opposite, other_bit}
use Rattle.sg_claims.proofs.Order.{IsBefore, IsUpTo, before_on, up_to_before, before_up_to, up_to_on, before_more, before_longer, up_to_more, comes_first}
use Rattle.sg_claims.proofs.Walked.{comes, walks_rise}

-- at most is the same or below
at_most : (e f : ℕ) → e ≤ f → (e ≡ f) ⊎ (e < f)
at_most e f l = elim (less_or e f) [ inl y ↦ inr y | inr n ↦ inl (omega arith) ]

module _ (g : Shape) (c : Claim) (at : ℕ) (entries : List Entry) (seen : List Bool) (x : IsSearch g c at Any entries seen) (walks : ℕ → List ℕ) (w : AreWalks entries walks) where
  -- an entry of the node and the bit has a walk up to this one, or that of the entry at `at` is before it
  abbrev Found : List ℕ → ℕ → Bool → Type 0
  Found v n bit = ((i : ℕ) × (i < length entries) × ((entry_at entries i).node ≡ n) × ((entry_at entries i).bit ≡ bit) × IsUpTo (walks i) v) ⊎ ((at < length entries) × IsBefore (walks at) v)

  begins : Found [] 0 false
  begins = inl (0, x.found.begun, x.found.start.0, x.found.start.1, inl w.first)

  -- where an edge leads was found by a walk up to the one along it
  in_time : (i e : ℕ) → (t : IsEntered g c entries i e) → i < length entries → IsUpTo (walks t.index) (walks i ++ e ∷ [])
  in_time i e t l =
      elim (same_or_not t.index 0) [
        | inl first ↦ inr (inl (let z : length (walks t.index) ≡ 0 = ap (λ j. length (walks j)) first ∙ ap length w.first in let m = length-more (walks i) e in omega (arith, z, m)))
        | inr other ↦ subst (λ v. IsUpTo v (walks i ++ e ∷ [])) (sym (w.others t.index (omega arith) t.within)) (elim t.in_time [
          | inl none ↦ absurd (other none)
          | inr found ↦ elim found [
            | inl less ↦ inr (before_more (walks (entry_at entries t.index).from) (walks i) (entry_at entries t.index).last e (walks_rise g c at Any entries seen x walks w (entry_at entries t.index).from i less l))
            | inr same ↦ up_to_more (walks (entry_at entries t.index).from) (walks i) (entry_at entries t.index).last e (inl (ap walks same.0)) (at_most (entry_at entries t.index).last e same.1)
          ]
        ])
      ]

  step : (v : List ℕ) (n : ℕ) (bit : Bool) (e : ℕ) → Found v n bit → e < length g.edges → source g e ≡ n → Found (v ++ e ∷ []) (target g e) (bit_after c bit e)
  step v n bit e (inr p) l s = inr (p.0, before_on (walks at) v (v ++ e ∷ []) p.1 (before_longer v e))
  step v n bit e (inl p) l s =
      elim (less_or p.0 at) [
        | inl y ↦ elim (x.closed p.0 e (omega arith) p.1 l (s ∙ sym p.2)) [
          | inl t ↦ inl (t.index, t.within, t.node, t.has_bit ∙ ap (λ b. bit_after c b e) p.3, up_to_on (walks t.index) (walks p.0 ++ e ∷ []) (v ++ e ∷ []) (in_time p.0 e t p.1) (up_to_more (walks p.0) v e e p.4 (inl refl)))
          | inr q ↦ absurd (let same = q.0 in omega arith)
        ]
        | inr m ↦ inr (let m' = p.1 in omega arith, up_to_before (walks at) v (v ++ e ∷ []) (since p.0 m p.1 v p.4) (before_longer v e))
      ]
    where
      since : (i : ℕ) → at ≤ i → i < length entries → (v : List ℕ) → IsUpTo (walks i) v → IsUpTo (walks at) v
      since i m l v u =
          elim (at_most at i m) [
            | inl same ↦ subst (λ j. IsUpTo (walks j) v) (sym same) u
            | inr less ↦ inr (before_up_to (walks at) (walks i) v (walks_rise g c at Any entries seen x walks w at i less l) u)
          ]

  all : (v : List ℕ) (n : ℕ) (bit : Bool) (es : List ℕ) → Found v n bit → Walk g n es → Found (v ++ es) (end_of g n es) (bit_after_all c bit es)
  all v n bit [] f r = subst (λ u. Found u n bit) (sym (append-nil v)) f
  all v n bit (e ∷ es) f r =
      subst (λ u. Found u (end_of g (target g e) es) (bit_after_all c (bit_after c bit e) es)) (append_assoc v (e ∷ []) es) (all (v ++ e ∷ []) (target g e) (bit_after c bit e) es (step v n bit e f r.0 r.1) r.2)

  -- each walk from the start is found so
  found : (v : List ℕ) → Walk g 0 v → Found v (end_of g 0 v) (bit_after_all c false v)
  found v r = all [] 0 false v begins r

  -- once all entries were followed, where each walk comes was found
  pub found_at_end : length entries ≤ at → (v : List ℕ) → Walk g 0 v → (i : ℕ) × (i < length entries) × ((entry_at entries i).node ≡ end_of g 0 v) × ((entry_at entries i).bit ≡ bit_after_all c false v)
  found_at_end over v r = elim (found v r) [ inl q ↦ (q.0, q.1, q.2, q.3) | inr q ↦ absurd (let k = q.0 in omega arith) ]

  -- once all entries were followed, the claim holds
  pub holds_at_end : length entries ≤ at → HoldsOnWalks g c
  holds_at_end over walk r before l after e i =
      let p = walk-append g 0 before (l ∷ after) (subst (Walk g 0) e r) in
      elim (found before p.0) [
        | inl q ↦ right_from c.kind c.later c.earlier c.since before (sym q.3 ∙ x.sound q.0 (let k = q.1 in omega arith) q.1 l p.1.0 (p.1.1 ∙ sym q.2) i)
        | inr q ↦ absurd (let k = q.0 in omega arith)
      ]

  -- a label at which the entry at `at` is wrong ends the first walk that breaks the claim
  pub first_break : (l : ℕ) → at < length entries → IsLeastWrong g c (entry_at entries at).node (entry_at entries at).bit l → IsFirstBreak g c (walks at ++ l ∷ [])
  first_break l within b =
      let here = comes g c at Any entries seen x walks w at within in
      record {
        breaks = record {
          follows = walk_join g 0 (walks at) (l ∷ []) here.follows (b.is_edge, b.leaves ∙ sym here.ends, tt);
          before = walks at;
          label = l;
          there = refl;
          is_later = b.is_later;
          wrong = λ right. opposite (right_bit c.kind) (sym (right_to c.kind c.later c.earlier c.since (walks at) right) ∙ here.has_bit ∙ b.wrong);
        };
        first = λ other o. subst (λ v. (length (walks at ++ l ∷ []) < length v) ⊎ ((length (walks at ++ l ∷ []) ≡ length v) × AreInOrder (walks at ++ l ∷ []) v)) (sym o.there)
            (comes_first (walks at ++ l ∷ []) (o.before ++ o.label ∷ []) (after o.before o.label (walk-append g 0 o.before (o.label ∷ []) (subst (Walk g 0) o.there o.follows)) o.is_later
            (other_bit (bit_after_all c false o.before) (right_bit c.kind) (λ right. o.wrong (right_from c.kind c.later c.earlier c.since o.before right)))));
      }
    where
      after : (before : List ℕ) (k : ℕ) → Walk g 0 before × Walk g (end_of g 0 before) (k ∷ []) → IsTrue (is_in k c.later) → bit_after_all c false before ≡ not (right_bit c.kind) → IsUpTo (walks at ++ l ∷ []) (before ++ k ∷ [])
      after before k p later wrong =
          elim (found before p.0) [
            | inr q ↦ inr (before_more (walks at) before l k q.1)
            | inl q ↦ elim (less_or q.0 at) [
              | inl y ↦ absurd (opposite (right_bit c.kind) (sym (x.sound q.0 y q.1 k p.1.0 (p.1.1 ∙ sym q.2) later) ∙ q.3 ∙ wrong))
              | inr m ↦ elim (at_most at q.0 m) [
                | inl same ↦ up_to_more (walks at) before l k (subst (λ j. IsUpTo (walks j) before) (sym same) q.4) (at_most l k (b.least k p.1.0 (p.1.1 ∙ sym q.2 ∙ sym (ap (λ j. (entry_at entries j).node) same)) later))
                | inr less ↦ inr (before_more (walks at) before l k (before_up_to (walks at) (walks q.0) before (walks_rise g c at Any entries seen x walks w at q.0 less q.1) q.4))
              ]
            ]
          ]
