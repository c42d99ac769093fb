-- The order of views.
use Rattle.std.proofs.Common.{◌≡◌, ℕ, zero, suc, ◌+◌, ◌<◌, ◌≤◌, ◌==◌, nat_lt, true, false, List, [], ◌∷◌, length, get_or, drop, ◌⊎◌, Option, Some, None, refl, sym, ap, ◌∙◌, subst, inl, inr, arith, IsTrue, AllPairs, Contains, slice_get}
use Rattle.std.specs.Cmp.{IsTotalOrder}
use Rattle.std.specs.Ordering.{nat_cmp, ordering_then, ordering_reverse, is_lt}
use Rattle.std.specs.declared.cmp.Ordering.{Ordering}
use Rattle.std.specs.declared.cmp.Ordering.TheVariants.{Less, Equal, Greater}
use Rattle.std.proofs.lemmas.Cmp.{nat_cmp_total, on_total, then_total, lists_total, tied_itself}
use Rattle.std.proofs.lemmas.List.{length-map, get_or-map}
use Rattle.std.proofs.lemmas.Option.{slice_get-get_or}
use Rattle.std.proofs.lemmas.Bool.{cases_Bool}
use Rattle.std.proofs.lemmas.Bool.Decides.{nat_tests}
use Rattle.sg_model.proofs.Small.{same_at, upto}
use Rattle.sg_protocol.specs.Evidence.{Seen, View, mask, same_origin, origin_before, items_before, view_before, are_ordered, are_ordered_after}
use Rattle.sg_vis.specs.Order.{BelongsAt, origin_number, seen_compared, items_compared, compared}
use Rattle.sg_vis.specs.Table.{ShownView, views_of}

seen_total : IsTotalOrder seen_compared
seen_total = then_total (on_total (λ (s : Seen). s.label) nat_cmp_total) (on_total (λ (s : Seen). mask s.delta) nat_cmp_total)

-- the order of views is total
pub compared_total : IsTotalOrder compared
compared_total = then_total (on_total (λ (v : View). origin_number v.origin) nat_cmp_total) (on_total (λ (v : View). v.items) (lists_total seen_total))

-- what a comparison of numbers answers
nat_same : (a b : ℕ) → (a == b) ≡ true → nat_cmp a b ≡ Equal
nat_same a b e = let out : nat_lt a b ≡ false = grind (arith, nat_tests) in rw (out, e) refl

lt-cmp : (a b : ℕ) → is_lt (nat_cmp a b) ≡ nat_lt a b
lt-cmp a b =
    elim (cases_Bool (nat_lt a b)) [
      | inl l ↦ rw l refl
      | inr l ↦ rw l (elim (cases_Bool (a == b)) [ inl e ↦ rw e refl | inr e ↦ rw e refl ])
    ]

-- numbers that differ decide
then-apart : (a b : ℕ) (o : Ordering) → (a == b) ≡ false → ordering_then (nat_cmp a b) o ≡ nat_cmp a b
then-apart a b o e =
    elim (cases_Bool (nat_lt a b)) [
      | inl l ↦ rw l refl
      | inr l ↦ rw (l, e) refl
    ]

-- one list of items comes before another exactly if the comparison says so
before-items : (xs ys : List Seen) → items_before xs ys ≡ is_lt (items_compared xs ys)
before-items [] [] = refl
before-items (x ∷ xs) [] = refl
before-items [] (y ∷ ys) = refl
before-items (x ∷ xs) (y ∷ ys) =
    elim (cases_Bool (x.label == y.label)) [
      | inl e ↦ elim (cases_Bool (mask x.delta == mask y.delta)) [
        | inl f ↦
            (let whole : items_compared (x ∷ xs) (y ∷ ys) ≡ items_compared xs ys =
            ap (λ o. ordering_then (ordering_then o (nat_cmp (mask x.delta) (mask y.delta))) (items_compared xs ys)) (nat_same x.label y.label e)
            ∙ ap (λ o. ordering_then o (items_compared xs ys)) (nat_same (mask x.delta) (mask y.delta) f) in
            let left : items_before (x ∷ xs) (y ∷ ys) ≡ items_before xs ys = rw (e, f) refl in
            left ∙ before-items xs ys ∙ sym (ap is_lt whole))
        | inr f ↦
            (let whole : items_compared (x ∷ xs) (y ∷ ys) ≡ nat_cmp (mask x.delta) (mask y.delta) =
            ap (λ o. ordering_then (ordering_then o (nat_cmp (mask x.delta) (mask y.delta))) (items_compared xs ys)) (nat_same x.label y.label e)
            ∙ then-apart (mask x.delta) (mask y.delta) (items_compared xs ys) f in
            let left : items_before (x ∷ xs) (y ∷ ys) ≡ nat_lt (mask x.delta) (mask y.delta) = rw (e, f) refl in
            left ∙ sym (lt-cmp (mask x.delta) (mask y.delta)) ∙ sym (ap is_lt whole))
      ]
      | inr e ↦
          (let whole : items_compared (x ∷ xs) (y ∷ ys) ≡ nat_cmp x.label y.label =
          ap (λ o. ordering_then o (items_compared xs ys)) (then-apart x.label y.label (nat_cmp (mask x.delta) (mask y.delta)) e)
          ∙ then-apart x.label y.label (items_compared xs ys) e in
          let left : items_before (x ∷ xs) (y ∷ ys) ≡ nat_lt x.label y.label = rw e refl in
          left ∙ sym (lt-cmp x.label y.label) ∙ sym (ap is_lt whole))
    ]

same_number : (o p : Option ℕ) → same_origin o p ≡ (origin_number o == origin_number p)
same_number None None = refl
same_number None (Some b) = grind (arith, nat_tests)
same_number (Some a) None = grind (arith, nat_tests)
same_number (Some a) (Some b) = grind (arith, nat_tests)

before_number : (o p : Option ℕ) → origin_before o p ≡ nat_lt (origin_number o) (origin_number p)
before_number None None = refl
before_number (Some a) None = grind (arith, nat_tests)
before_number None (Some b) = grind (arith, nat_tests)
before_number (Some a) (Some b) = grind (arith, nat_tests)

-- one view comes before another exactly if the comparison says so
pub before-compared : (a b : View) → view_before a b ≡ is_lt (compared a b)
before-compared a b =
    elim (cases_Bool (origin_number a.origin == origin_number b.origin)) [
      | inl e ↦
          (let same : same_origin a.origin b.origin ≡ true = same_number a.origin b.origin ∙ e in
          let left : view_before a b ≡ items_before a.items b.items = rw same refl in
          left ∙ before-items a.items b.items ∙ sym (ap (λ o. is_lt (ordering_then o (items_compared a.items b.items))) (nat_same (origin_number a.origin) (origin_number b.origin) e)))
      | inr e ↦
          (let same : same_origin a.origin b.origin ≡ false = same_number a.origin b.origin ∙ e in
          let left : view_before a b ≡ origin_before a.origin b.origin = rw same refl in
          left ∙ before_number a.origin b.origin ∙ sym (lt-cmp (origin_number a.origin) (origin_number b.origin))
          ∙ sym (ap is_lt (then-apart (origin_number a.origin) (origin_number b.origin) (items_compared a.items b.items) e)))
    ]

-- views of which each comes before each later one are in order
pub ordered : (table : List ShownView) → AllPairs (λ a b. compared a.view b.view ≡ Less) table → IsTrue (are_ordered (views_of table))
ordered [] h = refl
ordered (s ∷ ss) h = after s ss h
  where
    after : (s : ShownView) (ss : List ShownView) → AllPairs (λ a b. compared a.view b.view ≡ Less) (s ∷ ss) → are_ordered_after s.view (views_of ss) ≡ true
    after s [] h = refl
    after s (t ∷ ts) h =
        let first : view_before s.view t.view ≡ true = before-compared s.view t.view ∙ ap is_lt (h 0 1 s (omega arith) (omega arith)) in
        rw first (after t ts (λ i j d l m. h (suc i) (suc j) d (omega arith) (omega arith)))

cmp-suc : (a b : ℕ) → nat_cmp (suc a) (suc b) ≡ nat_cmp a b
cmp-suc a b =
    let l : nat_lt (suc a) (suc b) ≡ nat_lt a b = grind (arith, nat_tests) in
    let e : (suc a == suc b) ≡ (a == b) = grind (arith, nat_tests) in
    rw (l, e) refl

-- if one of the lists has ended, their lengths decide
pub ended : (at : ℕ) (xs ys : List Seen) → at ≤ length xs → at ≤ length ys → (length xs ≤ at) ⊎ (length ys ≤ at)
    → items_compared (drop at xs) (drop at ys) ≡ nat_cmp (length xs) (length ys)
ended zero [] [] l m d = refl
ended zero [] (y ∷ ys) l m d = let less : nat_lt 0 (suc (length ys)) ≡ true = grind (arith, nat_tests) in rw less refl
ended zero (x ∷ xs) [] l m d =
    let less : nat_lt (suc (length xs)) 0 ≡ false = grind (arith, nat_tests) in
    let apart : (suc (length xs) == 0) ≡ false = grind (arith, nat_tests) in
    rw (less, apart) refl
ended zero (x ∷ xs) (y ∷ ys) l m (inl d) = absurd (omega arith)
ended zero (x ∷ xs) (y ∷ ys) l m (inr d) = absurd (omega arith)
ended (suc at) [] ys l m d = absurd (omega arith)
ended (suc at) (x ∷ xs) [] l m d = absurd (omega arith)
ended (suc at) (x ∷ xs) (y ∷ ys) l m (inl d) = ended at xs ys (omega arith) (omega arith) (inl (omega arith)) ∙ sym (cmp-suc (length xs) (length ys))
ended (suc at) (x ∷ xs) (y ∷ ys) l m (inr d) = ended at xs ys (omega arith) (omega arith) (inr (omega arith)) ∙ sym (cmp-suc (length xs) (length ys))

-- if a row comes before a view, so do those before it
pub less_upto : (table : List ShownView) (v : View) (m : ℕ) (s : ShownView) → AllPairs (λ a b. compared a.view b.view ≡ Less) table → m < length table → s ≡ get_or table m s
    → compared s.view v ≡ Less → (k : ℕ) (d : ShownView) → k < m + 1 → compared (get_or table k d).view v ≡ Less
less_upto table v m s h l e less k d u =
    let at : get_or table m d ≡ s = same_at table m d s l ∙ sym e in
    elim (upto k m u) [
      | inl b ↦ compared_total.trans (get_or table k d).view s.view v (subst (λ (x : ShownView). compared (get_or table k d).view x.view ≡ Less) at (h k m d b l)) less
      | inr b ↦ ap (λ i. compared (get_or table i d).view v) b ∙ ap (λ (x : ShownView). compared x.view v) at ∙ less
    ]

-- if a row comes after a view, so do those after it
pub more_from : (table : List ShownView) (v : View) (m : ℕ) (s : ShownView) → AllPairs (λ a b. compared a.view b.view ≡ Less) table → m < length table → s ≡ get_or table m s
    → compared s.view v ≡ Greater → (k : ℕ) (d : ShownView) → m ≤ k → k < length table → compared (get_or table k d).view v ≡ Greater
more_from table v m s h l e more k d u w =
    let at : get_or table m d ≡ s = same_at table m d s l ∙ sym e in
    let back : compared v s.view ≡ Less = compared_total.antisymm v s.view ∙ ap ordering_reverse more in
    elim (from k m u) [
      | inl b ↦
          (let on : compared s.view (get_or table k d).view ≡ Less = subst (λ (x : ShownView). compared x.view (get_or table k d).view ≡ Less) at (h m k d b w) in
          compared_total.antisymm (get_or table k d).view v ∙ ap ordering_reverse (compared_total.trans v s.view (get_or table k d).view back on))
      | inr b ↦ ap (λ i. compared (get_or table i d).view v) b ∙ ap (λ (x : ShownView). compared x.view v) at ∙ more
    ]
  where
    from : (k m : ℕ) → m ≤ k → (m < k) ⊎ (k ≡ m)
    from k m u = elim (cases_Bool (nat_lt m k)) [ inl y ↦ inl (grind (arith, nat_tests, y)) | inr n ↦ inr (grind (arith, nat_tests, n)) ]

-- the view of a row
pub view_at : (table : List ShownView) (m : ℕ) (s : ShownView) (v : View) → m < length table → s ≡ get_or table m s → s.view ≡ v → slice_get (views_of table) m ≡ Some v
view_at table m s v l e f =
    let l' : m < length (views_of table) = subst (λ n. m < n) (sym (length-map table (λ (x : ShownView). x.view))) l in
    slice_get-get_or (views_of table) m v l' ∙ ap Some (get_or-map (λ (x : ShownView). x.view) table m s v l ∙ ap (λ (x : ShownView). x.view) (sym e) ∙ f)

-- no view of a table is one that would stand between its views
pub absent : (table : List ShownView) (v : View) (i : ℕ) → BelongsAt table v i → ¬ Contains (views_of table) v
absent table v i s h =
    let d : ShownView = record { view = v; walk = [] } in
    let l : h.0 < length table = subst (λ n. h.0 < n) (length-map table (λ (x : ShownView). x.view)) h.1 in
    let same : (get_or table h.0 d).view ≡ v = sym (get_or-map (λ (x : ShownView). x.view) table h.0 d v l) ∙ h.2 in
    let equal : compared (get_or table h.0 d).view v ≡ Equal = ap (λ w. compared w v) same ∙ tied_itself compared_total v in
    elim (cases_Bool (nat_lt h.0 i)) [
      | inl y ↦ (let less = s.before h.0 d (grind (arith, nat_tests, y)) l in absurd (cc))
      | inr n ↦ (let more = s.after h.0 d (grind (arith, nat_tests, n)) l in absurd (cc))
    ]
