-- A table with one row more.
use Rattle.std.proofs.Common.{◌≡◌, ◌≢◌, ℕ, ◌+◌, ◌-◌, ◌<◌, ◌≤◌, ◌==◌, nat_lt, List, [], ◌∷◌, length, get_or, insert, sym, ap, ◌∙◌, subst, inl, inr, arith, All, AllPairs, Contains, length-append, Result, Ok, Err, Some, slice_get}
use Rattle.std.specs.Result.{IfErr}
use Rattle.std.specs.Option.{IfSome}
use Rattle.std.proofs.lemmas.Option.{slice_get-get_or, get_or_from_slice_get}
use Rattle.std.specs.Ordering.{ordering_reverse}
use Rattle.std.specs.declared.cmp.Ordering.TheVariants.{Less, Equal}
use Rattle.std.proofs.lemmas.Bool.{cases_Bool}
use Rattle.std.proofs.lemmas.Bool.Decides.{nat_tests}
use Rattle.std.proofs.lemmas.Cmp.{tied_itself}
use Rattle.std.proofs.lemmas.List.{length-map, get_or-map}
use Rattle.std.proofs.lemmas.List.Edits.{length-insert, get_or-insert_below, get_or-insert_at, get_or-insert_above}
use Rattle.std.proofs.lemmas.List.Elements.{All-push, All-map}
use Rattle.std.proofs.lemmas.List.Quantifiers.{all_pairs_push}
use Rattle.sg_model.specs.Shape.{source, receiver}
use Rattle.sg_model.proofs.Small.{same_at, upto}
use Rattle.sg_protocol.specs.Graph.{Graph, shape}
use Rattle.sg_protocol.specs.Evidence.{View, IsView}
use Rattle.sg_views.specs.declared.states.State.{State}
use Rattle.sg_views.specs.declared.fault.ViewFault.{ViewFault}
use Rattle.sg_views.specs.declared.fault.ViewFault.TheVariants.{TooManyOpen, TooManyViews, OutOfMemory}
use Rattle.sg_views.specs.Limits.{Explains, FewOpen, IsFull}
use Rattle.sg_vis.specs.Order.{compared, HoldsTable, BelongsAt}
use Rattle.sg_views.specs.Search.{AreRows, Keeps, ShowsNext, ShownBelow}
use Rattle.sg_views.specs.Steps.{next_view}
use Rattle.sg_vis.specs.Table.{ShownView, Shows, views_of}
use Rattle.sg_vis.proofs.Ordered.{compared_total, absent}

-- the indices of a list with one element put in: before it, at it, behind it
data Spot (xs : ℕ) (p : ℕ) : ℕ → Type 0 where
  Before : (k : ℕ) → k < p → Spot xs p k
  Here : Spot xs p p
  Behind : (k : ℕ) → p ≤ k → k < xs → Spot xs p (k + 1)

spot : (n p k : ℕ) → k < n + 1 → p ≤ n → Spot n p k
spot n p k l m =
    elim (cases_Bool (nat_lt k p)) [
      | inl y ↦ Before k (grind (arith, nat_tests, y))
      | inr z ↦ elim (cases_Bool (k == p)) [
        | inl e ↦ (let same : k ≡ p = grind (arith, nat_tests, e) in subst (Spot n p) (sym same) Here)
        | inr d ↦
            (let one : (k - 1) + 1 ≡ k = grind (arith, nat_tests, z, d) in
            subst (Spot n p) one (Behind (k - 1) (grind (arith, nat_tests, z, d)) (grind (arith, nat_tests, z, d))))
      ]
    ]

-- a table stays in its order if a row is put where it stands
pub holds-insert : (table : List ShownView) (p : ℕ) (row : ShownView) → HoldsTable table → length table ≢ 4096 → BelongsAt table row.view p → HoldsTable (insert table p row)
holds-insert table p row h few s = record {
  ordered = λ i j d l m. pairs i j d l (spot (length table) p i (omega (arith, long, l, m)) s.within) (spot (length table) p j (omega (arith, long, m)) s.within);
  few = omega (arith, long, h.few, few);
}
  where
    long : length (insert table p row) ≡ length table + 1
    long = length-insert table p row s.within

    -- what a row behind is to the new one
    behind : (k : ℕ) (d : ShownView) → p ≤ k → k < length table → compared row.view (get_or table k d).view ≡ Less
    behind k d l m = compared_total.antisymm row.view (get_or table k d).view ∙ ap ordering_reverse (s.after k d l m)

    pairs : (i j : ℕ) (d : ShownView) → i < j → Spot (length table) p i → Spot (length table) p j → compared (get_or (insert table p row) i d).view (get_or (insert table p row) j d).view ≡ Less
    pairs i j d l (Before _ a) (Before _ b) =
        (λ t. compared (get_or-insert_below table p row d i a s.within t).view (get_or-insert_below table p row d j b s.within t).view) ∙ h.ordered i j d l (omega (arith, s.within))
    pairs i _ d l (Before _ a) Here =
        (λ t. compared (get_or-insert_below table p row d i a s.within t).view (get_or-insert_at table p row d s.within t).view) ∙ s.before i d a (omega (arith, s.within))
    pairs i _ d l (Before _ a) (Behind k b c) =
        (λ t. compared (get_or-insert_below table p row d i a s.within t).view (get_or-insert_above table p row d k b s.within t).view) ∙ h.ordered i k d (omega arith) c
    pairs _ j d l Here (Before _ b) = absurd (omega arith)
    pairs _ _ d l Here Here = absurd (omega arith)
    pairs _ _ d l Here (Behind k b c) =
        (λ t. compared (get_or-insert_at table p row d s.within t).view (get_or-insert_above table p row d k b s.within t).view) ∙ behind k d b c
    pairs _ j d l (Behind i a c) (Before _ b) = absurd (omega arith)
    pairs _ _ d l (Behind i a c) Here = absurd (omega arith)
    pairs _ _ d l (Behind i a c) (Behind j b e) =
        (λ t. compared (get_or-insert_above table p row d i a s.within t).view (get_or-insert_above table p row d j b s.within t).view) ∙ h.ordered i j d (omega arith) e

-- the views that were there are there still
pub keeps-insert : (table : List ShownView) (p : ℕ) (row : ShownView) → p ≤ length table → Keeps (views_of table) (views_of (insert table p row))
keeps-insert table p row w v h =
    let d : ShownView = record { view = v; walk = [] } in
    let l : h.0 < length table = subst (λ n. h.0 < n) (length-map table (λ (x : ShownView). x.view)) h.1 in
    let there : (get_or table h.0 d).view ≡ v = sym (get_or-map (λ (x : ShownView). x.view) table h.0 d v l) ∙ h.2 in
    elim (cases_Bool (nat_lt h.0 p)) [
      | inl y ↦ at h.0 (omega (arith, long, l)) (ap (λ (x : ShownView). x.view) (get_or-insert_below table p row d h.0 (grind (arith, nat_tests, y)) w) ∙ there)
      | inr z ↦ at (h.0 + 1) (omega (arith, long, l)) (ap (λ (x : ShownView). x.view) (get_or-insert_above table p row d h.0 (grind (arith, nat_tests, z)) w) ∙ there)
    ]
  where
    long : length (insert table p row) ≡ length table + 1
    long = length-insert table p row w

    at : (k : ℕ) → k < length (insert table p row) → (get_or (insert table p row) k (record { view = v; walk = [] })).view ≡ v → Contains (views_of (insert table p row)) v
    at k l e = (
      k,
      subst (λ n. k < n) (sym (length-map (insert table p row) (λ (x : ShownView). x.view))) l,
      get_or-map (λ (x : ShownView). x.view) (insert table p row) k (record { view = v; walk = [] }) v l ∙ e,
    )

-- and the new one is there
pub has-insert : (table : List ShownView) (p : ℕ) (row : ShownView) → p ≤ length table → Contains (views_of (insert table p row)) row.view
has-insert table p row w =
    let long : length (insert table p row) ≡ length table + 1 = length-insert table p row w in
    let l : p < length (insert table p row) = omega arith in (
      p,
      subst (λ n. p < n) (sym (length-map (insert table p row) (λ (x : ShownView). x.view))) l,
      get_or-map (λ (x : ShownView). x.view) (insert table p row) p row row.view l ∙ ap (λ (x : ShownView). x.view) (get_or-insert_at table p row row w),
    )

All-insert : {A : Type 0} (P : A → Type 0) (xs : List A) (p : ℕ) (x : A) → p ≤ length xs → All P xs → P x → All P (insert xs p x)
All-insert P xs p x w h q = λ k d l. by k d (spot (length xs) p k (omega (arith, length-insert xs p x w, l)) w)
  where
    by : (k : ℕ) (d : _) → Spot (length xs) p k → P (get_or (insert xs p x) k d)
    by k d (Before _ a) = subst P (sym (get_or-insert_below xs p x d k a w)) (h k d (omega arith))
    by _ d Here = subst P (sym (get_or-insert_at xs p x d w)) q
    by _ d (Behind k a b) = subst P (sym (get_or-insert_above xs p x d k a w)) (h k d b)

-- rows with one more that shows its view
pub rows-insert : (g : Graph) (r : ℕ) (table : List ShownView) (p : ℕ) (row : ShownView) → AreRows g r table → p ≤ length table → Shows g r row.walk row.view → HoldsTable (insert table p row) → AreRows g r (insert table p row)
rows-insert g r table p row h w s holds = record { holds = holds; shows = All-insert (λ (s : ShownView). Shows g r s.walk s.view) table p row w h.shows s }

-- a full table and one view more, if open views are few, show that there are too many views
pub explains_full : (g : Graph) (r : ℕ) (table : List ShownView) (v : View) (p : ℕ) (walk : List ℕ) (fault : ViewFault) → FewOpen g r → AreRows g r table → Shows g r walk v → BelongsAt table v p → IsFull table v fault → Explains g r fault
explains_full g r table v p walk (TooManyOpen list) few rows s at full = absurd full
explains_full g r table v p walk OutOfMemory few rows s at full = tt
explains_full g r table v p walk (TooManyViews list) few rows s at full = (
  few,
  record {
    many = ap length full.1 ∙ length-append (views_of table) (v ∷ []) ∙ omega (arith, long, full.0);
    different = subst (AllPairs (λ a b. a ≢ b)) (sym full.1) (all_pairs_push (λ a b. a ≢ b) (views_of table) v apart away);
    each = subst (All (IsView g r)) (sym full.1) (All-push (IsView g r) (views_of table) v (All-map (IsView g r) (λ (x : ShownView). x.view) table views) view);
  },
)
  where
    long : length (views_of table) ≡ length table
    long = length-map table (λ (x : ShownView). x.view)

    view : IsView g r v
    view = record { walk = walk; follows = s.follows; moves = s.moves; ends = s.ends; seen = s.seen }

    views : All (λ (x : ShownView). IsView g r x.view) table
    views = λ k d l. (let t = rows.shows k d l in record { walk = (get_or table k d).walk; follows = t.follows; moves = t.moves; ends = t.ends; seen = t.seen })

    less_apart : (a b : View) → compared a b ≡ Less → a ≢ b
    less_apart a b l e = let same : compared a b ≡ Equal = ap (compared a) (sym e) ∙ tied_itself compared_total a in absurd (cc)

    apart : AllPairs (λ a b. a ≢ b) (views_of table)
    apart i j d l m =
        let e : ShownView = record { view = d; walk = [] } in
        let m' : j < length table = subst (λ n. j < n) long m in
        let one : get_or (views_of table) i d ≡ (get_or table i e).view = get_or-map (λ (x : ShownView). x.view) table i e d (omega arith) in
        let two : get_or (views_of table) j d ≡ (get_or table j e).view = get_or-map (λ (x : ShownView). x.view) table j e d m' in
        less_apart _ _ ((λ t. compared (one t) (two t)) ∙ rows.holds.ordered i j e l m')

    away : (k : ℕ) (d : View) → k < length (views_of table) → get_or (views_of table) k d ≢ v
    away k d l e =
        let x : ShownView = record { view = v; walk = [] } in
        absent table v p at (k, l, same_at (views_of table) k v d l ∙ e)

pub if_err : {T E : Type 0} (r : Result T E) (P Q : E → Type 0) → IfErr r P → ((e : E) → P e → Q e) → IfErr r Q
if_err (Ok x) P Q h f = tt
if_err (Err e) P Q h f = f e h

-- the view behind one edge more from an index is there, if the edge leads to a node of r
pub shown-more : (g : Graph) (r : ℕ) (states : List State) (before after : List View) (at i : ℕ) (labels : List ℕ) (e : ℕ) → at < length states → Keeps before after → i < length labels → e ≡ get_or labels i e
    → (receiver (shape g) e ≡ r → IfSome (slice_get states at) (λ p. Contains after (next_view g r p.view e)))
    → ((k : ℕ) (d : State) → k < i → receiver (shape g) (get_or labels k 0) ≡ r → Contains before (next_view g r (get_or states at d).view (get_or labels k 0)))
    → (k : ℕ) (d : State) → k < i + 1 → receiver (shape g) (get_or labels k 0) ≡ r → Contains after (next_view g r (get_or states at d).view (get_or labels k 0))
shown-more g r states before after at i labels e l keeps m is here inv k d u t =
    elim (upto k i u) [
      | inl b ↦ keeps (next_view g r (get_or states at d).view (get_or labels k 0)) (inv k d b t)
      | inr b ↦
          (let label : get_or labels k 0 ≡ e = ap (λ j. get_or labels j 0) b ∙ same_at labels i 0 e m ∙ sym is in
          let there = subst (λ o. IfSome o (λ p. Contains after (next_view g r p.view e))) (slice_get-get_or states at d l) (here (ap (receiver (shape g)) (sym label) ∙ t)) in
          subst (λ f. Contains after (next_view g r (get_or states at d).view f)) (sym label) there)
    ]

-- if each label of an edge from an index is looked at, all that it shows is there
pub shown-all : (g : Graph) (r : ℕ) (states : List State) (vs : List View) (at i : ℕ) (p : State) (labels : List ℕ) → slice_get states at ≡ Some p
    → ((e : ℕ) → e < length g.edges → source (shape g) e ≡ p.node → Contains labels e) → length labels ≤ i
    → ((k : ℕ) (d : State) → k < i → receiver (shape g) (get_or labels k 0) ≡ r → Contains vs (next_view g r (get_or states at d).view (get_or labels k 0)))
    → IfSome (slice_get states at) (ShowsNext g r vs)
shown-all g r states vs at i p labels is all m inv =
    subst (λ o. IfSome o (ShowsNext g r vs)) (sym is)
    (λ e l s t.
    (let c = all e l s in
    let label : get_or labels c.0 0 ≡ e = same_at labels c.0 0 e c.1 ∙ c.2 in
    let state : get_or states at p ≡ p = get_or_from_slice_get states at p p is in
    let there = inv c.0 p (omega (arith, c.1, m)) (ap (receiver (shape g)) label ∙ t) in
    subst (λ (q : State). Contains vs (next_view g r q.view e)) state (subst (λ f. Contains vs (next_view g r (get_or states at p).view f)) label there)))

-- what the indices below a number show is there, and what one more does
pub shown-next : (g : Graph) (r : ℕ) (states : List State) (before after : List View) (n : ℕ) → Keeps before after → IfSome (slice_get states n) (ShowsNext g r after) → ShownBelow g r before states n → ShownBelow g r after states (n + 1)
shown-next g r states before after n keeps more inv i d u m =
    elim (upto i n u) [
      | inl b ↦ λ e l s t. keeps (next_view g r (get_or states i d).view e) (inv i d b m e l s t)
      | inr b ↦
          (let here = subst (λ o. IfSome o (ShowsNext g r after)) (slice_get-get_or states n d (subst (λ k. k < length states) b m)) more in
          subst (λ k. ShowsNext g r after (get_or states k d)) (sym b) here)
    ]
