-- The views and the open views of a role can be listed, or there are too many of them.
use Rattle.std.proofs.Common.{◌≡◌, ◌≢◌, ℕ, zero, suc, ◌+◌, ◌*◌, ◌^◌, ◌<◌, ◌≤◌, ◌==◌, nat_lt, ◌⊎◌, inl, inr, Bool, true, false, if◌then◌else◌, ◌&&◌, List, [], ◌∷◌, length, filter, Option, Some, None, refl, sym, ap, ◌∙◌, subst, arith, All, AllPairs, Contains, eq-eqb}
use Rattle.std.specs.Ordering.{is_lt, nat_cmp, ordering_then, ordering_reverse}
use Rattle.std.specs.declared.cmp.Ordering.{Ordering}
use Rattle.std.specs.declared.cmp.Ordering.TheVariants.{Less, Equal, Greater}
use Rattle.std.proofs.lemmas.Bool.{and_parts, cases_Bool, eqb-true}
use Rattle.std.proofs.lemmas.List.{get_or_default}
use Rattle.std.proofs.lemmas.List.Elements.{All-cons, All-head, All-map, All-nil, All-tail}
use Rattle.std.proofs.lemmas.List.Kept.{AllPairs-cons}
use Rattle.std.proofs.lemmas.List.Sums.{sum_by-cons}
use Rattle.std.proofs.lemmas.Slice.Eq.{bytes_eq-Decides}
use Rattle.std.proofs.Math.Nat.{pow-suc}
use Rattle.sg_model.specs.Lists.{is_in, keys_of, range_from}
use Rattle.sg_model.specs.Limits.{most_views}
use Rattle.sg_model.proofs.Numbers.{filter-range_from}
use Rattle.sg_model.proofs.Small.{same_or_not}
use Rattle.sg_protocol.specs.Evidence.{IsOpenView, IsView, IsViewTable, Seen, View, are_ordered, are_ordered_after, mask, rising, same_items, same_origin, same_view, view_before}
use Rattle.sg_protocol.specs.Graph.{Graph}
use Rattle.sg_protocol.proofs.Bridge.{has_view-Contains}
use Rattle.sg_views.specs.Limits.{FewOpen, ManyOpen, ManyViews}
use Rattle.sg_vis.specs.Order.{compared, items_compared, origin_number}
use Rattle.sg_views.specs.declared.open_view.OpenView.{OpenView}
use Rattle.sg_vis.proofs.Ordered.{before-compared, compared_total}
use Rattle.sg_compile.specs.Laws.{Surely}
use Rattle.sg_compile.proofs.Sure.{or_not, so, sure}

-- ---- elements

here_or_later : {A : Type 0} (y x : A) (ys : List A) → Contains (y ∷ ys) x → (y ≡ x) ⊎ Contains ys x
here_or_later y x ys (zero, l, e) = inl e
here_or_later y x ys (suc k, l, e) = inr (k, omega (arith, l), e)

is_first : {A : Type 0} (x y : A) (xs : List A) → x ≡ y → Contains (x ∷ xs) y
is_first x y xs e = (0, omega arith, e)

is_later : {A : Type 0} (x y : A) (xs : List A) → Contains xs y → Contains (x ∷ xs) y
is_later x y xs (k, l, e) = (suc k, omega (arith, l), e)

none_in : {A : Type 0} (x : A) → Contains [] x → ⊥
none_in x (k, l, e) = absurd (omega (arith, l))

-- a test for equality decides whether a list has an element
module _ {A : Type 0} (test : A → A → Bool) (sound : (x y : A) → test x y ≡ true → x ≡ y) (itself : (x : A) → test x x ≡ true) where
  has_or_lacks : (xs : List A) (x : A) → Contains xs x ⊎ (Contains xs x → ⊥)
  has_or_lacks [] x = inr (none_in x)
  has_or_lacks (y ∷ ys) x =
      elim (cases_Bool (test y x)) [
        | inl e ↦ inl (is_first y x ys (sound y x e))
        | inr d ↦ elim (has_or_lacks ys x) [
          | inl c ↦ inl (is_later y x ys c)
          | inr out ↦
              inr (λ c. elim (here_or_later y x ys c) [
                | inl e ↦ (let same : test y x ≡ true = subst (λ z. test y z ≡ true) e (itself y) in cc)
                | inr later ↦ out later
              ])
        ]
      ]

-- ---- lists of all elements of a kind

module _ {A : Type 0} (Such : A → Type 0) (has_or_not : (xs : List A) (x : A) → Contains xs x ⊎ (Contains xs x → ⊥)) where
  -- a list of fewer than n has all elements of a kind, or there are n different ones
  listed : (n : ℕ) → Surely (((xs : List A) × (length xs < n) × All Such xs × ((x : A) → Such x → Contains xs x)) ⊎ ((xs : List A) × (length xs ≡ n) × All Such xs × AllPairs (λ a b. a ≢ b) xs))
  listed zero = sure (inr ([], refl, All-nil Such, λ i j d l m. absurd (omega (arith, m))))
  listed (suc n) =
      so (listed n)
      (λ a. elim a [
        | inl w ↦ sure (inl (w.0, omega (arith, w.1), w.2, w.3))
        | inr w ↦
            so (or_not ((x : A) × Such x × (Contains w.0 x → ⊥)))
            (λ b. elim b [
              | inl m ↦ sure (inr (m.0 ∷ w.0, (let size = w.1 in omega (arith, size)), All-cons Such m.0 w.0 m.1 w.2, AllPairs-cons (λ a b. a ≢ b) m.0 w.0 (differs m.0 w.0 m.2) w.3))
              | inr none ↦ sure (inl (w.0, (let size = w.1 in omega (arith, size)), w.2, λ x s. elim (has_or_not w.0 x) [ inl c ↦ c | inr out ↦ absurd (none (x, s, out)) ]))
            ])
      ])
    where
      differs : (x : A) (xs : List A) → (Contains xs x → ⊥) → All (λ y. x ≢ y) xs
      differs x xs out k d l e = out (k, l, get_or_default xs k x d l ∙ sym e)

-- ---- views that are the same

same_origin_itself : (o : Option ℕ) → same_origin o o ≡ true
same_origin_itself None = refl
same_origin_itself (Some a) = eq-eqb a a refl

same_items_itself : (xs : List Seen) → same_items xs xs ≡ true
same_items_itself [] = refl
same_items_itself (x ∷ xs) =
    let label : (x.label == x.label) ≡ true = eq-eqb x.label x.label refl in
    rw (label, (bytes_eq-Decides x.delta x.delta).1 refl) (same_items_itself xs)

same_view_itself : (v : View) → same_view v v ≡ true
same_view_itself v = rw (same_origin_itself v.origin) (same_items_itself v.items)

one_view : (a b : View) → same_view a b ≡ true → a ≡ b
one_view a b h = elim (here_or_later b a [] (has_view-Contains (b ∷ []) a (rw h refl))) [ inl e ↦ sym e | inr c ↦ absurd (none_in a c) ]

abbrev same_open : OpenView → OpenView → Bool
same_open a b = (a.node == b.node) && same_view a.view b.view

one_open : (a b : OpenView) → same_open a b ≡ true → a ≡ b
one_open a b h =
    let parts = and_parts (a.node == b.node) (same_view a.view b.view) h in
    let node : a.node ≡ b.node = eqb-true a.node b.node parts.0 in
    let view : a.view ≡ b.view = one_view a.view b.view parts.1 in
    λ i. record { node = node i; view = view i }

same_open_itself : (o : OpenView) → same_open o o ≡ true
same_open_itself o = let node : (o.node == o.node) ≡ true = eq-eqb o.node o.node refl in rw node (same_view_itself o.view)

-- ---- sets that have the same mask

-- the digits of a test from a number on
abbrev digits : (ℕ → Bool) → ℕ → ℕ → ℕ
digits p i zero = 0
digits p i (suc k) = (if p i then 1 else 0) + 2 * digits p (suc i) k

mask_digits : (p : ℕ → Bool) (i k : ℕ) → mask (filter p (range_from i k)) ≡ 2 ^ i * digits p i k
mask_digits p i zero = omega arith
mask_digits p i (suc k) =
    let more : 2 ^ suc i ≡ 2 ^ i * 2 = pow-suc 2 i in
    let rest : mask (filter p (range_from (suc i) k)) ≡ 2 ^ suc i * digits p (suc i) k = mask_digits p (suc i) k in
    let rest' : mask (filter p (range_from (suc i) k)) ≡ 2 ^ i * 2 * digits p (suc i) k = rest ∙ ap (λ x. x * digits p (suc i) k) more in
    elim (cases_Bool (p i)) [
      | inl y ↦ rw y (sum_by-cons (λ x. 2 ^ x) i (filter p (range_from (suc i) k)) ∙ rw rest' (omega arith))
      | inr n ↦ rw n (rw rest' (omega arith))
    ]

same_digit : (a b : Bool) (m n : ℕ) → (if a then 1 else 0) + 2 * m ≡ (if b then 1 else 0) + 2 * n → (a ≡ b) × (m ≡ n)
same_digit true true m n h = (refl, omega (arith, h))
same_digit true false m n h = absurd (omega (arith, h))
same_digit false true m n h = absurd (omega (arith, h))
same_digit false false m n h = (refl, omega (arith, h))

same_digits : (p q : ℕ → Bool) (i k : ℕ) → digits p i k ≡ digits q i k → (x : ℕ) → i ≤ x → x < i + k → p x ≡ q x
same_digits p q i zero h x l m = absurd (omega (arith, l, m))
same_digits p q i (suc k) h x l m =
    let parts = same_digit (p i) (q i) (digits p (suc i) k) (digits q (suc i) k) h in
    elim (same_or_not x i) [
      | inl e ↦ subst (λ y. p y ≡ q y) (sym e) parts.0
      | inr d ↦ same_digits p q (suc i) k parts.1 x (omega (arith, l, d)) (omega (arith, m))
    ]

-- sets of numbers below n with one mask are the same
same_masks : (n : ℕ) (xs ys : List ℕ) → mask (rising n xs) ≡ mask (rising n ys) → rising n xs ≡ rising n ys
same_masks n xs ys h =
    let p : ℕ → Bool = λ x. is_in x xs in
    let q : ℕ → Bool = λ x. is_in x ys in
    let a : mask (rising n xs) ≡ 2 ^ 0 * digits p 0 n = mask_digits p 0 n in
    let b : mask (rising n ys) ≡ 2 ^ 0 * digits q 0 n = mask_digits q 0 n in
    filter-range_from p q 0 n (same_digits p q 0 n (omega (arith, a, b, h)))

-- ---- the order of views

AreRising : ℕ → List Seen → Type 0
AreRising n xs = All (λ (s : Seen). (ks : List ℕ) × (s.delta ≡ rising n ks)) xs

equal_numbers : (a b : ℕ) → nat_cmp a b ≡ Equal → a ≡ b
equal_numbers a b h =
    elim (cases_Bool (nat_lt a b)) [
      | inl l ↦ (let less : nat_cmp a b ≡ Less = rw l refl in cc)
      | inr n ↦ elim (cases_Bool (a == b)) [
        | inl e ↦ eqb-true a b e
        | inr d ↦ (let greater : nat_cmp a b ≡ Greater = rw (n, d) refl in cc)
      ]
    ]

both_equal : (a b : Ordering) → ordering_then a b ≡ Equal → (a ≡ Equal) × (b ≡ Equal)
both_equal Less b h = absurd (cc)
both_equal Equal b h = (refl, h)
both_equal Greater b h = absurd (cc)

equal_items : (n : ℕ) (xs ys : List Seen) → AreRising n xs → AreRising n ys → items_compared xs ys ≡ Equal → xs ≡ ys
unfolding AreRising
equal_items n [] [] a b h = refl
equal_items n [] (y ∷ ys) a b h = absurd (cc)
equal_items n (x ∷ xs) [] a b h = absurd (cc)
equal_items n (x ∷ xs) (y ∷ ys) a b h =
    let parts = both_equal (ordering_then (nat_cmp x.label y.label) (nat_cmp (mask x.delta) (mask y.delta))) (items_compared xs ys) h in
    let first = both_equal (nat_cmp x.label y.label) (nat_cmp (mask x.delta) (mask y.delta)) parts.0 in
    let label : x.label ≡ y.label = equal_numbers x.label y.label first.0 in
    let masks : mask x.delta ≡ mask y.delta = equal_numbers (mask x.delta) (mask y.delta) first.1 in
    let one = All-head (λ (s : Seen). (ks : List ℕ) × (s.delta ≡ rising n ks)) x xs a in
    let two = All-head (λ (s : Seen). (ks : List ℕ) × (s.delta ≡ rising n ks)) y ys b in
    let delta : x.delta ≡ y.delta = one.1 ∙ same_masks n one.0 two.0 (sym (ap mask one.1) ∙ masks ∙ ap mask two.1) ∙ sym two.1 in
    let rest : xs ≡ ys = equal_items n xs ys (All-tail (λ (s : Seen). (ks : List ℕ) × (s.delta ≡ rising n ks)) x xs a) (All-tail (λ (s : Seen). (ks : List ℕ) × (s.delta ≡ rising n ks)) y ys b) parts.1 in
    λ i. record { label = label i; delta = delta i } ∷ rest i

equal_origins : (o p : Option ℕ) → origin_number o ≡ origin_number p → o ≡ p
equal_origins None None e = refl
equal_origins None (Some b) e = absurd (omega (arith, e))
equal_origins (Some a) None e = absurd (omega (arith, e))
equal_origins (Some a) (Some b) e = let f : a ≡ b = omega (arith, e) in ap Some f

equal_views : (n : ℕ) (v w : View) → AreRising n v.items → AreRising n w.items → compared v w ≡ Equal → v ≡ w
equal_views n v w a b h =
    let parts = both_equal (nat_cmp (origin_number v.origin) (origin_number w.origin)) (items_compared v.items w.items) h in
    let origin : v.origin ≡ w.origin = equal_origins v.origin w.origin (equal_numbers (origin_number v.origin) (origin_number w.origin) parts.0) in
    let items : v.items ≡ w.items = equal_items n v.items w.items a b parts.1 in
    λ i. record { origin = origin i; items = items i }

-- one view stands before the other, or they are the same
abbrev Compare : View → View → Type 0
Compare v w = (view_before v w ≡ true) ⊎ (view_before w v ≡ true) ⊎ (v ≡ w)

compare : (n : ℕ) (v w : View) → AreRising n v.items → AreRising n w.items → Compare v w
compare n v w a b = by (compared v w) refl
  where
    by : (o : Ordering) → compared v w ≡ o → Compare v w
    by Less h = inl (before-compared v w ∙ ap is_lt h)
    by Equal h = inr (inr (equal_views n v w a b h))
    by Greater h = inr (inl (before-compared w v ∙ ap is_lt (compared_total.antisymm w v ∙ ap ordering_reverse h)))

-- the views that a role sees have sets of variables
sets_of : (g : Graph) (r : ℕ) (v : View) → IsView g r v → AreRising (length g.variables) v.items
unfolding AreRising
sets_of g r v h =
    subst (λ (u : View). All (λ (s : Seen). (ks : List ℕ) × (s.delta ≡ rising (length g.variables) ks)) u.items) h.seen
    (All-map (λ (s : Seen). (ks : List ℕ) × (s.delta ≡ rising (length g.variables) ks)) _ _ (λ k d l. (keys_of _, refl)))

-- ---- lists in order

-- the list has the views of another and one more, and if the other is in order so is it
record Puts (v : View) (old new : List View) : Type 0 where
  few : length new ≤ length old + 1
  has : Contains new v
  keeps : (w : View) → Contains old w → Contains new w
  only : (w : View) → Contains new w → (v ≡ w) ⊎ Contains old w
  after : (u : View) → view_before u v ≡ true → are_ordered_after u old ≡ true → are_ordered_after u new ≡ true
  ordered : are_ordered old ≡ true → are_ordered new ≡ true

put : (v : View) (ws : List View) → ((w : View) → Contains ws w → Compare v w) → (new : List View) × Puts v ws new
put v [] compares = (
  v ∷ [],
  record {
    few = omega arith;
    has = is_first v v [] refl;
    keeps = λ w c. absurd (none_in w c);
    only = λ w c. here_or_later v w [] c;
    after = λ u b o. rw b refl;
    ordered = λ o. refl;
  },
)
put v (x ∷ xs) compares =
    elim (compares x (is_first x x xs refl)) [
      | inl before ↦ (
        v ∷ x ∷ xs,
        record {
          few = omega arith;
          has = is_first v v (x ∷ xs) refl;
          keeps = λ w c. is_later v w (x ∷ xs) c;
          only = λ w c. here_or_later v w (x ∷ xs) c;
          after = λ u b o. rw (b, before) ((and_parts (view_before u x) (are_ordered_after x xs) o).1);
          ordered = λ o. rw before o;
        },
      )
      | inr (inl behind) ↦
          (let more = put v xs (λ w c. compares w (is_later x w xs c)) in (
            x ∷ more.0,
            record {
              few = (let l = more.1.few in omega (arith, l));
              has = is_later x v more.0 more.1.has;
              keeps = λ w c. elim (here_or_later x w xs c) [ inl e ↦ is_first x w more.0 e | inr d ↦ is_later x w more.0 (more.1.keeps w d) ];
              only = λ w c. elim (here_or_later x w more.0 c) [ inl e ↦ inr (is_first x w xs e) | inr d ↦ elim (more.1.only w d) [ inl e ↦ inl e | inr f ↦ inr (is_later x w xs f) ] ];
              after = λ u b o. (let parts = and_parts (view_before u x) (are_ordered_after x xs) o in rw (parts.0, more.1.after x behind parts.1) refl);
              ordered = λ o. more.1.after x behind o;
            },
          ))
      | inr (inr same) ↦ (
        x ∷ xs,
        record {
          few = omega arith;
          has = is_first x v xs (sym same);
          keeps = λ w c. c;
          only = λ w c. inr c;
          after = λ u b o. o;
          ordered = λ o. o;
        },
      )
    ]

-- views of which each two can be compared, put in order
record IsSortedOf (xs ys : List View) : Type 0 where
  few : length ys ≤ length xs
  ordered : are_ordered ys ≡ true
  keeps : (w : View) → Contains xs w → Contains ys w
  only : (w : View) → Contains ys w → Contains xs w

sorted : (xs : List View) → ((v w : View) → Contains xs v → Contains xs w → Compare v w) → (ys : List View) × IsSortedOf xs ys
sorted [] compares = ([], record { few = omega arith; ordered = refl; keeps = λ w c. c; only = λ w c. c })
sorted (x ∷ xs) compares =
    let rest = sorted xs (λ v w c d. compares v w (is_later x v xs c) (is_later x w xs d)) in
    let more = put x rest.0 (λ w c. compares x w (is_first x x xs refl) (is_later x w xs (rest.1.only w c))) in (
      more.0,
      record {
        few = (let l = more.1.few in let m = rest.1.few in omega (arith, l, m));
        ordered = more.1.ordered rest.1.ordered;
        keeps = λ w c. elim (here_or_later x w xs c) [ inl e ↦ subst (Contains more.0) e more.1.has | inr d ↦ more.1.keeps w (rest.1.keeps w d) ];
        only = λ w c. elim (more.1.only w c) [ inl e ↦ is_first x w xs e | inr d ↦ is_later x w xs (rest.1.only w d) ];
      },
    )

-- ---- the views of a role

module _ (g : Graph) (r : ℕ) where
  pub open_views : Surely (FewOpen g r ⊎ ((list : List OpenView) × ManyOpen g r list))
  open_views =
      so (listed (λ (o : OpenView). IsOpenView g r o.node o.view) (has_or_lacks same_open one_open same_open_itself) 65537)
      (λ a. elim a [
        | inl w ↦ sure (inl (record { list = w.0; few = (let l = w.1 in omega (arith, l)); each = w.3 }))
        | inr w ↦ sure (inr (w.0, record { many = w.1; different = w.3; each = w.2 }))
      ])

  table_of : (xs : List View) → All (IsView g r) xs → ((v : View) → IsView g r v → Contains xs v) → (ys : List View) × (length ys ≤ length xs) × IsViewTable g r ys
  table_of xs each whole =
      let shown : (v : View) → Contains xs v → IsView g r v = λ v c. subst (IsView g r) c.2 (each c.0 v c.1) in
      let all = sorted xs (λ v w c d. compare (length g.variables) v w (sets_of g r v (shown v c)) (sets_of g r w (shown w d))) in
      (all.0, all.1.few, record { ordered = all.1.ordered; each = λ v. ((λ c. shown v (all.1.only v c)), (λ h. all.1.keeps v (whole v h))) })

  pub table_or_many : Surely (((table : List View) × (length table ≤ most_views) × IsViewTable g r table) ⊎ ((list : List View) × ManyViews g r list))
  table_or_many =
      so (listed (IsView g r) (has_or_lacks same_view one_view same_view_itself) 4097)
      (λ a. elim a [
        | inl w ↦
            (let table = table_of w.0 w.2 w.3 in
            sure (inl (table.0, (let l = w.1 in let m = table.1 in omega (arith, l, m)), table.2)))
        | inr w ↦ sure (inr (w.0, record { many = w.1; different = w.3; each = w.2 }))
      ])
