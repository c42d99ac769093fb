-- What a role keeps says as much as its transcript.
use Rattle.std.specs.Prelude.{◌≡◌, ℕ, zero, suc, ◌+◌, ◌<◌, ◌≤◌, ◌==◌, ◌||◌, ◌⊎◌, true, false, List, [], ◌∷◌, ◌++◌, map, filter_map, length, refl, Some, None, option_map}
use Rattle.std.specs.List.{cons_option}
use Rattle.std.specs.Option.{option_or}
use Rattle.std.proofs.Common.{sym, ◌∙◌, ap, subst, inl, inr, arith}
use Rattle.std.proofs.lemmas.Bool.{eqb-true, cases_Bool}
use Rattle.std.proofs.lemmas.Bool.Decides.{nat_tests}
use Rattle.std.proofs.lemmas.List.{map-append}
use Rattle.sg_model.specs.Last.{Map, Entry, has, merge, carry, evidence, after_last}
use Rattle.sg_model.specs.Lists.{range_from, value_at, in_order}
use Rattle.sg_model.proofs.Small.{cases_Option, heads, tails}
use Rattle.sg_law.proofs.Com.{value_at-merge}
use Rattle.sg_protocol.specs.Graph.{Graph}
use Rattle.sg_protocol.specs.Frame.{Item}
use Rattle.sg_protocol.specs.Sending.{entry_of, item_of, shown_to, tags_left}
use Rattle.sg_protocol.specs.Kept.{kept_items}

-- ---- maps in order

-- what the map has for these variables
abbrev picks : {A : Type 0} → Map A → List ℕ → Map A
picks m xs = filter_map (λ x. option_map (λ v. (x, v)) (value_at m x)) xs

pub not_equal : (k x : ℕ) → x < k → (k == x) ≡ false
not_equal k x h = elim (cases_Bool (k == x)) [ inl e ↦ absurd (omega (arith, h, eqb-true k x e)) | inr e ↦ e ]

above : (k x : ℕ) → k ≤ x → (k == x) ≡ false → suc k ≤ x
above k x h e = grind (arith, nat_tests)

picks-out : {A : Type 0} (m : Map A) (x k j : ℕ) → x < k → value_at (picks m (range_from k j)) x ≡ None
picks-out m x k zero h = refl
picks-out m x k (suc j) h = elim (cases_Option (value_at m k)) [
  | inl e ↦ rw e (picks-out m x (suc k) j (omega (arith, h)))
  | inr e ↦ rw (e.1, not_equal k x h) (picks-out m x (suc k) j (omega (arith, h)))
]

picks-in : {A : Type 0} (m : Map A) (x k j : ℕ) → k ≤ x → x < k + j → value_at (picks m (range_from k j)) x ≡ value_at m x
picks-in m x k zero h l = absurd (omega (arith, h, l))
picks-in {A = A} m x k (suc j) h l = elim (cases_Bool (k == x)) [
  | inl e ↦ here e (cases_Option (value_at m k))
  | inr e ↦ elim (cases_Option (value_at m k)) [
    | inl o ↦ rw o (picks-in m x (suc k) j (above k x h e) (omega (arith, l)))
    | inr o ↦ rw (o.1, e) (picks-in m x (suc k) j (above k x h e) (omega (arith, l)))
  ]
]
  where
    here : (k == x) ≡ true → (value_at m k ≡ None) ⊎ ((v : A) × (value_at m k ≡ Some v)) → value_at (picks m (range_from k (suc j))) x ≡ value_at m x
    here e (inl o) = rw (o, sym (eqb-true k x e), o) (picks-out m k (suc k) j (omega arith))
    here e (inr o) = rw (o.1, e) (sym (subst (λ y. value_at m y ≡ Some o.0) (eqb-true k x e) o.1))

pub value_at-in_order : {A : Type 0} (n : ℕ) (m : Map A) (x : ℕ) → x < n → value_at (in_order n m) x ≡ value_at m x
value_at-in_order n m x h = picks-in m x 0 n (omega arith) (omega (arith, h))

picks-same : {A : Type 0} (a b : Map A) (k j : ℕ) → ((x : ℕ) → x < k + j → value_at a x ≡ value_at b x) → picks a (range_from k j) ≡ picks b (range_from k j)
picks-same a b k zero h = refl
picks-same a b k (suc j) h = rw (h k (omega arith)) (ap (cons_option (option_map (λ v. (k, v)) (value_at b k))) (picks-same a b (suc k) j (λ x l. h x (omega (arith, l)))))

pub in_order-same : {A : Type 0} (n : ℕ) (a b : Map A) → ((x : ℕ) → x < n → value_at a x ≡ value_at b x) → in_order n a ≡ in_order n b
in_order-same n a b h = picks-same a b 0 n (λ x l. h x (omega (arith, l)))

same-in_order : {A : Type 0} (n : ℕ) (a b : Map A) → in_order n a ≡ in_order n b → (x : ℕ) → x < n → value_at a x ≡ value_at b x
same-in_order n a b e x h = sym (value_at-in_order n a x h) ∙ ap (λ m. value_at m x) e ∙ value_at-in_order n b x h

pub in_order-in_order : {A : Type 0} (n : ℕ) (m : Map A) → in_order n (in_order n m) ≡ in_order n m
in_order-in_order n m = in_order-same n (in_order n m) m (λ x h. value_at-in_order n m x h)

-- ---- merged maps

in_order-merge : {A : Type 0} (n : ℕ) (a a' b b' : Map A) → in_order n a ≡ in_order n a' → in_order n b ≡ in_order n b' → in_order n (merge a b) ≡ in_order n (merge a' b')
in_order-merge n a a' b b' e f = in_order-same n (merge a b) (merge a' b') (λ x h.
    value_at-merge a b x ∙ ap (λ o. option_or o (value_at a x)) (same-in_order n b b' f x h) ∙ ap (λ o. option_or (value_at b' x) o) (same-in_order n a a' e x h) ∙ sym (value_at-merge a' b' x))

-- ---- evidence of items, up to the order of their maps

abbrev E : Type 0
E = Entry Item (List ℕ)

abbrev role_of : E → ℕ
role_of e = e.step.role

module _ (g : Graph) where
  has-items : (k : ℕ) (xs : List E) → has (λ (i : Item). i.role) k (map (item_of g) xs) ≡ has role_of k xs
  has-items k [] = refl
  has-items k (x ∷ xs) = ap (λ b. (x.step.role == k) || b) (has-items k xs)

  has-near : (k : ℕ) (xs ys : List E) → map (item_of g) xs ≡ map (item_of g) ys → has role_of k xs ≡ has role_of k ys
  has-near k xs ys e = sym (has-items k xs) ∙ ap (has (λ (i : Item). i.role) k) e ∙ has-items k ys

  carry-near : (v w : Map (List ℕ)) (xs ys : List E) → in_order (length g.variables) v ≡ in_order (length g.variables) w → map (item_of g) xs ≡ map (item_of g) ys → map (item_of g) (carry v xs) ≡ map (item_of g) (carry w ys)
  carry-near v w [] [] d e = refl
  carry-near v w [] (y ∷ ys) d e = cc
  carry-near v w (x ∷ xs) [] d e = cc
  carry-near v w (x ∷ xs) (y ∷ ys) d e =
      let hd : item_of g x ≡ item_of g y = heads (item_of g x) (item_of g y) (map (item_of g) xs) (map (item_of g) ys) e in
      let tl : map (item_of g) xs ≡ map (item_of g) ys = tails (item_of g x) (item_of g y) (map (item_of g) xs) (map (item_of g) ys) e in
      let both : in_order (length g.variables) (merge v x.writes) ≡ in_order (length g.variables) (merge w y.writes) = in_order-merge (length g.variables) v w x.writes y.writes d (ap (λ i. i.delta) hd) in
      ap (λ (i : Item). record i { delta = in_order (length g.variables) (merge v x.writes) } ∷ map (item_of g) xs) hd
      ∙ ap (λ m. record (y.step) { delta = m } ∷ map (item_of g) xs) both
      ∙ ap (λ l. item_of g (record { step = y.step; writes = merge w y.writes }) ∷ l) tl

  evidence-near : (xs ys : List E) → map (item_of g) xs ≡ map (item_of g) ys → map (item_of g) (evidence (λ i. i.role) xs) ≡ map (item_of g) (evidence (λ i. i.role) ys)
  evidence-near [] [] e = refl
  evidence-near [] (y ∷ ys) e = cc
  evidence-near (x ∷ xs) [] e = cc
  evidence-near (x ∷ xs) (y ∷ ys) e =
      let hd : item_of g x ≡ item_of g y = heads (item_of g x) (item_of g y) (map (item_of g) xs) (map (item_of g) ys) e in
      let tl : map (item_of g) xs ≡ map (item_of g) ys = tails (item_of g x) (item_of g y) (map (item_of g) xs) (map (item_of g) ys) e in
      let same : has role_of x.step.role xs ≡ has role_of y.step.role ys = ap (λ k. has role_of k xs) (ap (λ (i : Item). i.role) hd) ∙ has-near y.step.role xs ys tl in
      elim (cases_Bool (has role_of y.step.role ys)) [
        | inl h ↦ rw (same, h) (carry-near x.writes y.writes (evidence (λ i. i.role) xs) (evidence (λ i. i.role) ys) (ap (λ (i : Item). i.delta) hd) (evidence-near xs ys tl))
        | inr h ↦ rw (same, h) (ap (λ i. i ∷ map (item_of g) (evidence (λ i. i.role) xs)) hd ∙ ap (λ l. item_of g y ∷ l) (evidence-near xs ys tl))
      ]

  after_last-near : (k : ℕ) (xs ys : List E) → map (item_of g) xs ≡ map (item_of g) ys → map (item_of g) (after_last role_of k xs) ≡ map (item_of g) (after_last role_of k ys)
  after_last-near k [] [] e = refl
  after_last-near k [] (y ∷ ys) e = cc
  after_last-near k (x ∷ xs) [] e = cc
  after_last-near k (x ∷ xs) (y ∷ ys) e =
      let hd : item_of g x ≡ item_of g y = heads (item_of g x) (item_of g y) (map (item_of g) xs) (map (item_of g) ys) e in
      let tl : map (item_of g) xs ≡ map (item_of g) ys = tails (item_of g x) (item_of g y) (map (item_of g) xs) (map (item_of g) ys) e in
      let same : (x.step.role == k) ≡ (y.step.role == k) = ap (λ (i : Item). i.role == k) hd in
      rw (has-near k xs ys tl) (elim (cases_Bool (has role_of k ys)) [
        | inl h ↦ rw h (after_last-near k xs ys tl)
        | inr h ↦ rw (h, same) (elim (cases_Bool (y.step.role == k)) [ inl f ↦ rw f tl | inr f ↦ rw f e ])
      ])

  -- an item that is kept says as much as its entry
  again-near : (xs : List E) → map (item_of g) (map entry_of (map (item_of g) xs)) ≡ map (item_of g) xs
  again-near [] = refl
  again-near (x ∷ xs) = ap (λ m. record (x.step) { delta = m } ∷ map (item_of g) (map entry_of (map (item_of g) xs))) (in_order-in_order (length g.variables) x.writes)
      ∙ ap (λ l. item_of g x ∷ l) (again-near xs)

-- from the two laws of evidence
module _ (again : (xs ys : List E) → evidence (λ (i : Item). i.role) (evidence (λ (i : Item). i.role) xs ++ ys) ≡ evidence (λ (i : Item). i.role) (xs ++ ys))
    (cut : (k : ℕ) (xs : List E) → after_last role_of k (evidence (λ (i : Item). i.role) xs) ≡ evidence (λ (i : Item). i.role) (after_last role_of k xs))
    (g : Graph) (items more : List Item) where
  entries-near : map (item_of g) (map entry_of (kept_items g items ++ more)) ≡ map (item_of g) (evidence (λ (i : Item). i.role) (map entry_of items) ++ map entry_of more)
  entries-near = ap (map (item_of g)) (map-append entry_of (kept_items g items) more)
      ∙ map-append (item_of g) (map entry_of (kept_items g items)) (map entry_of more)
      ∙ ap (λ l. l ++ map (item_of g) (map entry_of more)) (again-near g (evidence (λ (i : Item). i.role) (map entry_of items)))
      ∙ sym (map-append (item_of g) (evidence (λ (i : Item). i.role) (map entry_of items)) (map entry_of more))

  -- what is kept of what is kept and more is what is kept of all
  pub kept-kept : kept_items g (kept_items g items ++ more) ≡ kept_items g (items ++ more)
  kept-kept = evidence-near g (map entry_of (kept_items g items ++ more)) (evidence (λ (i : Item). i.role) (map entry_of items) ++ map entry_of more) entries-near
      ∙ ap (map (item_of g)) (again (map entry_of items) (map entry_of more) ∙ ap (evidence (λ (i : Item). i.role)) (sym (map-append entry_of items more)))

  -- what is shown of what is kept and more is what is shown of all
  pub shown_to-kept : (r : ℕ) → shown_to g r (kept_items g items ++ more) ≡ shown_to g r (items ++ more)
  shown_to-kept r = ap tags_left (
      evidence-near g (after_last role_of r (map entry_of (kept_items g items ++ more))) (after_last role_of r (evidence (λ (i : Item). i.role) (map entry_of items) ++ map entry_of more))
      (after_last-near g r (map entry_of (kept_items g items ++ more)) (evidence (λ (i : Item). i.role) (map entry_of items) ++ map entry_of more) entries-near)
      ∙ ap (map (item_of g)) (
      sym (cut r (evidence (λ (i : Item). i.role) (map entry_of items) ++ map entry_of more))
      ∙ ap (after_last role_of r) (again (map entry_of items) (map entry_of more))
      ∙ cut r (map entry_of items ++ map entry_of more)
      ∙ ap (λ l. evidence (λ (i : Item). i.role) (after_last role_of r l)) (sym (map-append entry_of items more))))
