-- What items reduce to: the last of each role with what was written since the one before, and with its tags for roles that have no later item.
use Rattle.std.specs.Prelude.{◌≡◌, ℕ, ◌<◌, ◌==◌, ◌||◌, ◌⊎◌, Bool, true, false, not, if◌then◌else◌, List, [], ◌∷◌, ◌++◌, map, filter, length, refl}
use Rattle.std.specs.Option.{option_or}
use Rattle.std.proofs.Common.{sym, ◌∙◌, ap, subst, inl, inr, append-nil}
use Rattle.std.proofs.lemmas.Bool.{cases_Bool, eqb-true}
use Rattle.std.proofs.lemmas.List.Elements.{filter_agree}
use Rattle.sg_model.specs.Last.{Map, Entry, merge, has, after_last, carry, evidence}
use Rattle.sg_model.specs.Lists.{value_at, in_order}
use Rattle.sg_model.proofs.Small.{or_assoc, clash}
use Rattle.sg_protocol.specs.Graph.{Graph}
use Rattle.sg_protocol.specs.Frame.{Item}
use Rattle.sg_protocol.specs.Session.{committed}
use Rattle.sg_protocol.specs.Sending.{entry_of, item_of, tags_left, shown_to}
use Rattle.sg_protocol.proofs.KeptLaws.{value_at-in_order, in_order-in_order, in_order-same}
use Rattle.sg_law.proofs.Com.{value_at-merge, option_or-assoc}

-- the role of an item
abbrev pub by_role : Item → ℕ
by_role i = i.role

-- an element of the first list or of the second
pub has-both : (k : ℕ) (xs ys : List Item) → has by_role k (xs ++ ys) ≡ (has by_role k xs || has by_role k ys)
has-both k [] ys = refl
has-both k (x ∷ xs) ys = ap (λ b. (x.role == k) || b) (has-both k xs ys) ∙ or_assoc (x.role == k) (has by_role k xs) (has by_role k ys)

or_true : (a b : Bool) → a ≡ true → (a || b) ≡ true
or_true true b h = refl
or_true false b h = absurd (cc)

filter-filter : {A : Type 0} (p q r : A → Bool) → ((x : A) → r x ≡ true → (p x ≡ true) × (q x ≡ true)) → ((x : A) → p x ≡ true → q x ≡ true → r x ≡ true) → (xs : List A) → filter q (filter p xs) ≡ filter r xs
filter-filter p q r f h [] = refl
filter-filter p q r f h (x ∷ xs) = elim (cases_Bool (p x)) [
  | inl a ↦ elim (cases_Bool (q x)) [
    | inl b ↦ rw (a, b, h x a b) (ap (λ l. x ∷ l) (filter-filter p q r f h xs))
    | inr b ↦ rw (a, b, not_r (cases_Bool (r x)) (λ e. clash (q x) (f x e).1 b)) (filter-filter p q r f h xs)
  ]
  | inr a ↦ rw (a, not_r (cases_Bool (r x)) (λ e. clash (p x) (f x e).0 a)) (filter-filter p q r f h xs)
]
  where
    not_r : (r x ≡ true) ⊎ (r x ≡ false) → (r x ≡ true → ⊥) → r x ≡ false
    not_r (inl e) k = absurd (k e)
    not_r (inr e) k = e

-- the tags for roles that have no item in a list
abbrev pub tags_but : List Item → Map (List ℕ) → Map (List ℕ)
tags_but xs ts = filter (λ (t : ℕ × List ℕ). not (has by_role t.0 xs)) ts

tags_but-same : (xs ys : List Item) → ((k : ℕ) → has by_role k xs ≡ has by_role k ys) → (ts : Map (List ℕ)) → tags_but xs ts ≡ tags_but ys ts
tags_but-same xs ys e ts = filter_agree (λ (t : ℕ × List ℕ). not (has by_role t.0 xs)) (λ (t : ℕ × List ℕ). not (has by_role t.0 ys)) (λ t. ap not (e t.0)) ts

tags_but-both : (xs ys zs : List Item) → ((k : ℕ) → has by_role k zs ≡ (has by_role k xs || has by_role k ys)) → (ts : Map (List ℕ)) → tags_but zs (tags_but xs ts) ≡ tags_but zs ts
tags_but-both xs ys zs e ts = filter-filter (λ (t : ℕ × List ℕ). not (has by_role t.0 xs)) (λ (t : ℕ × List ℕ). not (has by_role t.0 zs)) (λ (t : ℕ × List ℕ). not (has by_role t.0 zs))
    (λ t h. (first (has by_role t.0 xs) (has by_role t.0 ys) (ap not (sym (e t.0)) ∙ h), h)) (λ t a b. b) ts
  where
    first : (a b : Bool) → not (a || b) ≡ true → not a ≡ true
    first true b h = h
    first false b h = refl

module _ (g : Graph) where
  -- the first item takes over what was written before it
  abbrev pub lead : Map (List ℕ) → List Item → List Item
  lead d [] = []
  lead d (y ∷ ys) = record y { delta = in_order (length g.variables) (merge d y.delta) } ∷ ys

  -- an item that later items follow
  abbrev pub left_by : List Item → Item → Item
  left_by xs i = record i { delta = in_order (length g.variables) i.delta; tags = tags_but xs i.tags }

  abbrev pub reduced : List Item → List Item
  reduced [] = []
  reduced (i ∷ xs) = if has by_role i.role xs then lead i.delta (reduced xs) else (left_by xs i ∷ reduced xs)

  has-lead : (k : ℕ) (d : Map (List ℕ)) (xs : List Item) → has by_role k (lead d xs) ≡ has by_role k xs
  has-lead k d [] = refl
  has-lead k d (x ∷ xs) = refl

  -- where an item's role stands again, it may be left out
  same_role : (i : Item) (k : ℕ) (xs : List Item) → ((i.role == k) ≡ true) ⊎ ((i.role == k) ≡ false) → has by_role i.role xs ≡ true → has by_role k xs ≡ ((i.role == k) || has by_role k xs)
  same_role i k xs (inl h) e = rw h (subst (λ z. has by_role z xs ≡ true) (eqb-true i.role k h) e)
  same_role i k xs (inr h) e = rw h refl

  pub has-reduced : (k : ℕ) (xs : List Item) → has by_role k (reduced xs) ≡ has by_role k xs
  has-reduced k [] = refl
  has-reduced k (i ∷ xs) = elim (cases_Bool (has by_role i.role xs)) [
    | inl e ↦ rw e (has-lead k i.delta (reduced xs) ∙ has-reduced k xs ∙ same_role i k xs (cases_Bool (i.role == k)) e)
    | inr e ↦ rw e (ap (λ b. (i.role == k) || b) (has-reduced k xs))
  ]

  -- what the written maps have
  merge_twice : (d e w : Map (List ℕ)) → in_order (length g.variables) (merge (in_order (length g.variables) (merge d e)) w) ≡ in_order (length g.variables) (merge d (in_order (length g.variables) (merge e w)))
  merge_twice d e w = in_order-same (length g.variables) (merge (in_order (length g.variables) (merge d e)) w) (merge d (in_order (length g.variables) (merge e w))) (λ x h.
      value_at-merge (in_order (length g.variables) (merge d e)) w x
      ∙ ap (option_or (value_at w x)) (value_at-in_order (length g.variables) (merge d e) x h ∙ value_at-merge d e x)
      ∙ sym (option_or-assoc (value_at w x) (value_at e x) (value_at d x))
      ∙ ap (λ o. option_or o (value_at d x)) (sym (value_at-in_order (length g.variables) (merge e w) x h ∙ value_at-merge e w x))
      ∙ sym (value_at-merge d (in_order (length g.variables) (merge e w)) x))

  merge_in_order : (d w : Map (List ℕ)) → in_order (length g.variables) (merge (in_order (length g.variables) d) w) ≡ in_order (length g.variables) (merge d w)
  merge_in_order d w = in_order-same (length g.variables) (merge (in_order (length g.variables) d) w) (merge d w) (λ x h.
      value_at-merge (in_order (length g.variables) d) w x ∙ ap (option_or (value_at w x)) (value_at-in_order (length g.variables) d x h) ∙ sym (value_at-merge d w x))

  merge_last : (d w : Map (List ℕ)) → in_order (length g.variables) (in_order (length g.variables) (merge d w)) ≡ in_order (length g.variables) (merge d (in_order (length g.variables) w))
  merge_last d w = in_order-in_order (length g.variables) (merge d w) ∙ in_order-same (length g.variables) (merge d w) (merge d (in_order (length g.variables) w)) (λ x h.
      value_at-merge d w x ∙ ap (λ o. option_or o (value_at d x)) (sym (value_at-in_order (length g.variables) w x h)) ∙ sym (value_at-merge d (in_order (length g.variables) w) x))

  pub lead-lead : (d e : Map (List ℕ)) (xs : List Item) → lead (in_order (length g.variables) (merge d e)) xs ≡ lead d (lead e xs)
  lead-lead d e [] = refl
  lead-lead d e (x ∷ xs) = ap (λ m. record x { delta = m } ∷ xs) (merge_twice d e x.delta)

  pub lead-in_order : (d : Map (List ℕ)) (xs : List Item) → lead (in_order (length g.variables) d) xs ≡ lead d xs
  lead-in_order d [] = refl
  lead-in_order d (x ∷ xs) = ap (λ m. record x { delta = m } ∷ xs) (merge_in_order d x.delta)

  -- what leads a list leads what it reduces to
  reduced-lead : (d : Map (List ℕ)) (z : Item) (zs : List Item) → reduced (lead d (z ∷ zs)) ≡ lead d (reduced (z ∷ zs))
  reduced-lead d z zs = elim (cases_Bool (has by_role z.role zs)) [
    | inl e ↦ rw e (lead-lead d z.delta (reduced zs))
    | inr e ↦ rw e (ap (λ m. record z { delta = m; tags = tags_but zs z.tags } ∷ reduced zs) (merge_last d z.delta))
  ]

  -- reduced and more
  pub reduced_again : (xs ys : List Item) → reduced (reduced xs ++ ys) ≡ reduced (xs ++ ys)
  reduced_again [] ys = refl
  reduced_again (i ∷ xs) ys = elim (cases_Bool (has by_role i.role xs)) [
    | inl e ↦ rw (e, has-both i.role xs ys ∙ or_true (has by_role i.role xs) (has by_role i.role ys) e) (led (reduced xs) (has-reduced i.role xs ∙ e) ∙ ap (lead i.delta) (reduced_again xs ys))
    | inr e ↦ rw e (same (reduced_again xs ys) (cases_Bool (has by_role i.role (xs ++ ys))))
  ]
    where
      led : (zs : List Item) → has by_role i.role zs ≡ true → reduced (lead i.delta zs ++ ys) ≡ lead i.delta (reduced (zs ++ ys))
      led [] h = absurd (cc)
      led (z ∷ zs) h = reduced-lead i.delta z (zs ++ ys)

      has_same : (k : ℕ) → has by_role k (reduced xs ++ ys) ≡ has by_role k (xs ++ ys)
      has_same k = has-both k (reduced xs) ys ∙ ap (λ b. b || has by_role k ys) (has-reduced k xs) ∙ sym (has-both k xs ys)

      same : reduced (reduced xs ++ ys) ≡ reduced (xs ++ ys) → (has by_role i.role (xs ++ ys) ≡ true) ⊎ (has by_role i.role (xs ++ ys) ≡ false) → reduced (left_by xs i ∷ (reduced xs ++ ys)) ≡ reduced (i ∷ (xs ++ ys))
      same ih (inl h) = rw (has_same i.role ∙ h, h) (lead-in_order i.delta (reduced (reduced xs ++ ys)) ∙ ap (lead i.delta) ih)
      same ih (inr h) = rw (has_same i.role ∙ h, h) (
          ap (λ m. record i { delta = m; tags = tags_but (reduced xs ++ ys) (tags_but xs i.tags) } ∷ reduced (reduced xs ++ ys)) (in_order-in_order (length g.variables) i.delta)
          ∙ ap (λ m. record i { delta = in_order (length g.variables) i.delta; tags = m } ∷ reduced (reduced xs ++ ys)) (tags_but-same (reduced xs ++ ys) (xs ++ ys) has_same (tags_but xs i.tags) ∙ tags_but-both xs ys (xs ++ ys) (λ k. has-both k xs ys) i.tags)
          ∙ ap (λ l. left_by (xs ++ ys) i ∷ l) ih)

  pub reduced_twice : (xs : List Item) → reduced (reduced xs) ≡ reduced xs
  reduced_twice xs = ap reduced (sym (append-nil (reduced xs))) ∙ reduced_again xs [] ∙ ap reduced (append-nil xs)

  -- and before what was reduced
  pub reduced_after : (xs ys : List Item) → reduced (xs ++ reduced ys) ≡ reduced (xs ++ ys)
  reduced_after [] ys = reduced_twice ys
  reduced_after (i ∷ xs) ys =
      let has_same : (k : ℕ) → has by_role k (xs ++ reduced ys) ≡ has by_role k (xs ++ ys) = λ k. has-both k xs (reduced ys) ∙ ap (λ b. has by_role k xs || b) (has-reduced k ys) ∙ sym (has-both k xs ys) in
      elim (cases_Bool (has by_role i.role (xs ++ ys))) [
        | inl e ↦ rw (has_same i.role ∙ e, e) (ap (lead i.delta) (reduced_after xs ys))
        | inr e ↦ rw (has_same i.role ∙ e, e) (ap (λ m. record i { delta = in_order (length g.variables) i.delta; tags = m } ∷ reduced (xs ++ reduced ys)) (tags_but-same (xs ++ reduced ys) (xs ++ ys) has_same i.tags) ∙ ap (λ l. left_by (xs ++ ys) i ∷ l) (reduced_after xs ys))
      ]

  -- the part after the last of a role
  after_none : (k : ℕ) (xs : List Item) → has by_role k xs ≡ false → after_last by_role k xs ≡ xs
  after_none k [] h = refl
  after_none k (x ∷ xs) h = elim (cases_Bool (x.role == k)) [ inl e ↦ absurd (let f : true ≡ false = rw e at h in cc) | inr e ↦ (let h' : has by_role k xs ≡ false = rw e at h in rw (h', e) refl) ]

  after_lead : (k : ℕ) (d : Map (List ℕ)) (xs : List Item) → has by_role k xs ≡ true → after_last by_role k (lead d xs) ≡ after_last by_role k xs
  after_lead k d [] h = absurd (cc)
  after_lead k d (x ∷ xs) h = elim (cases_Bool (has by_role k xs)) [
    | inl e ↦ rw e refl
    | inr e ↦ elim (cases_Bool (x.role == k)) [ inl f ↦ rw (e, f) refl | inr f ↦ absurd (let q : false ≡ true = rw (f, e) at h in cc) ]
  ]

  pub after_reduced : (k : ℕ) (xs : List Item) → after_last by_role k (reduced xs) ≡ reduced (after_last by_role k xs)
  after_reduced k [] = refl
  after_reduced k (i ∷ xs) = elim (cases_Bool (has by_role k xs)) [
    | inl e ↦ rw e (later e (cases_Bool (has by_role i.role xs)) ∙ after_reduced k xs)
    | inr e ↦ rw e (first e (cases_Bool (i.role == k)))
  ]
    where
      later : has by_role k xs ≡ true → (has by_role i.role xs ≡ true) ⊎ (has by_role i.role xs ≡ false) → after_last by_role k (reduced (i ∷ xs)) ≡ after_last by_role k (reduced xs)
      later e (inl h) = rw h (after_lead k i.delta (reduced xs) (has-reduced k xs ∙ e))
      later e (inr h) = rw (h, has-reduced k xs ∙ e) refl

      first : has by_role k xs ≡ false → ((i.role == k) ≡ true) ⊎ ((i.role == k) ≡ false) → after_last by_role k (reduced (i ∷ xs)) ≡ reduced (if i.role == k then xs else i ∷ xs)
      first e (inl h) =
          let none : has by_role i.role xs ≡ false = subst (λ z. has by_role z xs ≡ false) (sym (eqb-true i.role k h)) e in
          rw (h, none, has-reduced k xs ∙ e) (rw h refl)
      first e (inr h) = rw h (after_none k (reduced (i ∷ xs)) (has-reduced k (i ∷ xs) ∙ rw (h, e) refl))

  -- ---- what is shown is reduced

  abbrev E : Type 0
  E = Entry Item (List ℕ)

  has_entries : (k : ℕ) (xs : List Item) → has (λ (e : E). e.step.role) k (map entry_of xs) ≡ has by_role k xs
  has_entries k [] = refl
  has_entries k (x ∷ xs) = ap (λ b. (x.role == k) || b) (has_entries k xs)

  after_entries : (k : ℕ) (xs : List Item) → after_last (λ (e : E). e.step.role) k (map entry_of xs) ≡ map entry_of (after_last by_role k xs)
  after_entries k [] = refl
  after_entries k (x ∷ xs) = elim (cases_Bool (has by_role k xs)) [
    | inl e ↦ rw (has_entries k xs ∙ e, e) (after_entries k xs)
    | inr e ↦ elim (cases_Bool (x.role == k)) [ inl d ↦ rw (has_entries k xs ∙ e, e, d) refl | inr d ↦ rw (has_entries k xs ∙ e, e, d) refl ]
  ]

  abbrev evid : List Item → List E
  evid xs = evidence (λ (i : Item). i.role) (map entry_of xs)

  tags_lead : (d : Map (List ℕ)) (es : List E) → tags_left (map (item_of g) (carry d es)) ≡ lead d (tags_left (map (item_of g) es))
  tags_lead d [] = refl
  tags_lead d (e ∷ es) = ap (λ m. record (e.step) { delta = m; tags = tags_but (map (item_of g) es) e.step.tags } ∷ tags_left (map (item_of g) es)) (sym (in_order-in_order (length g.variables) (merge d e.writes)) ∙ merge_last d e.writes)

  has_evid : (k : ℕ) (xs : List Item) → has by_role k (map (item_of g) (evid xs)) ≡ has by_role k xs
  has_evid k [] = refl
  has_evid k (i ∷ xs) = elim (cases_Bool (has by_role i.role xs)) [
    | inl e ↦ rw (has_entries i.role xs ∙ e) (carried (evid xs) ∙ has_evid k xs ∙ same_role i k xs (cases_Bool (i.role == k)) e)
    | inr e ↦ rw (has_entries i.role xs ∙ e) (ap (λ b. (i.role == k) || b) (has_evid k xs))
  ]
    where
      carried : (es : List E) → has by_role k (map (item_of g) (carry i.delta es)) ≡ has by_role k (map (item_of g) es)
      carried [] = refl
      carried (e ∷ es) = refl

  evid_reduced : (xs : List Item) → tags_left (map (item_of g) (evid xs)) ≡ reduced xs
  evid_reduced [] = refl
  evid_reduced (i ∷ xs) = elim (cases_Bool (has by_role i.role xs)) [
    | inl e ↦ rw (has_entries i.role xs ∙ e, e) (tags_lead i.delta (evid xs) ∙ ap (lead i.delta) (evid_reduced xs))
    | inr e ↦ rw (has_entries i.role xs ∙ e, e) (ap (λ m. record i { delta = in_order (length g.variables) i.delta; tags = m } ∷ tags_left (map (item_of g) (evid xs))) (tags_but-same (map (item_of g) (evid xs)) xs (λ k. has_evid k xs) i.tags) ∙ ap (λ l. left_by xs i ∷ l) (evid_reduced xs))
  ]

  pub shown_reduced : (k : ℕ) (xs : List Item) → shown_to g k xs ≡ reduced (after_last by_role k xs)
  shown_reduced k xs = ap (λ l. tags_left (map (item_of g) (evidence (λ (i : Item). i.role) l))) (after_entries k xs) ∙ evid_reduced (after_last by_role k xs)

  -- ---- what reduced items say

  committed_lead : (x : ℕ) → x < length g.variables → (d : Map (List ℕ)) (z : Item) (zs : List Item) → committed x (lead d (z ∷ zs)) ≡ option_or (committed x (z ∷ zs)) (value_at d x)
  committed_lead x h d z zs = ap (option_or (committed x zs)) (value_at-in_order (length g.variables) (merge d z.delta) x h ∙ value_at-merge d z.delta x) ∙ sym (option_or-assoc (committed x zs) (value_at z.delta x) (value_at d x))

  pub committed_reduced : (x : ℕ) → x < length g.variables → (xs : List Item) → committed x (reduced xs) ≡ committed x xs
  committed_reduced x h [] = refl
  committed_reduced x h (i ∷ xs) = elim (cases_Bool (has by_role i.role xs)) [
    | inl e ↦ rw e (led (reduced xs) (has-reduced i.role xs ∙ e) ∙ ap (λ o. option_or o (value_at i.delta x)) (committed_reduced x h xs))
    | inr e ↦ rw e (ap (option_or (committed x (reduced xs))) (value_at-in_order (length g.variables) i.delta x h) ∙ ap (λ o. option_or o (value_at i.delta x)) (committed_reduced x h xs))
  ]
    where
      led : (zs : List Item) → has by_role i.role zs ≡ true → committed x (lead i.delta zs) ≡ option_or (committed x zs) (value_at i.delta x)
      led [] h' = absurd (cc)
      led (z ∷ zs) h' = committed_lead x h i.delta z zs
