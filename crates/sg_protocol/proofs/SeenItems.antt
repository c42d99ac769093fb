-- What is seen of reduced items is what is seen of their walk.
use Rattle.std.specs.Prelude.{◌≡◌, ℕ, zero, suc, ◌+◌, ◌<◌, ◌≤◌, ◌==◌, ◌||◌, ◌&&◌, Bool, true, false, not, List, [], ◌∷◌, map, filter, filter_map, length, refl, Option, Some, None, option_map, bytes_eq, Contains, ⊤}
use Rattle.std.specs.List.{AllByRecursion}
use Rattle.std.proofs.Common.{sym, ◌∙◌, ap, subst, inl, inr, arith}
use Rattle.std.proofs.lemmas.Bool.{cases_Bool, eqb-true, eq-eqb, ne_eqb, and_from}
use Rattle.std.proofs.lemmas.Bool.Decides.{nat_tests}
use Rattle.std.proofs.lemmas.List.{map-append}
use Rattle.sg_model.specs.Last.{Map, Entry, merge, has, last, after_last, up_to_last, carry, evidence, evidence_for}
use Rattle.sg_model.specs.Lists.{value_at, in_order, below, range_from, keys_of, is_in}
use Rattle.sg_model.specs.Shape.{sender}
use Rattle.sg_model.proofs.Small.{bytes_refl, or_true, keys_of_pairs}
use Rattle.sg_model.proofs.Numbers.{is_in-append}
use Rattle.sg_protocol.specs.Graph.{Graph, shape, writes}
use Rattle.sg_protocol.specs.Evidence.{View, Seen, view_of, walked, rising, same_origin, same_items, same_view, has_view}
use Rattle.sg_protocol.specs.Frame.{Item}
use Rattle.sg_protocol.specs.Verdict.{seen}
use Rattle.sg_law.proofs.Cut as Cut'
use Rattle.sg_protocol.proofs.Entries.{Roles}
use Rattle.sg_protocol.proofs.Reduced.{by_role, lead, reduced}
use Rattle.sg_protocol.proofs.Ends.{labels}
use Rattle.sg_protocol.proofs.Known.{value_none}

keys_picked : (m : Map (List ℕ)) (xs : List ℕ) → keys_of (filter_map (λ x. option_map (λ v. (x, v)) (value_at m x)) xs) ≡ filter (λ x. is_in x (keys_of m)) xs
keys_picked m [] = refl
keys_picked m (x ∷ xs) = elim (cases_Bool (is_in x (keys_of m))) [
  | inl e ↦ (let v = some m x e in rw (e, v.1) (ap (λ l. x ∷ l) (keys_picked m xs)))
  | inr e ↦ rw (e, value_none m x e) (keys_picked m xs)
]
  where
    some : (m : Map (List ℕ)) (x : ℕ) → is_in x (keys_of m) ≡ true → (v : List ℕ) × (value_at m x ≡ Some v)
    some [] x h = absurd (cc)
    some (w ∷ ws) x h = elim (cases_Bool (w.0 == x)) [ inl e ↦ (w.1, rw e refl) | inr e ↦ (let r = some ws x (rw e at h) in (r.0, rw e r.1)) ]

pub keys_in_order : (n : ℕ) (m : Map (List ℕ)) → keys_of (in_order n m) ≡ rising n (keys_of m)
keys_in_order n m = keys_picked m (below n)

pub in_merge : {A : Type 0} (x : ℕ) (a b : Map A) → is_in x (keys_of (merge a b)) ≡ (is_in x (keys_of a) || is_in x (keys_of b))
in_merge {A = A} x a b = ap (is_in x) (map-append (λ (w : ℕ × A). w.0) (filter (λ (w : ℕ × A). not (has (λ (y : ℕ × A). y.0) w.0 b)) a) b) ∙ is_in-append x (keys_of (filter (λ (w : ℕ × A). not (has (λ (y : ℕ × A). y.0) w.0 b)) a)) (keys_of b) ∙ go a
  where
    has_in : (x : ℕ) (m : Map A) → has (λ (y : ℕ × A). y.0) x m ≡ is_in x (keys_of m)
    has_in x [] = refl
    has_in x (w ∷ ws) = ap (λ z. (w.0 == x) || z) (has_in x ws)

    go : (ws : Map A) → (is_in x (keys_of (filter (λ (w : ℕ × A). not (has (λ (y : ℕ × A). y.0) w.0 b)) ws)) || is_in x (keys_of b)) ≡ (is_in x (keys_of ws) || is_in x (keys_of b))
    go [] = refl
    go (w ∷ ws) = elim (cases_Bool (has (λ (y : ℕ × A). y.0) w.0 b)) [
      | inl e ↦ rw e (elim (cases_Bool (w.0 == x)) [
        | inl d ↦ (let i : is_in x (keys_of b) ≡ true = subst (λ z. is_in z (keys_of b) ≡ true) (eqb-true w.0 x d) (sym (has_in w.0 b) ∙ e) in rw (d, i) (or_true _))
        | inr d ↦ rw d (go ws)
      ])
      | inr e ↦ rw e (elim (cases_Bool (w.0 == x)) [ inl d ↦ rw d refl | inr d ↦ rw d (go ws) ])
    ]

filter_below : (p q : ℕ → Bool) (k j : ℕ) → ((x : ℕ) → x < k + j → p x ≡ q x) → filter p (range_from k j) ≡ filter q (range_from k j)
filter_below p q k zero e = refl
filter_below p q k (suc j) e =
    let rest : filter p (range_from (suc k) j) ≡ filter q (range_from (suc k) j) = filter_below p q (suc k) j (λ x l. e x (omega (arith, l))) in
    elim (cases_Bool (q k)) [ inl h ↦ rw (e k (omega arith) ∙ h, h) (ap (λ l. k ∷ l) rest) | inr h ↦ rw (e k (omega arith) ∙ h, h) rest ]

pub rising_same : (n : ℕ) (ps bs : List ℕ) → ((x : ℕ) → x < n → is_in x ps ≡ is_in x bs) → rising n ps ≡ rising n bs
rising_same n ps bs e = filter_below (λ x. is_in x ps) (λ x. is_in x bs) 0 n (λ x l. e x (omega (arith, l)))

pub in_rising : (n : ℕ) (ps : List ℕ) (x : ℕ) → x < n → is_in x (rising n ps) ≡ is_in x ps
in_rising n ps x l = go 0 n (omega arith) (omega (arith, l))
  where
    above : (k j : ℕ) → x < k → is_in x (filter (λ y. is_in y ps) (range_from k j)) ≡ false
    above k zero h = refl
    above k (suc j) h = elim (cases_Bool (is_in k ps)) [
      | inl e ↦ rw (e, ne_eqb k x (λ q. absurd (omega (arith, h, q)))) (above (suc k) j (omega (arith, h)))
      | inr e ↦ rw e (above (suc k) j (omega (arith, h)))
    ]

    go : (k j : ℕ) → k ≤ x → x < k + j → is_in x (filter (λ y. is_in y ps) (range_from k j)) ≡ is_in x ps
    go k zero a b = absurd (omega (arith, a, b))
    go k (suc j) a b = elim (cases_Bool (k == x)) [
      | inl e ↦ (let q : k ≡ x = eqb-true k x e in elim (cases_Bool (is_in k ps)) [
        | inl h ↦ rw (h, e) (sym (subst (λ z. is_in z ps ≡ true) q h))
        | inr h ↦ rw h (above (suc k) j (omega (arith, q)) ∙ sym (subst (λ z. is_in z ps ≡ false) q h))
      ])
      | inr e ↦ (let ih : is_in x (filter (λ y. is_in y ps) (range_from (suc k) j)) ≡ is_in x ps = go (suc k) j (grind (arith, nat_tests)) (omega (arith, b)) in elim (cases_Bool (is_in k ps)) [ inl h ↦ rw (h, e) ih | inr h ↦ rw h ih ])
    ]

abbrev Wal : Type 0
Wal = Entry ℕ (Unit {0})

module _ (g : Graph) where
  abbrev of_wal : Wal → Seen
  of_wal e = record { label = e.step; delta = rising (length g.variables) (keys_of e.writes) }

  abbrev by_wal : Wal → ℕ
  by_wal e = sender (shape g) e.step

  -- items that show what entries show
  abbrev Shows : List Item → List Wal → Type 0
  Shows [] [] = ⊤
  Shows [] (e ∷ es) = ⊥
  Shows (i ∷ is) [] = ⊥
  Shows (i ∷ is) (e ∷ es) = (i.label ≡ e.step) × (keys_of i.delta ≡ rising (length g.variables) (keys_of e.writes)) × Shows is es

  shows_seen : (is : List Item) (es : List Wal) → Shows is es → map seen is ≡ map of_wal es
  shows_seen [] [] h = refl
  shows_seen [] (e ∷ es) h = absurd h
  shows_seen (i ∷ is) [] h = absurd h
  shows_seen (i ∷ is) (e ∷ es) h = ap (λ l. record { label = l; delta = keys_of i.delta } ∷ map seen is) h.0 ∙ ap (λ d. record { label = e.step; delta = d } ∷ map seen is) h.1 ∙ ap (λ l. of_wal e ∷ l) (shows_seen is es h.2)

  has_walked : (k : ℕ) (is : List Item) → Roles (shape g) is → has by_wal k (walked g (labels is)) ≡ has by_role k is
  has_walked k [] r = refl
  has_walked k (i ∷ is) r = ap (λ z. (z == k) || has by_wal k (walked g (labels is))) (sym r.0) ∙ ap (λ b. (i.role == k) || b) (has_walked k is r.1)

  shows_lead : (d : Map (List ℕ)) (u : Map (Unit {0})) → keys_of d ≡ keys_of u → (is : List Item) (es : List Wal) → Shows is es → Shows (lead g d is) (carry u es)
  shows_lead d u e [] [] h = tt
  shows_lead d u e [] (x ∷ es) h = absurd h
  shows_lead d u e (i ∷ is) [] h = absurd h
  shows_lead d u e (i ∷ is) (x ∷ es) h = (
    h.0,
    keys_in_order (length g.variables) (merge d i.delta) ∙ rising_same (length g.variables) (keys_of (merge d i.delta)) (keys_of (merge u x.writes)) (λ v l.
        in_merge v d i.delta ∙ ap (λ z. is_in v z || is_in v (keys_of i.delta)) e ∙ ap (λ z. is_in v (keys_of u) || is_in v z) h.1 ∙ ap (λ z. is_in v (keys_of u) || z) (in_rising (length g.variables) (keys_of x.writes) v l) ∙ sym (in_merge v u x.writes)),
    h.2,
  )

  -- reduced items show the evidence of their walk
  shows_reduced : (is : List Item) → Roles (shape g) is → AllByRecursion (λ (i : Item). keys_of i.delta ≡ writes g i.label) is → Shows (reduced g is) (evidence (sender (shape g)) (walked g (labels is)))
  shows_reduced [] r k = tt
  shows_reduced (i ∷ is) r k =
      let same : has by_wal (sender (shape g) i.label) (walked g (labels is)) ≡ has by_role i.role is = has_walked (sender (shape g) i.label) is r.1 ∙ ap (λ z. has by_role z is) (sym r.0) in
      let keys : keys_of i.delta ≡ keys_of {A = Unit {0}} (map (λ x. (x, tt)) (writes g i.label)) = k.0 ∙ sym (keys_of_pairs (λ x. tt) (writes g i.label)) in
      elim (cases_Bool (has by_role i.role is)) [
        | inl e ↦ rw (same ∙ e, e) (shows_lead i.delta (map (λ x. (x, tt)) (writes g i.label)) keys (reduced g is) (evidence (sender (shape g)) (walked g (labels is))) (shows_reduced is r.1 k.1))
        | inr e ↦ rw (same ∙ e, e) (refl, keys_in_order (length g.variables) i.delta ∙ ap (rising (length g.variables)) keys, shows_reduced is r.1 k.1)
      ]

  after_walked : (k : ℕ) (is : List Item) → Roles (shape g) is → after_last by_wal k (walked g (labels is)) ≡ walked g (labels (after_last by_role k is))
  after_walked k [] r = refl
  after_walked k (i ∷ is) r = elim (cases_Bool (has by_role k is)) [
    | inl e ↦ rw (has_walked k is r.1 ∙ e, e) (after_walked k is r.1)
    | inr e ↦ elim (cases_Bool (i.role == k)) [
      | inl d ↦ rw (has_walked k is r.1 ∙ e, e, ap (λ z. z == k) (sym r.0) ∙ d, d) refl
      | inr d ↦ rw (has_walked k is r.1 ∙ e, e, ap (λ z. z == k) (sym r.0) ∙ d, d) refl
    ]
  ]

  up_to_labels : (k : ℕ) (is : List Item) → Roles (shape g) is → up_to_last (sender (shape g)) k (labels is) ≡ labels (up_to_last by_role k is)
  up_to_labels k [] r = refl
  up_to_labels k (i ∷ is) r =
      let same : has (sender (shape g)) k (labels is) ≡ has by_role k is = go is r.1 in
      elim (cases_Bool (has by_role k is)) [
        | inl e ↦ rw (same ∙ e, e) (ap (λ l. i.label ∷ l) (up_to_labels k is r.1))
        | inr e ↦ elim (cases_Bool (i.role == k)) [
          | inl d ↦ rw (same ∙ e, e, ap (λ z. z == k) (sym r.0) ∙ d, d) refl
          | inr d ↦ rw (same ∙ e, e, ap (λ z. z == k) (sym r.0) ∙ d, d) refl
        ]
      ]
    where
      go : (zs : List Item) → Roles (shape g) zs → has (sender (shape g)) k (labels zs) ≡ has by_role k zs
      go [] r = refl
      go (z ∷ zs) r = ap (λ y. (y == k) || has (sender (shape g)) k (labels zs)) (sym r.0) ∙ ap (λ b. (z.role == k) || b) (go zs r.1)

  -- what the role sees of the walk
  pub view_is : (r : ℕ) (is : List Item) → Roles (shape g) is → AllByRecursion (λ (i : Item). keys_of i.delta ≡ writes g i.label) (after_last by_role r is) → Roles (shape g) (after_last by_role r is)
      → view_of g r (labels is) ≡ record { origin = option_map (λ (i : Item). i.label) (last (up_to_last by_role r is)); items = map seen (reduced g (after_last by_role r is)) }
  view_is r is ro ke ra =
      ap (λ o. record { origin = o; items = map of_wal (evidence_for (sender (shape g)) r (walked g (labels is))) }) (ap last (up_to_labels r is ro) ∙ Cut'.last-option_map (λ (i : Item). i.label) (up_to_last by_role r is))
      ∙ ap (λ l. record { origin = option_map (λ (i : Item). i.label) (last (up_to_last by_role r is)); items = map of_wal (evidence (sender (shape g)) l) }) (after_walked r is ro)
      ∙ ap (λ l. record { origin = option_map (λ (i : Item). i.label) (last (up_to_last by_role r is)); items = l }) (sym (shows_seen (reduced g (after_last by_role r is)) (evidence (sender (shape g)) (walked g (labels (after_last by_role r is)))) (shows_reduced (after_last by_role r is) ra ke)))

-- a view stands in the table that has it
same_origin_self : (o : Option ℕ) → same_origin o o ≡ true
same_origin_self None = refl
same_origin_self (Some a) = eq-eqb a a refl

same_items_self : (xs : List Seen) → same_items xs xs ≡ true
same_items_self [] = refl
same_items_self (x ∷ xs) = and_from ((x.label == x.label) && bytes_eq x.delta x.delta) (same_items xs xs) (and_from (x.label == x.label) (bytes_eq x.delta x.delta) (eq-eqb x.label x.label refl) (bytes_refl x.delta)) (same_items_self xs)

pub view_there : (table : List View) (v : View) → Contains table v → has_view table v ≡ true
view_there [] v c = absurd (let l = c.1 in omega (arith, l))
view_there (w ∷ ws) v (zero, l, e) = rw (subst (λ z. same_view v z ≡ true) (sym e) (and_from (same_origin v.origin v.origin) (same_items v.items v.items) (same_origin_self v.origin) (same_items_self v.items))) refl
view_there (w ∷ ws) v (suc k, l, e) = elim (cases_Bool (same_view v w)) [ inl h ↦ rw h refl | inr h ↦ rw h (view_there ws v (k, omega (arith, l), e)) ]
