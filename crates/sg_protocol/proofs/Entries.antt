-- Items as entries of the law, and views as its sights.
use Rattle.std.specs.Prelude.{◌≡◌, ◌≢◌, ℕ, zero, suc, ◌+◌, ◌<◌, ◌≤◌, ◌==◌, nat_lt, ◌||◌, ◌⊎◌, Bool, true, false, not, List, [], ◌∷◌, ◌++◌, map, filter, length, refl, Option, Some, None, option_map, ⊤}
use Rattle.std.specs.Option.{option_or}
use Rattle.std.specs.List.{AllByRecursion}
use Rattle.std.proofs.Common.{sym, ◌∙◌, ap, subst, inl, inr, arith}
use Rattle.std.proofs.lemmas.Bool.{eqb-true, eq-eqb, cases_Bool}
use Rattle.std.proofs.lemmas.Bool.Decides.{nat_tests}
use Rattle.std.proofs.lemmas.List.{map-append}
use Rattle.sg_model.specs.Last.{Map, merge, has, last, last_or, after_last, up_to_last, evidence_for}
use Rattle.sg_model.specs.Last as A
use Rattle.sg_model.specs.Lists.{is_in, value_at, keys_of, range_from, in_order}
use Rattle.sg_model.specs.Shape.{Shape, Arrow, Walk, end_of, role_at, sender, target}
use Rattle.sg_model.specs.Values.{Code}
use Rattle.sg_protocol.specs.Graph.{Graph, Edge, shape, writes}
use Rattle.sg_protocol.specs.Evidence.{Seen, View, IsView, walked, rising}
use Rattle.sg_protocol.specs.Frame.{Item}
use Rattle.sg_protocol.specs.Session.{committed}
use Rattle.sg_protocol.specs.Sending.{entry_of, item_of, tags_left, shown_to}
use Rattle.sg_protocol.specs.Verdict.{seen}
use Rattle.sg_law.specs.Last as B
use Rattle.sg_law.specs.Accept.{sender_of, TimedLabel}
use Rattle.sg_law.specs.Run.{RisesFrom, time_of_own}
use Rattle.sg_law.specs.Values as V
use Rattle.sg_law.specs.Values.{com_of, Alike, Sight}
use Rattle.sg_law.proofs.Lists.{has-map, map-passing}
use Rattle.sg_law.proofs.Walks.{end_of-last}
use Rattle.sg_law.proofs.Upto.{last-after}
use Rattle.sg_law.proofs.Cut.{last-option_map, last-last_of}
use Rattle.sg_law.proofs.Lists.{in_same}
use Rattle.sg_protocol.proofs.KeptLaws.{value_at-in_order}
use Rattle.sg_protocol.proofs.Bridge.{up_to_last-after, labels-view_of}

-- an item as an entry of the law
abbrev pub entry : Item → B.Entry TimedLabel Code
entry i = record { step = record { label = i.label; time = i.time }; writes = i.delta }

abbrev pub entries : List Item → List (B.Entry TimedLabel Code)
entries is = map entry is

pub entries-com : (is : List Item) (x : ℕ) → com_of (entries is) x ≡ committed x is
entries-com [] x = refl
entries-com (i ∷ is) x = ap (λ o. option_or o (value_at i.delta x)) (entries-com is x)

abbrev Ent : Type 0
Ent = A.Entry Item (List ℕ)

-- an entry of an item as an entry of the law
abbrev pub as_entry : Ent → B.Entry TimedLabel Code
as_entry e = record { step = record { label = e.step.label; time = e.step.time }; writes = e.writes }

pub entries-entry_of : (is : List Item) → map as_entry (map entry_of is) ≡ entries is
entries-entry_of [] = refl
entries-entry_of (i ∷ is) = ap (λ l. entry i ∷ l) (entries-entry_of is)

module _ (g : Shape) where
  abbrev pub by : B.Entry TimedLabel Code → ℕ
  by e = sender g e.step.label

  -- each item's role is the sender of its label
  abbrev pub Roles : List Item → Type 0
  Roles is = AllByRecursion (λ (i : Item). i.role ≡ sender g i.label) is

  pub has-entries : (k : ℕ) (is : List Item) → Roles is → has by k (entries is) ≡ has (λ (i : Item). i.role) k is
  has-entries k [] r = refl
  has-entries k (i ∷ is) r = ap (λ n. (n == k) || has by k (entries is)) (sym r.0) ∙ ap (λ b. (i.role == k) || b) (has-entries k is r.1)

  pub up_to-entries : (k : ℕ) (is : List Item) → Roles is → up_to_last by k (entries is) ≡ entries (up_to_last (λ (i : Item). i.role) k is)
  up_to-entries k [] r = refl
  up_to-entries k (i ∷ is) r = elim (cases_Bool (has (λ (i : Item). i.role) k is)) [
    | inl e ↦ rw (has-entries k is r.1 ∙ e, e) (ap (λ l. entry i ∷ l) (up_to-entries k is r.1))
    | inr e ↦ elim (cases_Bool (i.role == k)) [
      | inl d ↦ rw (has-entries k is r.1 ∙ e, ap (λ n. n == k) (sym r.0) ∙ d, e, d) refl
      | inr d ↦ rw (has-entries k is r.1 ∙ e, ap (λ n. n == k) (sym r.0) ∙ d, e, d) refl
    ]
  ]

  abbrev EntRoles : List Ent → Type 0
  EntRoles es = AllByRecursion (λ (e : Ent). e.step.role ≡ sender g e.step.label) es

  has-ents : (k : ℕ) (es : List Ent) → EntRoles es → has by k (map as_entry es) ≡ has (λ (e : Ent). e.step.role) k es
  has-ents k [] r = refl
  has-ents k (i ∷ is) r = ap (λ n. (n == k) || has by k (map as_entry is)) (sym r.0) ∙ ap (λ b. (i.step.role == k) || b) (has-ents k is r.1)

  after-ents : (k : ℕ) (es : List Ent) → EntRoles es → map as_entry (after_last (λ (e : Ent). e.step.role) k es) ≡ after_last by k (map as_entry es)
  after-ents k [] r = refl
  after-ents k (i ∷ is) r = elim (cases_Bool (has (λ (e : Ent). e.step.role) k is)) [
    | inl e ↦ rw (has-ents k is r.1 ∙ e, e) (after-ents k is r.1)
    | inr e ↦ elim (cases_Bool (i.step.role == k)) [
      | inl d ↦ rw (has-ents k is r.1 ∙ e, ap (λ n. n == k) (sym r.0) ∙ d, e, d) refl
      | inr d ↦ rw (has-ents k is r.1 ∙ e, ap (λ n. n == k) (sym r.0) ∙ d, e, d) refl
    ]
  ]

  after-roles : (k : ℕ) (es : List Ent) → EntRoles es → EntRoles (after_last (λ (e : Ent). e.step.role) k es)
  after-roles k [] r = tt
  after-roles k (i ∷ is) r = elim (cases_Bool (has (λ (e : Ent). e.step.role) k is)) [
    | inl e ↦ rw e (after-roles k is r.1)
    | inr e ↦ elim (cases_Bool (i.step.role == k)) [ inl d ↦ rw (e, d) r.1 | inr d ↦ rw (e, d) r ]
  ]

  carry-ents : (v : Map (List ℕ)) (es : List Ent) → map as_entry (A.carry v es) ≡ B.carry v (map as_entry es)
  carry-ents v [] = refl
  carry-ents v (e ∷ es) = refl

  evidence-ents : (es : List Ent) → EntRoles es → map as_entry (A.evidence (λ (i : Item). i.role) es) ≡ B.evidence (sender_of g) (map as_entry es)
  evidence-ents [] r = refl
  evidence-ents (e ∷ es) r =
      let same : has by (sender g e.step.label) (map as_entry es) ≡ has (λ (e : Ent). e.step.role) e.step.role es = has-ents (sender g e.step.label) es r.1 ∙ ap (λ k. has (λ (e : Ent). e.step.role) k es) (sym r.0) in
      elim (cases_Bool (has (λ (e : Ent). e.step.role) e.step.role es)) [
        | inl d ↦ rw (same ∙ d, d) (carry-ents e.writes (A.evidence (λ (i : Item). i.role) es) ∙ ap (B.carry e.writes) (evidence-ents es r.1))
        | inr d ↦ rw (same ∙ d, d) (ap (λ l. as_entry e ∷ l) (evidence-ents es r.1))
      ]

  carry-roles : (v : Map (List ℕ)) (es : List Ent) → EntRoles es → EntRoles (A.carry v es)
  carry-roles v [] r = tt
  carry-roles v (e ∷ es) r = r

  evidence-roles : (es : List Ent) → EntRoles es → EntRoles (A.evidence (λ (i : Item). i.role) es)
  evidence-roles [] r = tt
  evidence-roles (e ∷ es) r = elim (cases_Bool (has (λ (e : Ent). e.step.role) e.step.role es)) [
    | inl d ↦ rw d (carry-roles e.writes (A.evidence (λ (i : Item). i.role) es) (evidence-roles es r.1))
    | inr d ↦ rw d (r.0, evidence-roles es r.1)
  ]

  last_role : (es : List Ent) (e : Ent) → EntRoles es → last es ≡ Some e → e.step.role ≡ sender g e.step.label
  last_role [] e r h = absurd (cc)
  last_role (y ∷ ys) e r h = go y ys r (cc)
    where
      go : (y : Ent) (ys : List Ent) → EntRoles (y ∷ ys) → last_or y ys ≡ e → e.step.role ≡ sender g e.step.label
      go y [] r h = subst (λ (z : Ent). z.step.role ≡ sender g z.step.label) h r.0
      go y (z ∷ zs) r h = go z zs r.1 h

  ent_roles : (is : List Item) → Roles is → EntRoles (map entry_of is)
  ent_roles [] r = tt
  ent_roles (i ∷ is) r = (r.0, ent_roles is r.1)

  -- the evidence of items is the evidence of the law
  pub evidence_for-ents : (k : ℕ) (is : List Item) → Roles is → map as_entry (evidence_for (λ (i : Item). i.role) k (map entry_of is)) ≡ B.evidence (sender_of g) (after_last by k (entries is))
  evidence_for-ents k is r =
      evidence-ents (after_last (λ (e : Ent). e.step.role) k (map entry_of is)) (after-roles k (map entry_of is) (ent_roles is r))
      ∙ ap (B.evidence (sender_of g)) (after-ents k (map entry_of is) (ent_roles is r) ∙ ap (after_last by k) (entries-entry_of is))

-- the last entry of what is shown has its sender's role
pub evidence_for-role : (g : Shape) (k : ℕ) (is : List Item) (e : Ent) → Roles g is → last (evidence_for (λ (i : Item). i.role) k (map entry_of is)) ≡ Some e → e.step.role ≡ sender g e.step.label
evidence_for-role g k is e r h = last_role g (evidence_for (λ (i : Item). i.role) k (map entry_of is)) e (evidence-roles g (after_last (λ (e : Ent). e.step.role) k (map entry_of is)) (after-roles g k (map entry_of is) (ent_roles g is r))) h

-- the last of items whose tags are left
pub last_tags : (is : List Item) (i : Item) → last is ≡ Some i → (i' : Item) × (last (tags_left is) ≡ Some i') × (entry i' ≡ entry i) × (i'.role ≡ i.role)
last_tags [] i e = absurd (cc)
last_tags (x ∷ xs) i e = go x xs (cc)
  where
    go : (x : Item) (xs : List Item) → last_or x xs ≡ i → (i' : Item) × (last (tags_left (x ∷ xs)) ≡ Some i') × (entry i' ≡ entry i) × (i'.role ≡ i.role)
    go x [] e = (record x { tags = filter (λ t. not (has (λ (j : Item). j.role) t.0 [])) x.tags }, refl, ap entry e, ap (λ (z : Item). z.role) e)
    go x (y ∷ ys) e = let r = go y ys e in (r.0, r.1, r.2, r.3)

entries-tags_left : (is : List Item) → entries (tags_left is) ≡ entries is
entries-tags_left [] = refl
entries-tags_left (i ∷ is) = ap (λ l. entry i ∷ l) (entries-tags_left is)

steps-items : (g : Graph) (es : List Ent) → V.steps_of (entries (map (item_of g) es)) ≡ V.steps_of (map as_entry es)
steps-items g [] = refl
steps-items g (e ∷ es) = ap (λ l. record { label = e.step.label; time = e.step.time } ∷ l) (steps-items g es)

com-items : (g : Graph) (es : List Ent) (x : ℕ) → x < length g.variables → com_of (entries (map (item_of g) es)) x ≡ com_of (map as_entry es) x
com-items g [] x h = refl
com-items g (e ∷ es) x h =
    ap (λ o. option_or o (value_at (in_order (length g.variables) e.writes) x)) (com-items g es x h)
    ∙ ap (option_or (com_of (map as_entry es) x)) (value_at-in_order (length g.variables) e.writes x h)

-- what is shown to a role is the evidence of the law, in other order
pub shown-steps : (g : Graph) (k : ℕ) (is : List Item) → Roles (shape g) is → V.steps_of (entries (shown_to g k is)) ≡ V.steps_of (B.evidence (sender_of (shape g)) (after_last (by (shape g)) k (entries is)))
shown-steps g k is r =
    ap V.steps_of (entries-tags_left (map (item_of g) (evidence_for (λ (i : Item). i.role) k (map entry_of is))))
    ∙ steps-items g (evidence_for (λ (i : Item). i.role) k (map entry_of is)) ∙ ap V.steps_of (evidence_for-ents (shape g) k is r)

pub shown-com : (g : Graph) (k : ℕ) (is : List Item) → Roles (shape g) is → (x : ℕ) → x < length g.variables → com_of (entries (shown_to g k is)) x ≡ com_of (B.evidence (sender_of (shape g)) (after_last (by (shape g)) k (entries is))) x
shown-com g k is r x h =
    ap (λ l. com_of l x) (entries-tags_left (map (item_of g) (evidence_for (λ (i : Item). i.role) k (map entry_of is))))
    ∙ com-items g (evidence_for (λ (i : Item). i.role) k (map entry_of is)) x h ∙ ap (λ l. com_of l x) (evidence_for-ents (shape g) k is r)

-- ---- what is seen

abbrev pub Wal : Type 0
Wal = A.Entry ℕ (Unit {0})

abbrev names : {A : Type 0} → Map A → List ℕ
names {A} m = map (λ (w : ℕ × A). w.0) m

abbrev name_merge : List ℕ → List ℕ → List ℕ
name_merge a b = filter (λ k. not (has (λ (y : ℕ). y) k b)) a ++ b

names-merge : {A : Type 0} (a b : Map A) → names (merge a b) ≡ name_merge (names a) (names b)
names-merge {A = A} a b =
    map-append (λ (w : ℕ × A). w.0) (filter (λ (w : ℕ × A). not (has (λ (x : ℕ × A). x.0) w.0 b)) a) b
    ∙ ap (λ l. l ++ names b) (ap (map (λ (w : ℕ × A). w.0)) (go a) ∙ map-passing (λ (w : ℕ × A). w.0) (λ k. not (has (λ (y : ℕ). y) k (names b))) a)
  where
    go : (ws : Map A) → filter (λ (w : ℕ × A). not (has (λ (x : ℕ × A). x.0) w.0 b)) ws ≡ filter (λ (w : ℕ × A). not (has (λ (y : ℕ). y) w.0 (names b))) ws
    go [] = refl
    go (w ∷ ws) =
        let same : has (λ (x : ℕ × A). x.0) w.0 b ≡ has (λ (y : ℕ). y) w.0 (names b) = sym (has-map (λ (x : ℕ × A). x.0) (λ (y : ℕ). y) w.0 b) in
        elim (cases_Bool (has (λ (y : ℕ). y) w.0 (names b))) [
          | inl e ↦ rw (same ∙ e, e) (go ws)
          | inr e ↦ rw (same ∙ e, e) (ap (λ l. w ∷ l) (go ws))
        ]

-- the same labels and names
abbrev Keyed : List Wal → List (B.Entry TimedLabel Code) → Type 0
Keyed [] [] = ⊤
Keyed [] (b ∷ bs) = ⊥
Keyed (a ∷ ps) [] = ⊥
Keyed (a ∷ ps) (b ∷ bs) = (a.step ≡ b.step.label) × (names a.writes ≡ names b.writes) × Keyed ps bs

module _ (g : Shape) where
  keyed-has : (k : ℕ) (xs : List Wal) (ys : List (B.Entry TimedLabel Code)) → Keyed xs ys → has (λ (y : Wal). sender g y.step) k xs ≡ has (λ (y : B.Entry TimedLabel Code). sender g y.step.label) k ys
  keyed-has k [] [] h = refl
  keyed-has k [] (y ∷ ys) h = absurd h
  keyed-has k (x ∷ xs) [] h = absurd h
  keyed-has k (x ∷ xs) (y ∷ ys) h = ap (λ n. (sender g n == k) || has (λ (y : Wal). sender g y.step) k xs) h.0 ∙ ap (λ b. (sender g y.step.label == k) || b) (keyed-has k xs ys h.2)

  keyed-carry : (u : Map (Unit {0})) (v : Map Code) → names u ≡ names v → (xs : List Wal) (ys : List (B.Entry TimedLabel Code)) → Keyed xs ys → Keyed (A.carry u xs) (B.carry v ys)
  keyed-carry u v e [] [] h = tt
  keyed-carry u v e [] (y ∷ ys) h = absurd h
  keyed-carry u v e (x ∷ xs) [] h = absurd h
  keyed-carry u v e (x ∷ xs) (y ∷ ys) h = (h.0, names-merge u x.writes ∙ ap (λ a. name_merge a (names x.writes)) e ∙ ap (name_merge (names v)) h.1 ∙ sym (names-merge v y.writes), h.2)

  keyed-evidence : (xs : List Wal) (ys : List (B.Entry TimedLabel Code)) → Keyed xs ys → Keyed (A.evidence (sender g) xs) (B.evidence (sender_of g) ys)
  keyed-evidence [] [] h = tt
  keyed-evidence [] (y ∷ ys) h = absurd h
  keyed-evidence (x ∷ xs) [] h = absurd h
  keyed-evidence (x ∷ xs) (y ∷ ys) h =
      let same : has (λ (y : Wal). sender g y.step) (sender g x.step) xs ≡ has (λ (y : B.Entry TimedLabel Code). sender g y.step.label) (sender g y.step.label) ys = keyed-has (sender g x.step) xs ys h.2 ∙ ap (λ n. has (λ (y : B.Entry TimedLabel Code). sender g y.step.label) (sender g n) ys) h.0 in
      elim (cases_Bool (has (λ (y : B.Entry TimedLabel Code). sender g y.step.label) (sender g y.step.label) ys)) [
        | inl e ↦ rw (same ∙ e, e) (keyed-carry x.writes y.writes h.1 (A.evidence (sender g) xs) (B.evidence (sender_of g) ys) (keyed-evidence xs ys h.2))
        | inr e ↦ rw (same ∙ e, e) (h.0, h.1, keyed-evidence xs ys h.2)
      ]

-- the variables that are written are below n
abbrev Below : ℕ → List ℕ → Type 0
Below n xs = AllByRecursion (λ x. x < n) xs

below-append : (n : ℕ) (xs ys : List ℕ) → Below n xs → Below n ys → Below n (xs ++ ys)
below-append n [] ys a b = b
below-append n (x ∷ xs) ys a b = (a.0, below-append n xs ys a.1 b)

below-filter : (n : ℕ) (p : ℕ → Bool) (xs : List ℕ) → Below n xs → Below n (filter p xs)
below-filter n p [] a = tt
below-filter n p (x ∷ xs) a = elim (cases_Bool (p x)) [ inl e ↦ rw e (a.0, below-filter n p xs a.1) | inr e ↦ rw e (below-filter n p xs a.1) ]

abbrev AllBelow : ℕ → List Wal → Type 0
AllBelow n xs = AllByRecursion (λ (x : Wal). Below n (names x.writes)) xs

below-carry : (n : ℕ) (u : Map (Unit {0})) (xs : List Wal) → Below n (names u) → AllBelow n xs → AllBelow n (A.carry u xs)
below-carry n u [] b h = tt
below-carry n u (x ∷ xs) b h = (subst (Below n) (sym (names-merge u x.writes)) (below-append n (filter (λ k. not (has (λ (y : ℕ). y) k (names x.writes))) (names u)) (names x.writes) (below-filter n _ (names u) b) h.0), h.1)

below-evidence : (n : ℕ) (role : ℕ → ℕ) (xs : List Wal) → AllBelow n xs → AllBelow n (A.evidence role xs)
below-evidence n role [] h = tt
below-evidence n role (x ∷ xs) h = elim (cases_Bool (has (λ (y : Wal). role y.step) (role x.step) xs)) [
  | inl e ↦ rw e (below-carry n x.writes (A.evidence role xs) h.0 (below-evidence n role xs h.1))
  | inr e ↦ rw e (h.0, below-evidence n role xs h.1)
]

not_below : (n x : ℕ) (xs : List ℕ) → Below n xs → n ≤ x → has (λ (y : ℕ). y) x xs ≡ false
not_below n x [] b l = refl
not_below n x (y ∷ ys) b l = elim (cases_Bool (y == x)) [
  | inl e ↦ (let s : y ≡ x = eqb-true y x e in let lt : y < n = b.0 in absurd (omega arith))
  | inr e ↦ rw e (not_below n x ys b.1 l)
]

range_out : (p : ℕ → Bool) (x k j : ℕ) → (x < k) ⊎ (k + j ≤ x) → has (λ (y : ℕ). y) x (filter p (range_from k j)) ≡ false
range_out p x k zero h = refl
range_out p x k (suc j) h =
    let ne : (k == x) ≡ false = elim (cases_Bool (k == x)) [ inl e ↦ (let s : k ≡ x = eqb-true k x e in absurd (elim h [ inl l ↦ omega arith | inr l ↦ omega arith ])) | inr e ↦ e ] in
    let rest : has (λ (y : ℕ). y) x (filter p (range_from (suc k) j)) ≡ false = range_out p x (suc k) j (elim h [ inl l ↦ inl (omega arith) | inr l ↦ inr (omega arith) ]) in
    elim (cases_Bool (p k)) [ inl e ↦ rw (e, ne) rest | inr e ↦ rw e rest ]

range_in : (p : ℕ → Bool) (x k j : ℕ) → k ≤ x → x < k + j → has (λ (y : ℕ). y) x (filter p (range_from k j)) ≡ p x
range_in p x k zero l u = absurd (omega arith)
range_in p x k (suc j) l u = elim (cases_Bool (k == x)) [
  | inl e ↦ (let s : k ≡ x = eqb-true k x e in elim (cases_Bool (p k)) [
    | inl d ↦ rw (d, e) (sym d ∙ ap p s)
    | inr d ↦ rw d (range_out p x (suc k) j (inl (omega arith)) ∙ sym d ∙ ap p s)
  ])
  | inr e ↦ (let up : suc k ≤ x = grind (arith, nat_tests) in elim (cases_Bool (p k)) [
    | inl d ↦ rw (d, e) (range_in p x (suc k) j up (omega arith))
    | inr d ↦ rw d (range_in p x (suc k) j up (omega arith))
  ])
]

rising-has : (n : ℕ) (K : List ℕ) (x : ℕ) → Below n K → has (λ (y : ℕ). y) x (rising n K) ≡ has (λ (y : ℕ). y) x K
rising-has n K x b = elim (cases_Bool (nat_lt x n)) [
  | inl e ↦ range_in (λ x. is_in x K) x 0 n (omega arith) (grind (arith, nat_tests)) ∙ sym (in_same x K)
  | inr e ↦ (let le : n ≤ x = grind (arith, nat_tests) in range_out (λ x. is_in x K) x 0 n (inr (omega arith)) ∙ sym (not_below n x K b le))
]

-- items that are seen as the evidence of a walk are alike to it
alike_seen : (n : ℕ) (items : List Item) (ws : List Wal) (bs : List (B.Entry TimedLabel Code)) → map seen items ≡ map (λ (i : Wal). record { label = i.step; delta = rising n (keys_of i.writes) }) ws → AllBelow n ws → Keyed ws bs → Alike (entries items) bs
alike_seen n [] [] [] e b h = tt
alike_seen n [] [] (y ∷ ys) e b h = absurd h
alike_seen n [] (a ∷ ws) bs e b h = absurd (cc)
alike_seen n (i ∷ is) [] bs e b h = absurd (cc)
alike_seen n (i ∷ is) (a ∷ ws) [] e b h = absurd h
alike_seen n (i ∷ is) (a ∷ ws) (y ∷ ys) e b h =
    let one : seen i ≡ record { label = a.step; delta = rising n (keys_of a.writes) } = cc in
    let l : i.label ≡ a.step = ap (λ (z : Seen). z.label) one in
    let d : keys_of i.delta ≡ rising n (keys_of a.writes) = ap (λ (z : Seen). z.delta) one in
    let r : map seen is ≡ map (λ (i : Wal). record { label = i.step; delta = rising n (keys_of i.writes) }) ws = cc in
    (l ∙ h.0, λ x. sym (has-map (λ (w : ℕ × Code). w.0) (λ (y : ℕ). y) x i.delta) ∙ ap (has (λ (y : ℕ). y) x) d ∙ rising-has n (keys_of a.writes) x b.0 ∙ ap (has (λ (y : ℕ). y) x) h.1 ∙ has-map (λ (w : ℕ × Code). w.0) (λ (y : ℕ). y) x y.writes, alike_seen n is ws ys r b.1 h.2)

-- ---- from a view to a sight

pub walked_after : (g : Graph) (k : ℕ) (es : List ℕ) → after_last (λ (y : Wal). sender (shape g) y.step) k (walked g es) ≡ walked g (after_last (sender (shape g)) k es)
walked_after g k [] = refl
walked_after g k (e ∷ es) = rw (has-map (λ e. record { step = e; writes = map (λ x. (x, tt)) (writes g e) }) (λ (y : Wal). sender (shape g) y.step) k es) (elim (cases_Bool (has (sender (shape g)) k es)) [
  | inl d ↦ rw d (walked_after g k es)
  | inr d ↦ rw d (elim (cases_Bool (sender (shape g) e == k)) [ inl f ↦ rw f refl | inr f ↦ rw f refl ])
])

names_of : {A : Type 0} (a : A) (xs : List ℕ) → names {A = A} (map (λ x. (x, a)) xs) ≡ xs
names_of a [] = refl
names_of a (x ∷ xs) = ap (λ l. x ∷ l) (names_of a xs)

keyed_walked : (g : Graph) (es : List ℕ) → Keyed (walked g es) (map (V.entry (shape g)) es)
keyed_walked g [] = tt
keyed_walked g (e ∷ es) = (refl, names_of tt (writes g e) ∙ sym (names_of {A = Code} [] (writes g e)), keyed_walked g es)

below_walked : (g : Graph) → ((e : ℕ) → Below (length g.variables) (writes g e)) → (es : List ℕ) → AllBelow (length g.variables) (walked g es)
below_walked g b [] = tt
below_walked g b (e ∷ es) = (subst (Below (length g.variables)) (sym (names_of tt (writes g e))) (b e), below_walked g b es)

pub has-after_last : {A : Type 0} (key : A → ℕ) (k : ℕ) (xs : List A) → has key k (after_last key k xs) ≡ false
has-after_last key k [] = refl
has-after_last key k (x ∷ xs) = elim (cases_Bool (has key k xs)) [
  | inl e ↦ rw e (has-after_last key k xs)
  | inr e ↦ rw e (elim (cases_Bool (key x == k)) [ inl f ↦ rw f e | inr f ↦ rw f (rw f e) ])
]

pub sight : (g : Graph) → ((e : ℕ) → Below (length g.variables) (writes g e)) → (h : ℕ) (v : View) (i : IsView g h v) (own : Option TimedLabel) (items : List Item) →
    v.origin ≡ option_map (λ (t : TimedLabel). t.label) own → v.items ≡ map seen items → RisesFrom (time_of_own own) (V.steps_of (entries items)) → Sight (shape g) h own (end_of (shape g) 0 i.walk) (entries items)
sight g b h v i own items o l t =
    let whole : up_to_last (sender (shape g)) h i.walk ++ after_last (sender (shape g)) h i.walk ≡ i.walk = up_to_last-after (sender (shape g)) h i.walk in
    let since : List ℕ = after_last (sender (shape g)) h i.walk in
    let same : evidence_for (sender (shape g)) h (walked g i.walk) ≡ A.evidence (sender (shape g)) (walked g since) = ap (A.evidence (sender (shape g))) (walked_after g h i.walk) in
    let seen_items : map seen items ≡ map (λ (e : Wal). record { label = e.step; delta = rising (length g.variables) (keys_of e.writes) }) (A.evidence (sender (shape g)) (walked g since)) =
    sym l ∙ ap (λ (x : View). x.items) (sym i.seen) ∙ ap (map (λ (e : Wal). record { label = e.step; delta = rising (length g.variables) (keys_of e.writes) })) same in
    record {
      before = up_to_last (sender (shape g)) h i.walk;
      since = since;
      walk = subst (Walk (shape g) 0) (sym whole) i.follows;
      ends = ap (end_of (shape g) 0) whole;
      turn = i.ends;
      own_last = ap (λ (x : View). x.origin) i.seen ∙ o;
      no_own = has-after_last (sender (shape g)) h i.walk;
      alike = alike_seen (length g.variables) items (A.evidence (sender (shape g)) (walked g since)) (B.evidence (sender_of (shape g)) (map (V.entry (shape g)) since)) seen_items
          (below-evidence (length g.variables) (sender (shape g)) (walked g since) (below_walked g b since)) (keyed-evidence (shape g) (walked g since) (map (V.entry (shape g)) since) (keyed_walked g since));
      rises = t;
    }

-- its steps since are those of the walk after the role's own last one
pub sight-since : (g : Graph) (b : (e : ℕ) → Below (length g.variables) (writes g e)) (h : ℕ) (v : View) (i : IsView g h v) (own : Option TimedLabel) (items : List Item) (o : v.origin ≡ option_map (λ (t : TimedLabel). t.label) own) (l : v.items ≡ map seen items) (t : RisesFrom (time_of_own own) (V.steps_of (entries items)))
    → (sight g b h v i own items o l t).since ≡ after_last (sender (shape g)) h i.walk
unfolding sight
sight-since g b h v i own items o l t = refl

pub seen_labels : (items : List Item) → map (λ (s : Seen). s.label) (map seen items) ≡ map (λ (i : Item). i.label) items
seen_labels [] = refl
seen_labels (i ∷ is) = ap (λ l. i.label ∷ l) (seen_labels is)

-- the label of its last item is the last one since its role's own
last_seen : (g : Graph) (h : ℕ) (v : View) (iv : IsView g h v) (items : List Item) (i : Item) → v.items ≡ map seen items → last items ≡ Some i → last (after_last (sender (shape g)) h iv.walk) ≡ Some i.label
last_seen g h v iv items i l e =
    sym (last-last_of (sender (shape g)) (after_last (sender (shape g)) h iv.walk)) ∙ ap last (sym (labels-view_of g h iv.walk) ∙ ap (λ (x : View). map (λ (s : Seen). s.label) x.items) iv.seen ∙ ap (map (λ (s : Seen). s.label)) l ∙ seen_labels items)
    ∙ last-option_map (λ (i : Item). i.label) items ∙ ap (option_map (λ (i : Item). i.label)) e

-- a view ends where its last item leads
pub view_ends : (g : Graph) (h : ℕ) (v : View) (iv : IsView g h v) (items : List Item) (i : Item) → v.items ≡ map seen items → last items ≡ Some i → end_of (shape g) 0 iv.walk ≡ target (shape g) i.label
view_ends g h v iv items i l e = go iv.walk (after_last (sender (shape g)) h iv.walk) refl (last_seen g h v iv items i l e)
  where
    ended : (w : List ℕ) (n : ℕ) → last w ≡ Some n → end_of (shape g) 0 w ≡ target (shape g) n
    ended [] n f = absurd (cc)
    ended (x ∷ xs) n f = let same : last_or x xs ≡ n = cc in end_of-last (shape g) 0 x xs ∙ ap (target (shape g)) same

    go : (w ys : List ℕ) → after_last (sender (shape g)) h w ≡ ys → last (after_last (sender (shape g)) h w) ≡ Some i.label → end_of (shape g) 0 w ≡ target (shape g) i.label
    go w [] f a = (let b = rw f at a in absurd (cc))
    go w (y ∷ ys) f a = ended w i.label (last-after (sender (shape g)) h w y ys f ∙ sym (ap last f) ∙ a)

-- the role of the start is not shown a walk in which it did not step
pub not_start : (g : Graph) (h : ℕ) (v : View) → IsView g h v → v.origin ≡ None → role_at (shape g) 0 ≡ h → ⊥
not_start g h v iv o r = go iv.walk iv.follows iv.moves (ap (λ (x : View). x.origin) iv.seen ∙ o)
  where
    some : (x : ℕ) (xs : List ℕ) → last (x ∷ xs) ≡ None → ⊥
    some x xs e = absurd (cc)

    go : (w : List ℕ) → Walk (shape g) 0 w → w ≢ [] → last (up_to_last (sender (shape g)) h w) ≡ None → ⊥
    go [] f m e = m refl
    go (x ∷ xs) f m e =
        let by_h : (sender (shape g) x == h) ≡ true = eq-eqb (sender (shape g) x) h (ap (role_at (shape g)) f.1 ∙ r) in
        elim (cases_Bool (has (sender (shape g)) h xs)) [
          | inl d ↦ some x (up_to_last (sender (shape g)) h xs) (rw d at e)
          | inr d ↦ some x [] (rw (d, by_h) at e)
        ]

pub edges_same : (g : Graph) → length (shape g).edges ≡ length g.edges
edges_same g = go g.edges
  where
    go : (es : List Edge) → length (map {B = Arrow} (λ (e : Edge). record { source = e.source; target = e.target; writes = e.writes; reads = e.reads }) es) ≡ length es
    go [] = refl
    go (e ∷ es) = let ih : length (map {B = Arrow} (λ (e : Edge). record { source = e.source; target = e.target; writes = e.writes; reads = e.reads }) es) ≡ length es = go es in omega (arith, ih)

-- the last item is along an edge
pub view_last_edge : (g : Graph) (h : ℕ) (v : View) (iv : IsView g h v) (items : List Item) (i : Item) → v.items ≡ map seen items → last items ≡ Some i → i.label < length g.edges
view_last_edge g h v iv items i l e = go iv.walk (after_last (sender (shape g)) h iv.walk) refl (last_seen g h v iv items i l e)
  where
    inside : (m x : ℕ) (xs : List ℕ) → Walk (shape g) m (x ∷ xs) → last_or x xs < length (shape g).edges
    inside m x [] w = w.0
    inside m x (y ∷ ys) w = inside (target (shape g) x) y ys w.2

    ended : (w : List ℕ) (n : ℕ) → Walk (shape g) 0 w → last w ≡ Some n → n < length (shape g).edges
    ended [] n k f = absurd (cc)
    ended (x ∷ xs) n k f = let same : last_or x xs ≡ n = cc in subst (λ z. z < length (shape g).edges) same (inside 0 x xs k)

    go : (w ys : List ℕ) → after_last (sender (shape g)) h w ≡ ys → last (after_last (sender (shape g)) h w) ≡ Some i.label → i.label < length g.edges
    go w [] f a = (let b = rw f at a in absurd (cc))
    go w (y ∷ ys) f a = (let lt : i.label < length (shape g).edges = ended iv.walk i.label iv.follows (back w (y ∷ ys) f a) in omega (arith, lt, edges_same g))
      where
        back : (w ys : List ℕ) → after_last (sender (shape g)) h w ≡ ys → last (after_last (sender (shape g)) h w) ≡ Some i.label → last iv.walk ≡ Some i.label
        back w ys f a = whole iv.walk (after_last (sender (shape g)) h iv.walk) refl (last_seen g h v iv items i l e)
          where
            whole : (w ys : List ℕ) → after_last (sender (shape g)) h w ≡ ys → last (after_last (sender (shape g)) h w) ≡ Some i.label → last w ≡ Some i.label
            whole w [] f a = (let b = rw f at a in absurd (cc))
            whole w (y ∷ ys) f a = last-after (sender (shape g)) h w y ys f ∙ sym (ap last f) ∙ a
