-- What is seen on a walk and in a frame, in terms of the law of a session.
use Rattle.std.specs.Prelude.{◌≡◌, ℕ, suc, ◌==◌, ◌||◌, true, List, [], ◌∷◌, ◌++◌, map, refl, Option, Some, None, Contains}
use Rattle.std.proofs.Common.{sym, ◌∙◌, ap, subst, inl, inr, arith}
use Rattle.std.proofs.lemmas.Slice.Eq.{bytes_eq-Decides}
use Rattle.std.proofs.lemmas.Bool.{eqb-true, cases_Bool}
use Rattle.std.proofs.lemmas.Simd.{map-map}
use Rattle.sg_model.specs.Last.{has, last_of, after_last, up_to_last, Entry, evidence_for}
use Rattle.sg_model.specs.Shape.{sender}
use Rattle.sg_model.proofs.Small.{and_left, and_right}
use Rattle.sg_model.proofs.Evidence.{has-steps, steps-evidence}
use Rattle.sg_protocol.specs.Graph.{Graph, shape}
use Rattle.sg_protocol.specs.Evidence.{View, Seen, view_of, walked, same_origin, same_items, same_view, has_view}

-- a list is its part up to the last of a key, and the part after it
pub up_to_last-after : {A : Type 0} (key : A → ℕ) (k : ℕ) (xs : List A) → up_to_last key k xs ++ after_last key k xs ≡ xs
up_to_last-after key k [] = refl
up_to_last-after key k (x ∷ xs) =
    elim (cases_Bool (has key k xs)) [
      | inl e ↦ rw e (ap (λ l. x ∷ l) (up_to_last-after key k xs))
      | inr e ↦ rw e (elim (cases_Bool (key x == k)) [ inl f ↦ rw f refl | inr f ↦ rw f refl ])
    ]

steps-after_last : {K A : Type 0} (role : K → ℕ) (k : ℕ) (xs : List (Entry K A)) → map (λ (y : Entry K A). y.step) (after_last (λ y. role y.step) k xs) ≡ after_last role k (map (λ (y : Entry K A). y.step) xs)
steps-after_last role k [] = refl
steps-after_last {K = K} {A = A} role k (x ∷ xs) =
    rw (has-steps role k xs) (
    elim (cases_Bool (has (λ (y : Entry K A). role y.step) k xs)) [
      | inl e ↦ rw e (steps-after_last role k xs)
      | inr e ↦ rw e (elim (cases_Bool (role x.step == k)) [ inl f ↦ rw f refl | inr f ↦ rw f refl ])
    ])

steps-walked : (g : Graph) (es : List ℕ) → map (λ (y : Entry ℕ (Unit {0})). y.step) (walked g es) ≡ es
steps-walked g [] = refl
steps-walked g (e ∷ es) = ap (λ l. e ∷ l) (steps-walked g es)

-- the labels that are seen are the last ones of each sender since the role's own last step
pub labels-view_of : (g : Graph) (r : ℕ) (es : List ℕ) → map (λ s. s.label) (view_of g r es).items ≡ last_of (sender (shape g)) (after_last (sender (shape g)) r es)
labels-view_of g r es =
    map-map _ _ (evidence_for (sender (shape g)) r (walked g es))
    ∙ steps-evidence (sender (shape g)) (after_last (λ (y : Entry ℕ (Unit {0})). sender (shape g) y.step) r (walked g es))
    ∙ ap (last_of (sender (shape g))) (steps-after_last (sender (shape g)) r (walked g es) ∙ ap (after_last (sender (shape g)) r) (steps-walked g es))

-- ---- what an accepted frame is to the law of a session

-- ---- from the rows of the verdict

same_origins : (a b : Option ℕ) → same_origin a b ≡ true → a ≡ b
same_origins None None h = refl
same_origins None (Some b) h = cc
same_origins (Some a) None h = cc
same_origins (Some a) (Some b) h = ap (λ x. Some x) (eqb-true a b h)

same_seen : (xs ys : List Seen) → same_items xs ys ≡ true → xs ≡ ys
same_seen [] [] h = refl
same_seen [] (y ∷ ys) h = cc
same_seen (x ∷ xs) [] h = cc
same_seen (x ∷ xs) (y ∷ ys) h =
    let l : x.label ≡ y.label = eqb-true x.label y.label (and_left _ _ (and_left _ _ h)) in
    let d : x.delta ≡ y.delta = (bytes_eq-Decides x.delta y.delta).0 (and_right (x.label == y.label) _ (and_left _ _ h)) in
    ap (λ n. record { label = n; delta = x.delta } ∷ xs) l ∙ ap (λ m. record { label = y.label; delta = m } ∷ xs) d ∙ ap (λ zs. y ∷ zs) (same_seen xs ys (and_right _ _ h))

same_views : (a b : View) → same_view a b ≡ true → a ≡ b
same_views a b h =
    ap (λ o. record { origin = o; items = a.items }) (same_origins a.origin b.origin (and_left _ _ h))
    ∙ ap (λ l. record { origin = b.origin; items = l }) (same_seen a.items b.items (and_right (same_origin a.origin b.origin) _ h))

pub has_view-Contains : (table : List View) (v : View) → has_view table v ≡ true → Contains table v
has_view-Contains [] v h = cc
has_view-Contains (w ∷ ws) v h = elim (cases_Bool (same_view v w)) [
  | inl e ↦ (0, omega arith, sym (same_views v w e))
  | inr e ↦ later (has_view-Contains ws v (subst (λ b. (b || has_view ws v) ≡ true) e h))
]
  where
    later : Contains ws v → Contains (w ∷ ws) v
    later c = (suc c.0, omega (arith, c.1), c.2)
