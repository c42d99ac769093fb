-- Lemmas on keys and on the last elements of each key.
use Rattle.std.proofs.Common.{◌≡◌, ◌⊎◌, ℕ, ◌==◌, true, false, ◌||◌, List, [], ◌∷◌, ◌++◌, refl, sym, ap, ◌∙◌, subst, inl, inr}
use Rattle.std.proofs.lemmas.Bool.{cases_Bool, eqb-true, eq-eqb, or_parts, or_cases, or_left, true≢false}
use Rattle.sg_model.specs.Last.{has, last_of, Sublist, Covered}
use Rattle.sg_model.specs.Last.Sublist.{Done, Skip, Keep}
use Rattle.sg_model.proofs.Small.{or_assoc}

pub has-append : {A : Type 0} (key : A → ℕ) (k : ℕ) (xs ys : List A) → has key k (xs ++ ys) ≡ (has key k xs || has key k ys)
has-append key k [] ys = refl
has-append key k (x ∷ xs) ys = rw (has-append key k xs ys) (or_assoc (key x == k) (has key k xs) (has key k ys))

pub has-rest : {A : Type 0} (key : A → ℕ) (k : ℕ) (xs ys : List A) → has key k (xs ++ ys) ≡ false → has key k ys ≡ false
has-rest key k [] ys free = free
has-rest key k (x ∷ xs) ys free = has-rest key k xs ys (or_parts (key x == k) (has key k (xs ++ ys)) free).1

pub has-after : {A : Type 0} (key : A → ℕ) (k : ℕ) (xs : List A) (y : A) (ys : List A) → has key k (xs ++ y ∷ ys) ≡ false → has key k ys ≡ false
has-after key k [] y ys free = (or_parts (key y == k) (has key k ys) free).1
has-after key k (x ∷ xs) y ys free = has-after key k xs y ys (or_parts (key x == k) (has key k (xs ++ y ∷ ys)) free).1

-- one element more
pub last_of-drop : {A : Type 0} (key : A → ℕ) (x : A) (xs : List A) → has key (key x) xs ≡ true → last_of key (x ∷ xs) ≡ last_of key xs
last_of-drop key x xs e = rw e

pub last_of-keep : {A : Type 0} (key : A → ℕ) (x : A) (xs : List A) → has key (key x) xs ≡ false → last_of key (x ∷ xs) ≡ x ∷ last_of key xs
last_of-keep key x xs e = rw e

pub eqb_same : (n : ℕ) → (n == n) ≡ true
eqb_same n = eq-eqb n n refl

-- the last elements have the keys of all
pub has-last_of : {A : Type 0} (key : A → ℕ) (k : ℕ) (xs : List A) → has key k (last_of key xs) ≡ has key k xs
has-last_of key k [] = refl
has-last_of key k (x ∷ xs) =
    elim (cases_Bool (has key (key x) xs)) [
      | inl e ↦ rw (last_of-drop key x xs e) (has-last_of key k xs ∙ dropped (cases_Bool (key x == k)) e)
      | inr e ↦ rw (last_of-keep key x xs e) (ap (λ b. (key x == k) || b) (has-last_of key k xs))
    ]
  where
    dropped : ((key x == k) ≡ true) ⊎ ((key x == k) ≡ false) → has key (key x) xs ≡ true → has key k xs ≡ ((key x == k) || has key k xs)
    dropped (inl same) e = rw same (subst (λ n. has key n xs ≡ true) (eqb-true (key x) k same) e)
    dropped (inr other) e = rw other

-- the last elements, of a list whose first part was reduced to them
pub last_of_again : {A : Type 0} (key : A → ℕ) (xs ys : List A) → last_of key (last_of key xs ++ ys) ≡ last_of key (xs ++ ys)
last_of_again key [] ys = refl
last_of_again key (x ∷ xs) ys =
    elim (cases_Bool (has key (key x) xs)) [
      | inl e ↦ rw (last_of-drop key x xs e) (last_of_again key xs ys ∙ sym (last_of-drop key x (xs ++ ys) (has-append key (key x) xs ys ∙ ap (λ b. b || has key (key x) ys) e)))
      | inr e ↦ rw (last_of-keep key x xs e) (step (cases_Bool (has key (key x) (xs ++ ys))) (last_of_again key xs ys))
    ]
  where
    same : has key (key x) (last_of key xs ++ ys) ≡ has key (key x) (xs ++ ys)
    same = has-append key (key x) (last_of key xs) ys ∙ ap (λ b. b || has key (key x) ys) (has-last_of key (key x) xs) ∙ sym (has-append key (key x) xs ys)

    step : (has key (key x) (xs ++ ys) ≡ true) ⊎ (has key (key x) (xs ++ ys) ≡ false) → last_of key (last_of key xs ++ ys) ≡ last_of key (xs ++ ys) → last_of key (x ∷ (last_of key xs ++ ys)) ≡ last_of key (x ∷ (xs ++ ys))
    step (inl f) ih = last_of-drop key x (last_of key xs ++ ys) (same ∙ f) ∙ ih ∙ sym (last_of-drop key x (xs ++ ys) f)
    step (inr f) ih = last_of-keep key x (last_of key xs ++ ys) (same ∙ f) ∙ ap (λ l. x ∷ l) ih ∙ sym (last_of-keep key x (xs ++ ys) f)

-- the last elements are part of the list
pub Sublist-last_of : {A : Type 0} (key : A → ℕ) (xs : List A) → Sublist (last_of key xs) xs
Sublist-last_of key [] = Done
Sublist-last_of key (x ∷ xs) =
    elim (cases_Bool (has key (key x) xs)) [
      | inl e ↦ rw (last_of-drop key x xs e) (Skip (Sublist-last_of key xs))
      | inr e ↦ rw (last_of-keep key x xs e) (Keep (Sublist-last_of key xs))
    ]

-- a key that occurs has a last element
last_at : {A : Type 0} (key : A → ℕ) (k : ℕ) (xs : List A) → has key k xs ≡ true
    → (s : A) × (prefix rest kept kept' : List A) × (key s ≡ k) × (xs ≡ prefix ++ s ∷ rest) × (last_of key xs ≡ kept ++ s ∷ kept')
last_at key k [] is = absurd (cc)
last_at {A = A} key k (x ∷ xs) is =
    elim (cases_Bool (has key k xs)) [
      | inl l ↦ further (last_at key k xs l)
      | inr l ↦ here (eqb-true (key x) k (elim (or_cases (key x == k) (has key k xs) is) [ inl e ↦ e | inr e ↦ absurd (true≢false (sym e ∙ l)) ])) l
    ]
  where
    Found : List A → Type 0
    Found zs = (s : A) × (prefix rest kept kept' : List A) × (key s ≡ k) × (zs ≡ prefix ++ s ∷ rest) × (last_of key zs ≡ kept ++ s ∷ kept')

    here : key x ≡ k → has key k xs ≡ false → Found (x ∷ xs)
    here same l = (x, [], xs, [], last_of key xs, same, refl, last_of-keep key x xs (ap (λ n. has key n xs) same ∙ l))

    further : Found xs → Found (x ∷ xs)
    further c =
        elim (cases_Bool (has key (key x) xs)) [
          | inl d ↦ (c.0, x ∷ c.1, c.2, c.3, c.4, c.5, ap (λ z. x ∷ z) c.6, last_of-drop key x xs d ∙ c.7)
          | inr d ↦ (c.0, x ∷ c.1, c.2, x ∷ c.3, c.4, c.5, ap (λ z. x ∷ z) c.6, last_of-keep key x xs d ∙ ap (λ z. x ∷ z) c.7)
        ]

pub covered : {A : Type 0} (key : A → ℕ) (before : List A) (x : A) (after : List A) → Covered key before x after
covered key [] x after =
    let c = last_at key (key x) (x ∷ after) (or_left (key x == key x) (has key (key x) after) (eqb_same (key x))) in
    record { by = c.0; prefix = c.1; rest = c.2; kept = c.3; kept' = c.4; same = c.5; there = c.6; named = c.7 }
covered {A = A} key (y ∷ ys) x after = further (covered key ys x after)
  where
    further : Covered key ys x after → Covered key (y ∷ ys) x after
    further c =
        elim (cases_Bool (has key (key y) (ys ++ x ∷ after))) [
          | inl d ↦ record { by = c.by; prefix = c.prefix; rest = c.rest; kept = c.kept; kept' = c.kept'; same = c.same; there = c.there; named = last_of-drop key y (ys ++ x ∷ after) d ∙ c.named }
          | inr d ↦ record { by = c.by; prefix = c.prefix; rest = c.rest; kept = y ∷ c.kept; kept' = c.kept'; same = c.same; there = c.there; named = last_of-keep key y (ys ++ x ∷ after) d ∙ ap (λ z. y ∷ z) c.named }
        ]
