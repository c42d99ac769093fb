-- Lists in which the last element of each key counts, under another key and under a map.
use Rattle.std.specs.Prelude.{◌≡◌, ℕ, ◌==◌, ◌||◌, Bool, true, false, List, [], ◌∷◌, ◌++◌, map, filter, refl}
use Rattle.std.specs.List.{AllByRecursion}
use Rattle.std.proofs.Common.{◌∙◌, ap, inl, inr}
use Rattle.std.proofs.lemmas.Bool.{cases_Bool}
use Rattle.sg_model.specs.Last.{has, last_of, after_last, up_to_last}
use Rattle.sg_law.proofs.Lists.{has-map}

-- ---- elements with two keys that are the same

module _ {A : Type 0} (one two : A → ℕ) where
  abbrev pub SameKeys : List A → Type 0
  SameKeys xs = AllByRecursion (λ x. one x ≡ two x) xs

  pub has-keys : (k : ℕ) (xs : List A) → SameKeys xs → has one k xs ≡ has two k xs
  has-keys k [] h = refl
  has-keys k (x ∷ xs) h = ap (λ n. (n == k) || has one k xs) h.0 ∙ ap (λ b. (two x == k) || b) (has-keys k xs h.1)

  pub last_of-keys : (xs : List A) → SameKeys xs → last_of one xs ≡ last_of two xs
  last_of-keys [] h = refl
  last_of-keys (x ∷ xs) h =
      let same : has one (one x) xs ≡ has two (two x) xs = has-keys (one x) xs h.1 ∙ ap (λ k. has two k xs) h.0 in
      elim (cases_Bool (has two (two x) xs)) [
        | inl e ↦ rw (same ∙ e, e) (last_of-keys xs h.1)
        | inr e ↦ rw (same ∙ e, e) (ap (λ l. x ∷ l) (last_of-keys xs h.1))
      ]

  pub after_last-keys : (k : ℕ) (xs : List A) → SameKeys xs → after_last one k xs ≡ after_last two k xs
  after_last-keys k [] h = refl
  after_last-keys k (x ∷ xs) h =
      let same : has one k xs ≡ has two k xs = has-keys k xs h.1 in
      elim (cases_Bool (has two k xs)) [
        | inl e ↦ rw (same ∙ e, e) (after_last-keys k xs h.1)
        | inr e ↦ rw (same ∙ e, e) (rw h.0 refl)
      ]

-- ---- under a map

module _ {A B : Type 0} (f : A → B) (key : B → ℕ) where
  pub last_of-map : (xs : List A) → last_of key (map f xs) ≡ map f (last_of (λ x. key (f x)) xs)
  last_of-map [] = refl
  last_of-map (x ∷ xs) = elim (cases_Bool (has (λ x. key (f x)) (key (f x)) xs)) [
    | inl e ↦ rw (has-map f key (key (f x)) xs ∙ e, e) (last_of-map xs)
    | inr e ↦ rw (has-map f key (key (f x)) xs ∙ e, e) (ap (λ l. f x ∷ l) (last_of-map xs))
  ]

  pub after_last-map : (k : ℕ) (xs : List A) → after_last key k (map f xs) ≡ map f (after_last (λ x. key (f x)) k xs)
  after_last-map k [] = refl
  after_last-map k (x ∷ xs) = elim (cases_Bool (has (λ x. key (f x)) k xs)) [
    | inl e ↦ rw (has-map f key k xs ∙ e, e) (after_last-map k xs)
    | inr e ↦ elim (cases_Bool (key (f x) == k)) [ inl d ↦ rw (has-map f key k xs ∙ e, e, d) refl | inr d ↦ rw (has-map f key k xs ∙ e, e, d) refl ]
  ]

-- ---- what holds of all

module _ {A : Type 0} (P : A → Type 0) where
  pub all-filter : (p : A → Bool) (xs : List A) → AllByRecursion P xs → AllByRecursion P (filter p xs)
  all-filter p [] h = tt
  all-filter p (x ∷ xs) h = elim (cases_Bool (p x)) [ inl e ↦ rw e (h.0, all-filter p xs h.1) | inr e ↦ rw e (all-filter p xs h.1) ]

  pub all-last_of : (key : A → ℕ) (xs : List A) → AllByRecursion P xs → AllByRecursion P (last_of key xs)
  all-last_of key [] h = tt
  all-last_of key (x ∷ xs) h = elim (cases_Bool (has key (key x) xs)) [ inl e ↦ rw e (all-last_of key xs h.1) | inr e ↦ rw e (h.0, all-last_of key xs h.1) ]

  pub all-after_last : (key : A → ℕ) (k : ℕ) (xs : List A) → AllByRecursion P xs → AllByRecursion P (after_last key k xs)
  all-after_last key k [] h = tt
  all-after_last key k (x ∷ xs) h = elim (cases_Bool (has key k xs)) [
    | inl e ↦ rw e (all-after_last key k xs h.1)
    | inr e ↦ elim (cases_Bool (key x == k)) [ inl d ↦ rw (e, d) h.1 | inr d ↦ rw (e, d) h ]
  ]

  pub all-up_to_last : (key : A → ℕ) (k : ℕ) (xs : List A) → AllByRecursion P xs → AllByRecursion P (up_to_last key k xs)
  all-up_to_last key k [] h = tt
  all-up_to_last key k (x ∷ xs) h = elim (cases_Bool (has key k xs)) [
    | inl e ↦ rw e (h.0, all-up_to_last key k xs h.1)
    | inr e ↦ elim (cases_Bool (key x == k)) [ inl d ↦ rw (e, d) (h.0, tt) | inr d ↦ rw (e, d) tt ]
  ]

  pub all-mid : (xs : List A) (y : A) (ys : List A) → AllByRecursion P (xs ++ y ∷ ys) → P y
  all-mid [] y ys h = h.0
  all-mid (x ∷ xs) y ys h = all-mid xs y ys h.1

-- an element of a list has its key
pub has-mid : {A : Type 0} (key : A → ℕ) (k : ℕ) (xs : List A) (y : A) (ys : List A) → has key k (xs ++ y ∷ ys) ≡ false → (key y == k) ≡ false
has-mid key k [] y ys h = elim (cases_Bool (key y == k)) [ inl e ↦ absurd (let f : true ≡ false = rw e at h in cc) | inr e ↦ e ]
has-mid key k (x ∷ xs) y ys h = elim (cases_Bool (key x == k)) [ inl e ↦ absurd (let f : true ≡ false = rw e at h in cc) | inr e ↦ has-mid key k xs y ys (rw e at h) ]
