-- The members of a list.
use Rattle.std.specs.Prelude.{◌≡◌, ◌⊎◌, All, Bool, true, List, [], ◌∷◌, ◌++◌, map, filter, flat_map, refl, Contains, zero, suc, ℕ, length, get_or, ◌<◌}
use Rattle.std.specs.List.{AllByRecursion}
use Rattle.std.proofs.Common.{sym, ap, subst, inl, inr, ◌∙◌, arith}
use Rattle.std.proofs.lemmas.Bool.{cases_Bool}
use Rattle.std.proofs.lemmas.List.Elements.{All-head, All-tail, All-nil, All-cons}

-- elements, by recursion
abbrev pub In : {A : Type 0} → List A → A → Type 0
In [] s = ⊥
In (x ∷ xs) s = (s ≡ x) ⊎ In xs s

pub in_from_Contains : {A : Type 0} (xs : List A) (s : A) → Contains xs s → In xs s
in_from_Contains {A = A} xs s c = go xs c.0 c.1 c.2
  where
    go : (ys : List A) (k : ℕ) → k < length ys → get_or ys k s ≡ s → In ys s
    go [] k lt e = absurd (omega (arith, lt))
    go (y ∷ ys) zero lt e = inl (sym e)
    go (y ∷ ys) (suc k) lt e = inr (go ys k (omega (arith, lt)) e)

pub contains_from_in : {A : Type 0} (xs : List A) (s : A) → In xs s → Contains xs s
contains_from_in [] s e = absurd e
contains_from_in (x ∷ xs) s (inl e) = (0, omega arith, sym e)
contains_from_in (x ∷ xs) s (inr e) = let c = contains_from_in xs s e in (suc c.0, (let lt = c.1 in omega (arith, lt)), c.2)

pub in_left : {A : Type 0} (xs ys : List A) (m : A) → In xs m → In (xs ++ ys) m
in_left [] ys m i = absurd i
in_left (x ∷ xs) ys m (inl e) = inl e
in_left (x ∷ xs) ys m (inr i) = inr (in_left xs ys m i)

pub in_right : {A : Type 0} (xs ys : List A) (m : A) → In ys m → In (xs ++ ys) m
in_right [] ys m i = i
in_right (x ∷ xs) ys m i = inr (in_right xs ys m i)

pub in_parts : {A : Type 0} (xs ys : List A) (x : A) → In (xs ++ ys) x → In xs x ⊎ In ys x
in_parts [] ys x i = inr i
in_parts (y ∷ xs) ys x (inl e) = inl (inl e)
in_parts (y ∷ xs) ys x (inr i) = elim (in_parts xs ys x i) [ inl j ↦ inl (inr j) | inr j ↦ inr j ]

pub in_map : {A B : Type 0} (f : A → B) (xs : List A) (x : A) → In xs x → In (map f xs) (f x)
in_map f [] x i = absurd i
in_map f (y ∷ ys) x (inl e) = inl (ap f e)
in_map f (y ∷ ys) x (inr i) = inr (in_map f ys x i)

pub in_flat : {A B : Type 0} (f : A → List B) (xs : List A) (x : A) (y : B) → In xs x → In (f x) y → In (flat_map f xs) y
in_flat f [] x y i j = absurd i
in_flat f (z ∷ xs) x y (inl e) j = in_left (f z) (flat_map f xs) y (subst (λ w. In (f w) y) e j)
in_flat f (z ∷ xs) x y (inr i) j = in_right (f z) (flat_map f xs) y (in_flat f xs x y i j)

pub rec_in : {A : Type 0} (P : A → Type 0) (xs : List A) (x : A) → AllByRecursion P xs → In xs x → P x
rec_in P [] x a i = absurd i
rec_in P (y ∷ ys) x a (inl e) = subst P (sym e) a.0
rec_in P (y ∷ ys) x a (inr i) = rec_in P ys x a.1 i

pub all_in : {A : Type 0} (P : A → Type 0) (xs : List A) (x : A) → All P xs → In xs x → P x
all_in P [] x a i = absurd i
all_in P (y ∷ ys) x a (inl e) = subst P (sym e) (All-head P y ys a)
all_in P (y ∷ ys) x a (inr i) = all_in P ys x (All-tail P y ys a) i

pub in_last : {A : Type 0} (xs : List A) (x : A) → In (xs ++ x ∷ []) x
in_last [] x = inl refl
in_last (y ∷ ys) x = inr (in_last ys x)

pub map_in : {A B : Type 0} (f : A → B) (xs : List A) (y : B) → In (map f xs) y → (x : A) × In xs x × (y ≡ f x)
map_in f [] y i = absurd i
map_in f (x ∷ xs) y (inl e) = (x, inl refl, e)
map_in f (x ∷ xs) y (inr i) = let r = map_in f xs y i in (r.0, inr r.1, r.2)

pub flat_in : {A B : Type 0} (f : A → List B) (xs : List A) (y : B) → In (flat_map f xs) y → (x : A) × In xs x × In (f x) y
flat_in f [] y i = absurd i
flat_in f (x ∷ xs) y i = elim (in_parts (f x) (flat_map f xs) y i) [
  | inl j ↦ (x, inl refl, j)
  | inr j ↦ let r = flat_in f xs y j in (r.0, inr r.1, r.2)
]

pub all_of : {A : Type 0} (P : A → Type 0) (xs : List A) → ((x : A) → In xs x → P x) → All P xs
all_of P [] h = All-nil P
all_of P (x ∷ xs) h = All-cons P x xs (h x (inl refl)) (all_of P xs (λ y i. h y (inr i)))

pub filter_in : {A : Type 0} (q : A → Bool) (xs : List A) (x : A) → In xs x → q x ≡ true → In (filter q xs) x
filter_in q [] x i h = i
filter_in q (y ∷ ys) x (inl e) h = (let k : q y ≡ true = ap q (sym e) ∙ h in rw k (inl e))
filter_in q (y ∷ ys) x (inr i) h = elim (cases_Bool (q y)) [
  | inl k ↦ rw k (inr (filter_in q ys x i h))
  | inr k ↦ rw k (filter_in q ys x i h)
]

pub in_filter : {A : Type 0} (q : A → Bool) (xs : List A) (x : A) → In (filter q xs) x → In xs x
in_filter q [] x i = i
in_filter q (y ∷ ys) x i = elim (cases_Bool (q y)) [
  | inl h ↦ (let j : In (y ∷ filter q ys) x = rw h at i in elim j [ inl e ↦ inl e | inr j ↦ inr (in_filter q ys x j) ])
  | inr h ↦ (let j : In (filter q ys) x = rw h at i in inr (in_filter q ys x j))
]

pub of_filtered : {A B : Type 0} (q : A → Bool) (f : A → List B) (xs : List A) (b : B) → In (flat_map f (filter q xs)) b → In (flat_map f xs) b
of_filtered q f xs b i = let r = flat_in f (filter q xs) b i in in_flat f xs r.0 b (in_filter q xs r.0 r.1) r.2

pub split_at_end : {A : Type 0} (xs : List A) (y : A) (before : List A) (l : A) (after : List A) → xs ++ y ∷ [] ≡ before ++ l ∷ after → ((rest : List A) × (after ≡ rest ++ y ∷ []) × (xs ≡ before ++ l ∷ rest)) ⊎ ((l ≡ y) × (before ≡ xs) × (after ≡ []))
split_at_end [] y [] l after e = inr (let h : y ≡ l = cc in let t : [] ≡ after = cc in (sym h, refl, sym t))
split_at_end [] y (b ∷ []) l after e = absurd (cc)
split_at_end [] y (b ∷ b' ∷ before) l after e = absurd (cc)
split_at_end (x ∷ xs) y [] l after e = inl (let h : x ≡ l = cc in let t : xs ++ y ∷ [] ≡ after = cc in (xs, sym t, ap (λ z. z ∷ xs) h))
split_at_end (x ∷ xs) y (b ∷ before) l after e =
    let h : x ≡ b = cc in
    let t : xs ++ y ∷ [] ≡ before ++ l ∷ after = cc in
    elim (split_at_end xs y before l after t) [
      | inl r ↦ inl (r.0, r.1, ap (λ z. z ∷ xs) h ∙ ap (λ z. b ∷ z) r.2)
      | inr r ↦ inr (r.0, ap (λ z. b ∷ z) r.1 ∙ ap (λ z. z ∷ xs) (sym h), r.2)
    ]

pub in_split : {A : Type 0} (xs : List A) (x : A) → In xs x → (before : List A) × (after : List A) × (xs ≡ before ++ x ∷ after)
in_split [] x i = absurd i
in_split (y ∷ ys) x (inl e) = ([], ys, ap (λ z. z ∷ ys) (sym e))
in_split (y ∷ ys) x (inr i) = let r = in_split ys x i in (y ∷ r.0, r.1, ap (λ z. y ∷ z) r.2)

pub split_in : {A : Type 0} (before : List A) (l : A) (after : List A) → In (before ++ l ∷ after) l
split_in before l after = in_right before (l ∷ after) l (inl refl)

-- two elements at which a list is split are the same, or one stands after the other
pub two_splits : {A : Type 0} (a : List A) (x : A) (b : List A) (c : List A) (y : A) (d : List A) → a ++ x ∷ b ≡ c ++ y ∷ d → (x ≡ y) ⊎ (In b y ⊎ In d x)
two_splits [] x b [] y d e = inl (cc)
two_splits [] x b (z ∷ c) y d e = inr (inl (let t : b ≡ c ++ y ∷ d = cc in subst (λ l. In l y) (sym t) (split_in c y d)))
two_splits (z ∷ a) x b [] y d e = inr (inr (let t : a ++ x ∷ b ≡ d = cc in subst (λ l. In l x) t (split_in a x b)))
two_splits (z ∷ a) x b (u ∷ c) y d e = two_splits a x b c y d (let t : a ++ x ∷ b ≡ c ++ y ∷ d = cc in t)
