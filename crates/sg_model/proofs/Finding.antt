-- What is found in a list, and whether any of its elements passes.
use Rattle.std.specs.Prelude.{◌≡◌, ◌||◌, Bool, true, false, List, [], ◌∷◌, ◌++◌, map, filter, find, refl, Some, None, option_map, ◌⊎◌, cond}
use Rattle.std.specs.List.{AllByRecursion, list_any}
use Rattle.std.proofs.Common.{sym, ap, subst, inl, inr, ◌∙◌}
use Rattle.std.proofs.lemmas.Bool.{cases_Bool}
use Rattle.sg_model.proofs.Small.{clash, or_assoc}
use Rattle.sg_model.proofs.Members.{In}

-- the head of a filtered list
pub find_head : {A : Type 0} (p : A → Bool) (xs : List A) (x y : A) → xs ≡ x ∷ [] → find p xs ≡ Some y → y ≡ x
find_head p xs x y e f = go (cases_Bool (p x)) (rw e at f)
  where
    go : (p x ≡ true) ⊎ (p x ≡ false) → cond (p x) (Some x) None ≡ Some y → y ≡ x
    go (inl h) k = (let f : Some x ≡ Some y = rw h at k in cc)
    go (inr h) k = (let f : None ≡ Some y = rw h at k in absurd (cc))

pub find_nil : {A : Type 0} (p : A → Bool) (xs : List A) (y : A) → xs ≡ [] → find p xs ≡ Some y → ⊥
find_nil p xs y e f = (let g : None ≡ Some y = rw e at f in absurd (cc))

pub find_passes : {A : Type 0} (p : A → Bool) (xs : List A) (y : A) → find p xs ≡ Some y → p y ≡ true
find_passes p [] y e = absurd (cc)
find_passes p (x ∷ xs) y e = elim (cases_Bool (p x)) [
  | inl h ↦ (let f : Some x ≡ Some y = rw h at e in let s : x ≡ y = cc in subst (λ z. p z ≡ true) s h)
  | inr h ↦ find_passes p xs y (rw h at e)
]

pub find_all : {A : Type 0} (p : A → Bool) (P : A → Type 0) (xs : List A) (y : A) → AllByRecursion P xs → find p xs ≡ Some y → P y
find_all p P [] y a e = absurd (cc)
find_all p P (x ∷ xs) y a e = elim (cases_Bool (p x)) [
  | inl h ↦ (let f : Some x ≡ Some y = rw h at e in let s : x ≡ y = cc in subst P s a.0)
  | inr h ↦ find_all p P xs y a.1 (rw h at e)
]

pub found_in : {A : Type 0} (p : A → Bool) (xs : List A) (x : A) → find p xs ≡ Some x → In xs x
found_in p [] x e = absurd (cc)
found_in p (y ∷ ys) x e = elim (cases_Bool (p y)) [
  | inl h ↦ (let f : Some y ≡ Some x = rw h at e in let q : y ≡ x = cc in inl (sym q))
  | inr h ↦ inr (found_in p ys x (rw h at e))
]

pub find_some : {A : Type 0} (p : A → Bool) (xs : List A) (x : A) → In xs x → p x ≡ true → (y : A) × (find p xs ≡ Some y)
find_some p [] x i h = absurd i
find_some p (y ∷ ys) x i h = elim (cases_Bool (p y)) [
  | inl k ↦ (y, rw k refl)
  | inr k ↦ elim i [
    | inl e ↦ absurd (clash (p y) (subst (λ z. p z ≡ true) e h) k)
    | inr j ↦ (let r = find_some p ys x j h in (r.0, rw k r.1))
  ]
]

-- nothing passes
pub find_none : {A : Type 0} (p : A → Bool) (xs : List A) (x : A) → find p xs ≡ None → In xs x → p x ≡ false
find_none p [] x h i = absurd i
find_none p (y ∷ xs) x h i = elim (cases_Bool (p y)) [
  | inl e ↦ absurd (let z : Some y ≡ None = (rw e at h) in cc)
  | inr e ↦ elim i [ inl q ↦ ap p q ∙ e | inr j ↦ find_none p xs x (rw e at h) j ]
]

pub none_find : {A : Type 0} (p : A → Bool) (xs : List A) → ((x : A) → In xs x → p x ≡ false) → find p xs ≡ None
none_find p [] h = refl
none_find p (y ∷ xs) h = rw (h y (inl refl)) (none_find p xs (λ x i. h x (inr i)))

pub any_in : {A : Type 0} (p : A → Bool) (xs : List A) → list_any p xs ≡ true → (x : A) × In xs x × (p x ≡ true)
any_in p [] h = absurd (let z : false ≡ true = h in cc)
any_in p (x ∷ xs) h = elim (cases_Bool (p x)) [
  | inl e ↦ (x, inl refl, e)
  | inr e ↦ let r = any_in p xs (rw e at h) in (r.0, inr r.1, r.2)
]

pub in_any : {A : Type 0} (p : A → Bool) (xs : List A) (x : A) → In xs x → p x ≡ true → list_any p xs ≡ true
in_any p [] x i h = absurd i
in_any p (y ∷ xs) x (inl e) h = rw (ap p (sym e) ∙ h) refl
in_any p (y ∷ xs) x (inr i) h = elim (cases_Bool (p y)) [ inl e ↦ rw e refl | inr e ↦ rw e (in_any p xs x i h) ]

pub find_map : {A : Type 0} (q : A → Bool) (f : A → A) → ((x : A) → q (f x) ≡ q x) → (xs : List A) → find q (map f xs) ≡ option_map f (find q xs)
find_map q f e [] = refl
find_map q f e (x ∷ xs) = elim (cases_Bool (q x)) [
  | inl h ↦ rw (e x, h) refl
  | inr h ↦ rw (e x, h) (find_map q f e xs)
]

pub find_same : {A : Type 0} (p q : A → Bool) (xs : List A) → AllByRecursion (λ x. p x ≡ q x) xs → find p xs ≡ find q xs
find_same p q [] a = refl
find_same p q (x ∷ xs) a = elim (cases_Bool (q x)) [ inl e ↦ rw (a.0 ∙ e, e) refl | inr e ↦ rw (a.0 ∙ e, e) (find_same p q xs a.1) ]

pub nil_none : {A : Type 0} (p : A → Bool) (xs : List A) → xs ≡ [] → find p xs ≡ None
nil_none p xs e = ap (find p) e

pub none_any : {A : Type 0} (q : A → Bool) (xs : List A) → filter q xs ≡ [] → list_any q xs ≡ false
none_any q [] e = refl
none_any q (x ∷ xs) e = elim (cases_Bool (q x)) [ inl h ↦ (let f = rw h at e in absurd (cc)) | inr h ↦ rw h (none_any q xs (rw h at e)) ]

pub none_filter : {A : Type 0} (q : A → Bool) (xs : List A) → list_any q xs ≡ false → filter q xs ≡ []
none_filter q [] h = refl
none_filter q (x ∷ xs) h = elim (cases_Bool (q x)) [ inl e ↦ absurd (let z : true ≡ false = (rw e at h) in cc) | inr e ↦ rw e (none_filter q xs (rw e at h)) ]

pub find-filter : {A : Type 0} (p q : A → Bool) → ((x : A) → p x ≡ true → q x ≡ true) → (xs : List A) → find p (filter q xs) ≡ find p xs
find-filter p q h [] = refl
find-filter p q h (x ∷ xs) = elim (cases_Bool (q x)) [
  | inl e ↦ rw e (elim (cases_Bool (p x)) [ inl f ↦ rw f refl | inr f ↦ rw f (find-filter p q h xs) ])
  | inr e ↦ rw e (elim (cases_Bool (p x)) [ inl f ↦ clash (q x) (h x f) e | inr f ↦ rw f (find-filter p q h xs) ])
]

pub any-append : {A : Type 0} (p : A → Bool) (xs ys zs : List A) → list_any p xs ≡ list_any p ys → list_any p (xs ++ zs) ≡ list_any p (ys ++ zs)
any-append {A = A} p xs ys zs h = split xs ∙ ap (λ b. b || list_any p zs) h ∙ sym (split ys)
  where
    split : (xs : List A) → list_any p (xs ++ zs) ≡ (list_any p xs || list_any p zs)
    split [] = refl
    split (x ∷ xs) = ap (λ b. p x || b) (split xs) ∙ or_assoc (p x) (list_any p xs) (list_any p zs)

pub any-filter : {A : Type 0} (p q : A → Bool) → ((x : A) → p x ≡ true → q x ≡ true) → (xs : List A) → list_any p (filter q xs) ≡ list_any p xs
any-filter p q h [] = refl
any-filter p q h (x ∷ xs) = elim (cases_Bool (q x)) [
  | inl e ↦ rw e (ap (λ b. p x || b) (any-filter p q h xs))
  | inr e ↦ rw e (elim (cases_Bool (p x)) [ inl f ↦ clash (q x) (h x f) e | inr f ↦ rw f (any-filter p q h xs) ])
]
