-- Walks by their length, and those of one length by their labels.
use Rattle.std.proofs.Common.{◌≡◌, ℕ, ◌+◌, ◌<◌, ◌⊎◌, List, [], ◌∷◌, ◌++◌, length, refl, sym, ◌∙◌, ap, subst, inl, inr, arith}
use Rattle.sg_model.proofs.Small.{length-more}
use Rattle.sg_claims.specs.Breaks.{AreInOrder}

-- at the first index where the lists differ the first one has the smaller number
abbrev pub IsBelow : List ℕ → List ℕ → Type 0
IsBelow [] ys = ⊥
IsBelow (x ∷ xs) [] = ⊥
IsBelow (x ∷ xs) (y ∷ ys) = (x < y) ⊎ ((x ≡ y) × IsBelow xs ys)

-- the first list is shorter, or as long and below the second
abbrev pub IsBefore : List ℕ → List ℕ → Type 0
IsBefore xs ys = (length xs < length ys) ⊎ ((length xs ≡ length ys) × IsBelow xs ys)

-- the lists are the same, or the first is before the second
abbrev pub IsUpTo : List ℕ → List ℕ → Type 0
IsUpTo xs ys = (xs ≡ ys) ⊎ IsBefore xs ys

below_on : (xs ys zs : List ℕ) → IsBelow xs ys → IsBelow ys zs → IsBelow xs zs
below_on [] ys zs a b = absurd a
below_on (x ∷ xs) [] zs a b = absurd a
below_on (x ∷ xs) (y ∷ ys) [] a b = absurd b
below_on (x ∷ xs) (y ∷ ys) (z ∷ zs) (inl p) (inl q) = inl (omega arith)
below_on (x ∷ xs) (y ∷ ys) (z ∷ zs) (inl p) (inr q) = inl (let e = q.0 in omega arith)
below_on (x ∷ xs) (y ∷ ys) (z ∷ zs) (inr p) (inl q) = inl (let e = p.0 in omega arith)
below_on (x ∷ xs) (y ∷ ys) (z ∷ zs) (inr p) (inr q) = inr (p.0 ∙ q.0, below_on xs ys zs p.1 q.1)

below_more : (xs ys : List ℕ) (e f : ℕ) → IsBelow xs ys → IsBelow (xs ++ e ∷ []) (ys ++ f ∷ [])
below_more [] ys e f a = absurd a
below_more (x ∷ xs) [] e f a = absurd a
below_more (x ∷ xs) (y ∷ ys) e f (inl p) = inl p
below_more (x ∷ xs) (y ∷ ys) e f (inr p) = inr (p.0, below_more xs ys e f p.1)

below_last : (xs : List ℕ) (e f : ℕ) → e < f → IsBelow (xs ++ e ∷ []) (xs ++ f ∷ [])
below_last [] e f l = inl l
below_last (x ∷ xs) e f l = inr (refl, below_last xs e f l)

in_order_same : (xs : List ℕ) → AreInOrder xs xs
in_order_same [] = tt
in_order_same (x ∷ xs) = inr (refl, in_order_same xs)

in_order_below : (xs ys : List ℕ) → IsBelow xs ys → AreInOrder xs ys
in_order_below [] ys a = absurd a
in_order_below (x ∷ xs) [] a = absurd a
in_order_below (x ∷ xs) (y ∷ ys) (inl p) = inl p
in_order_below (x ∷ xs) (y ∷ ys) (inr p) = inr (p.0, in_order_below xs ys p.1)

-- a walk before one that is before another is before that one
pub before_on : (xs ys zs : List ℕ) → IsBefore xs ys → IsBefore ys zs → IsBefore xs zs
before_on xs ys zs (inl p) (inl q) = inl (omega arith)
before_on xs ys zs (inl p) (inr q) = inl (let e = q.0 in omega arith)
before_on xs ys zs (inr p) (inl q) = inl (let e = p.0 in omega arith)
before_on xs ys zs (inr p) (inr q) = inr (p.0 ∙ q.0, below_on xs ys zs p.1 q.1)

pub up_to_before : (xs ys zs : List ℕ) → IsUpTo xs ys → IsBefore ys zs → IsBefore xs zs
up_to_before xs ys zs (inl same) b = subst (λ w. IsBefore w zs) (sym same) b
up_to_before xs ys zs (inr a) b = before_on xs ys zs a b

pub before_up_to : (xs ys zs : List ℕ) → IsBefore xs ys → IsUpTo ys zs → IsBefore xs zs
before_up_to xs ys zs a (inl same) = subst (λ w. IsBefore xs w) same a
before_up_to xs ys zs a (inr b) = before_on xs ys zs a b

pub up_to_on : (xs ys zs : List ℕ) → IsUpTo xs ys → IsUpTo ys zs → IsUpTo xs zs
up_to_on xs ys zs a (inl same) = subst (λ w. IsUpTo xs w) same a
up_to_on xs ys zs a (inr b) = inr (up_to_before xs ys zs a b)

-- with one label more at the end of each, what was before stays before
pub before_more : (xs ys : List ℕ) (e f : ℕ) → IsBefore xs ys → IsBefore (xs ++ e ∷ []) (ys ++ f ∷ [])
before_more xs ys e f a =
    let x = length-more xs e in
    let y = length-more ys f in
    elim a [ inl p ↦ inl (omega (arith, x, y, p)) | inr p ↦ inr (x ∙ ap (λ n. n + 1) p.0 ∙ sym y, below_more xs ys e f p.1) ]

-- with a smaller label at its end a walk is before itself with a greater one
pub before_last : (xs : List ℕ) (e f : ℕ) → e < f → IsBefore (xs ++ e ∷ []) (xs ++ f ∷ [])
before_last xs e f l = inr (length-more xs e ∙ sym (length-more xs f), below_last xs e f l)

-- a walk is before itself with one label more
pub before_longer : (xs : List ℕ) (e : ℕ) → IsBefore xs (xs ++ e ∷ [])
before_longer xs e = inl (let x = length-more xs e in omega arith)

pub up_to_more : (xs ys : List ℕ) (e f : ℕ) → IsUpTo xs ys → (e ≡ f) ⊎ (e < f) → IsUpTo (xs ++ e ∷ []) (ys ++ f ∷ [])
up_to_more xs ys e f (inr b) l = inr (before_more xs ys e f b)
up_to_more xs ys e f (inl same) (inl l) = inl (ap (λ w. w ++ e ∷ []) same ∙ ap (λ k. ys ++ k ∷ []) l)
up_to_more xs ys e f (inl same) (inr l) = inr (subst (λ w. IsBefore (xs ++ e ∷ []) (w ++ f ∷ [])) same (before_last xs e f l))

-- of two walks of which the first is up to the second the first comes first
pub comes_first : (xs ys : List ℕ) → IsUpTo xs ys → (length xs < length ys) ⊎ ((length xs ≡ length ys) × AreInOrder xs ys)
comes_first xs ys (inl same) = inr (ap length same, subst (λ w. AreInOrder xs w) same (in_order_same xs))
comes_first xs ys (inr (inl p)) = inl p
comes_first xs ys (inr (inr p)) = inr (p.0, in_order_below xs ys p.1)
