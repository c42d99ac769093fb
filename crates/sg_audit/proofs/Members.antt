-- Lists of events that rise and have the same members.
use Rattle.std.proofs.Common.{◌≡◌, ℕ, zero, suc, ◌<◌, ◌≤◌, Bool, true, ◌⊎◌, inl, inr, List, [], ◌∷◌, ◌++◌, filter, length, get_or, refl, sym, ap, ◌∙◌, subst, arith}
use Rattle.std.specs.Prelude.{IsPermutation}
use Rattle.std.specs.List.{Contains}
use Rattle.std.proofs.lemmas.List.Sorted.{Contains-permutation, IsPermutation-sym}
use Rattle.std.proofs.lemmas.Bool.{cases_Bool}
use Rattle.sg_protocol.specs.Calls.{Event}
use Rattle.sg_audit.specs.Merged.{moment, AscendFrom}
use Rattle.sg_audit.proofs.Moments.{RiseFrom, rise_lower, ascend_lower}

-- x is one of the list
abbrev pub In : {X : Type 0} → X → List X → Type 0
In x [] = ⊥
In x (y ∷ ys) = (y ≡ x) ⊎ In x ys

contains_in : {X : Type 0} (x : X) (xs : List X) → In x xs → Contains xs x
contains_in x [] h = absurd h
contains_in x (y ∷ ys) (inl e) = (0, omega arith, e)
contains_in x (y ∷ ys) (inr h) = let c = contains_in x ys h in (suc c.0, (let b = c.1 in omega arith), c.2)

in_contains : {X : Type 0} (x : X) (xs : List X) (k : ℕ) → k < length xs → get_or xs k x ≡ x → In x xs
in_contains x [] k l e = absurd (omega arith)
in_contains x (y ∷ ys) zero l e = inl e
in_contains x (y ∷ ys) (suc k) l e = inr (in_contains x ys k (omega arith) e)

-- the members of a list are those of its elements in another order
pub in_permuted : {X : Type 0} (x : X) (xs ys : List X) → IsPermutation xs ys → In x xs → In x ys
in_permuted x xs ys p h = let c = Contains-permutation xs ys x p (contains_in x xs h) in in_contains x ys c.0 c.1 c.2

pub in_permuted_back : {X : Type 0} (x : X) (xs ys : List X) → IsPermutation xs ys → In x ys → In x xs
in_permuted_back x xs ys p h = in_permuted x ys xs (IsPermutation-sym xs ys p) h

pub in_left : {X : Type 0} (x : X) (xs ys : List X) → In x xs → In x (xs ++ ys)
in_left x [] ys h = absurd h
in_left x (z ∷ zs) ys (inl e) = inl e
in_left x (z ∷ zs) ys (inr h) = inr (in_left x zs ys h)

pub in_right : {X : Type 0} (x : X) (xs ys : List X) → In x ys → In x (xs ++ ys)
in_right x [] ys h = h
in_right x (z ∷ zs) ys h = inr (in_right x zs ys h)

pub in_either : {X : Type 0} (x : X) (xs ys : List X) → In x (xs ++ ys) → In x xs ⊎ In x ys
in_either x [] ys h = inr h
in_either x (z ∷ zs) ys (inl e) = inl (inl e)
in_either x (z ∷ zs) ys (inr h) = elim (in_either x zs ys h) [ inl a ↦ inl (inr a) | inr b ↦ inr b ]

-- ---- filters

pub in_kept : {X : Type 0} (p : X → Bool) (x : X) (xs : List X) → In x (filter p xs) → In x xs × (p x ≡ true)
in_kept p x [] h = absurd h
in_kept p x (y ∷ ys) h = elim (cases_Bool (p y)) [ inl t ↦ here t (λ g. in_kept p x ys g) (rw t at h) | inr f ↦ (let r = in_kept p x ys (rw f at h) in (inr r.0, r.1)) ]
  where
    here : p y ≡ true → (In x (filter p ys) → In x ys × (p x ≡ true)) → In x (y ∷ filter p ys) → In x (y ∷ ys) × (p x ≡ true)
    here t more (inl e) = (inl e, subst (λ z. p z ≡ true) e t)
    here t more (inr g) = let r = more g in (inr r.0, r.1)

pub kept_in : {X : Type 0} (p : X → Bool) (x : X) (xs : List X) → In x xs → p x ≡ true → In x (filter p xs)
kept_in p x [] h t = absurd h
kept_in p x (y ∷ ys) (inl e) t = let t' : p y ≡ true = subst (λ z. p z ≡ true) (sym e) t in rw t' (inl e)
kept_in p x (y ∷ ys) (inr h) t = elim (cases_Bool (p y)) [ inl u ↦ rw u (inr (kept_in p x ys h t)) | inr u ↦ rw u (kept_in p x ys h t) ]

pub rise_kept : (p : Event → Bool) (a : ℕ) (es : List Event) → RiseFrom a es → RiseFrom a (filter p es)
rise_kept p a [] h = tt
rise_kept p a (e ∷ es) h =
    let more = rise_kept p (suc (moment e)) es h.1 in
    elim (cases_Bool (p e)) [ inl t ↦ rw t (h.0, more) | inr f ↦ rw f (rise_lower (suc (moment e)) a (filter p es) (let l = h.0 in omega arith) more) ]

pub ascend_kept : (p : Event → Bool) (a : ℕ) (es : List Event) → AscendFrom a es → AscendFrom a (filter p es)
ascend_kept p a [] h = tt
ascend_kept p a (e ∷ es) h =
    let more = ascend_kept p (moment e) es h.1 in
    elim (cases_Bool (p e)) [ inl t ↦ rw t (h.0, more) | inr f ↦ rw f (ascend_lower (moment e) a (filter p es) h.0 more) ]

-- ---- lists that rise

low : (a : ℕ) (x : Event) (es : List Event) → RiseFrom a es → In x es → a ≤ moment x
low a x [] h i = absurd i
low a x (e ∷ es) h (inl q) = subst (λ z. a ≤ moment z) q h.0
low a x (e ∷ es) h (inr i) = let b = low (suc (moment e)) x es h.1 i in let l = h.0 in omega arith

-- two lists that rise and have the same members are one
pub one_rising : (a b : ℕ) (xs ys : List Event) → RiseFrom a xs → RiseFrom b ys → ((x : Event) → In x xs → In x ys) → ((x : Event) → In x ys → In x xs) → xs ≡ ys
one_rising a b [] [] h g to from = refl
one_rising a b [] (y ∷ ys) h g to from = absurd (from y (inl refl))
one_rising a b (x ∷ xs) [] h g to from = absurd (to x (inl refl))
one_rising a b (x ∷ xs) (y ∷ ys) h g to from =
    let same = heads (to x (inl refl)) (from y (inl refl)) in
    subst (λ z. x ∷ xs ≡ z ∷ ys) (sym same) (ap (λ zs. x ∷ zs) (one_rising (suc (moment x)) (suc (moment y)) xs ys h.1 g.1 (λ z i. forth z i same (to z (inr i))) (λ z i. back z i same (from z (inr i)))))
  where
    heads : In x (y ∷ ys) → In y (x ∷ xs) → y ≡ x
    heads (inl e) j = e
    heads (inr i) (inl e) = sym e
    heads (inr i) (inr j) = let p = low (suc (moment y)) x ys g.1 i in let q = low (suc (moment x)) y xs h.1 j in absurd (omega arith)

    forth : (z : Event) → In z xs → y ≡ x → In z (y ∷ ys) → In z ys
    forth z i same (inl e) = let p = low (suc (moment x)) z xs h.1 i in let q : moment z ≡ moment x = ap moment (sym e ∙ same) in absurd (omega arith)
    forth z i same (inr j) = j

    back : (z : Event) → In z ys → y ≡ x → In z (x ∷ xs) → In z xs
    back z i same (inl e) = let p = low (suc (moment y)) z ys g.1 i in let q : moment z ≡ moment y = ap moment (sym e ∙ sym same) in absurd (omega arith)
    back z i same (inr j) = j
