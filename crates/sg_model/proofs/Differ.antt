-- Texts of a list, and texts that are all different, with one more.
use Rattle.std.proofs.Common.{◌≡◌, ℕ, Bool, true, false, not, ◌&&◌, ◌||◌, List, [], ◌∷◌, ◌++◌, bytes_eq, refl, ap, ◌∙◌}
use Rattle.std.proofs.lemmas.Bool.{not-true, or_parts, and_parts}
use Rattle.sg_model.specs.Lists.{all_differ, has_text}
use Rattle.sg_model.proofs.Small.{bytes_eq-swap, or_false, or_assoc}

-- a text in a list with one more
pub has_text-append : (t : List ℕ) (ts : List (List ℕ)) (u : List ℕ) → has_text t (ts ++ u ∷ []) ≡ (has_text t ts || bytes_eq t u)
has_text-append t [] u = or_false (bytes_eq t u)
has_text-append t (x ∷ xs) u = ap (λ b. bytes_eq t x || b) (has_text-append t xs u) ∙ or_assoc (bytes_eq t x) _ _

-- a text that is in neither of two lists, and one that is in the second
pub no_text_both : (t : List ℕ) (xs ys : List (List ℕ)) → has_text t xs ≡ false → has_text t ys ≡ false → has_text t (xs ++ ys) ≡ false
no_text_both t [] ys a b = b
no_text_both t (x ∷ xs) ys a b = let k = or_parts (bytes_eq t x) (has_text t xs) a in rw k.0 (no_text_both t xs ys k.1 b)

pub later_text : (t : List ℕ) (xs ys : List (List ℕ)) → has_text t ys ≡ true → has_text t (xs ++ ys) ≡ true
later_text t [] ys h = h
later_text t (x ∷ xs) ys h = or_later (bytes_eq t x) (later_text t xs ys h)
  where
    or_later : (a : Bool) {b : Bool} → b ≡ true → (a || b) ≡ true
    or_later true h = refl
    or_later false h = h

-- different texts stay so with one more that is not among them
pub all_differ-append : (ts : List (List ℕ)) (t : List ℕ) → all_differ ts ≡ true → has_text t ts ≡ false → all_differ (ts ++ t ∷ []) ≡ true
all_differ-append [] t h absent = refl
all_differ-append (x ∷ xs) t h absent =
    let (here, later) = and_parts (not (has_text x xs)) (all_differ xs) h in
    let (other, gone) = or_parts (bytes_eq t x) (has_text t xs) absent in
    rw (has_text-append x xs t, bytes_eq-swap x t, other, all_differ-append xs t later gone) (kept (has_text x xs) here)
  where
    kept : (b : Bool) → not b ≡ true → (not (b || false) && true) ≡ true
    kept true h = h
    kept false h = refl

no_middle : (x t : List ℕ) (ts us : List (List ℕ)) → has_text x (ts ++ t ∷ us) ≡ false → bytes_eq x t ≡ false
no_middle x t [] us h = (or_parts (bytes_eq x t) (has_text x us) h).0
no_middle x t (y ∷ ys) us h = no_middle x t ys us (or_parts (bytes_eq x y) (has_text x (ys ++ t ∷ us)) h).1

-- of different texts none stands before itself
pub absent_before : (ts : List (List ℕ)) (t : List ℕ) (us : List (List ℕ)) → all_differ (ts ++ t ∷ us) ≡ true → has_text t ts ≡ false
absent_before [] t us h = refl
absent_before (x ∷ xs) t us h =
    let (here, later) = and_parts (not (has_text x (xs ++ t ∷ us))) (all_differ (xs ++ t ∷ us)) h in
    rw (bytes_eq-swap t x, no_middle x t xs us (not-true _ here)) (absent_before xs t us later)
