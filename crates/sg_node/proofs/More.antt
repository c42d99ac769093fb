-- What holds of one element more.
use Rattle.std.proofs.Common.{◌≡◌, ℕ, zero, suc, ◌+◌, ◌<◌, Bool, true, false, List, [], ◌∷◌, length, drop, get_or, bytes_eq, if◌then◌else◌, ◌||◌, refl, sym, ◌∙◌, ap, arith, add-one}
use Rattle.sg_model.specs.Lists.{has_text}

text_left : (t : List ℕ) (ts : List (List ℕ)) (i : ℕ) (d : List ℕ) → i < length ts → has_text t (drop i ts) ≡ (if bytes_eq t (get_or ts i d) then true else has_text t (drop (suc i) ts))
text_left t [] i d l = absurd (omega (arith, l))
text_left t (x ∷ xs) zero d l = by (bytes_eq t x)
  where
    by : (b : Bool) → (b || has_text t xs) ≡ (if b then true else has_text t xs)
    by true = refl
    by false = refl
text_left t (x ∷ xs) (suc i) d l = text_left t xs i d (omega (arith, l))

module _ (t : List ℕ) (ts : List (List ℕ)) (i : ℕ) (x : List ℕ) (l : i < length ts) (is : x ≡ get_or ts i x) (e : has_text t ts ≡ has_text t (drop i ts)) where
  -- the next text is this one
  pub text_here : bytes_eq t x ≡ true → true ≡ has_text t ts
  text_here b = sym (e ∙ text_left t ts i x l ∙ ap (λ b. if b then true else has_text t (drop (suc i) ts)) (ap (bytes_eq t) (sym is) ∙ b))

  -- it is another one
  pub text_next : bytes_eq t x ≡ false → has_text t ts ≡ has_text t (drop (i + 1) ts)
  text_next b = e ∙ text_left t ts i x l ∙ ap (λ b. if b then true else has_text t (drop (suc i) ts)) (ap (bytes_eq t) (sym is) ∙ b) ∙ ap (λ k. has_text t (drop k ts)) (sym (add-one i))
