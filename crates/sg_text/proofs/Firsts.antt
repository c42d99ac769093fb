-- Texts where they stand first.
use Rattle.std.proofs.Common.{◌≡◌, ℕ, Bool, true, false, not, ◌||◌, sym, ap, ◌∙◌, refl, List, [], ◌∷◌, ◌++◌, filter, cond, bytes_eq, true≢false, append-nil}
use Rattle.std.proofs.lemmas.Bool.{or_parts}
use Rattle.std.proofs.lemmas.List.Elements.{filter-append}
use Rattle.std.proofs.lemmas.Slice.Eq.{bytes_eq-Decides}
use Rattle.sg_model.specs.Lists.{has_text}
use Rattle.sg_text.specs.Sessions.{firsts}

-- what is left of texts still has a text that passes
module _ (q : List ℕ → Bool) (t : List ℕ) where
  pub has_text-filter : q t ≡ true → (ts : List (List ℕ)) → has_text t (filter q ts) ≡ has_text t ts
  has_text-filter passes [] = refl
  has_text-filter passes (u ∷ us) = by (q u) refl (has_text-filter passes us)
    where
      apart : (b : Bool) → bytes_eq t u ≡ b → q u ≡ false → bytes_eq t u ≡ false
      apart false e miss = e
      apart true e miss = absurd (true≢false (sym passes ∙ ap q ((bytes_eq-Decides t u).0 e) ∙ miss))

      by : (b : Bool) → q u ≡ b → has_text t (filter q us) ≡ has_text t us → has_text t (cond b (u ∷ filter q us) (filter q us)) ≡ has_text t (u ∷ us)
      by true e rest = ap (λ r. bytes_eq t u || r) rest
      by false e rest = rest ∙ ap (λ b. b || has_text t us) (sym (apart (bytes_eq t u) refl e))

  -- and none that wasn't there
  pub has_text-filtered : (ts : List (List ℕ)) → has_text t ts ≡ false → has_text t (filter q ts) ≡ false
  has_text-filtered [] h = h
  has_text-filtered (u ∷ us) h = by (q u) (has_text-filtered us (or_parts (bytes_eq t u) (has_text t us) h).1)
    where
      by : (b : Bool) → has_text t (filter q us) ≡ false → has_text t (cond b (u ∷ filter q us) (filter q us)) ≡ false
      by true rest = ap (λ b. b || has_text t (filter q us)) (or_parts (bytes_eq t u) (has_text t us) h).0 ∙ rest
      by false rest = rest

-- the same texts stand there
pub has_text-firsts : (t : List ℕ) (ts : List (List ℕ)) → has_text t (firsts ts) ≡ has_text t ts
has_text-firsts t [] = refl
has_text-firsts t (u ∷ us) = by (bytes_eq t u) refl (has_text-firsts t us)
  where
    by : (b : Bool) → bytes_eq t u ≡ b → has_text t (firsts us) ≡ has_text t us → (bytes_eq t u || has_text t (filter (λ s. not (bytes_eq s u)) (firsts us))) ≡ (bytes_eq t u || has_text t us)
    by true e rest = ap (λ b. b || has_text t (filter (λ s. not (bytes_eq s u)) (firsts us))) e ∙ ap (λ b. b || has_text t us) (sym e)
    by false e rest = ap (λ r. bytes_eq t u || r) (has_text-filter (λ s. not (bytes_eq s u)) t (ap not e) (firsts us) ∙ rest)

-- a new text is the last one
pub firsts-new : (t : List ℕ) (ts : List (List ℕ)) → has_text t ts ≡ false → firsts (ts ++ t ∷ []) ≡ firsts ts ++ t ∷ []
firsts-new t [] h = refl
firsts-new t (u ∷ us) h =
    let miss = or_parts (bytes_eq t u) (has_text t us) h in
    ap (λ r. u ∷ r) (
    ap (filter (λ s. not (bytes_eq s u))) (firsts-new t us miss.1) ∙ filter-append (λ s. not (bytes_eq s u)) (firsts us) (t ∷ [])
    ∙ ap (λ b. filter (λ s. not (bytes_eq s u)) (firsts us) ++ cond (not b) (t ∷ []) []) miss.0)

-- a text that is there changes nothing
pub firsts-again : (t : List ℕ) (ts : List (List ℕ)) → has_text t ts ≡ true → firsts (ts ++ t ∷ []) ≡ firsts ts
firsts-again t [] h = absurd (true≢false (sym h))
firsts-again t (u ∷ us) h = ap (λ r. u ∷ r) (by (has_text t us) refl (firsts-again t us))
  where
    here : (b : Bool) → bytes_eq t u ≡ b → has_text t us ≡ false → bytes_eq t u ≡ true
    here true e miss = e
    here false e miss = absurd (true≢false (sym h ∙ ap (λ c. c || has_text t us) e ∙ miss))

    by : (b : Bool) → has_text t us ≡ b → (has_text t us ≡ true → firsts (us ++ t ∷ []) ≡ firsts us) → filter (λ s. not (bytes_eq s u)) (firsts (us ++ t ∷ [])) ≡ filter (λ s. not (bytes_eq s u)) (firsts us)
    by true e rest = ap (filter (λ s. not (bytes_eq s u))) (rest e)
    by false e rest =
        ap (filter (λ s. not (bytes_eq s u))) (firsts-new t us e) ∙ filter-append (λ s. not (bytes_eq s u)) (firsts us) (t ∷ [])
        ∙ ap (λ b. filter (λ s. not (bytes_eq s u)) (firsts us) ++ cond (not b) (t ∷ []) []) (here (bytes_eq t u) refl e)
        ∙ append-nil (filter (λ s. not (bytes_eq s u)) (firsts us))
