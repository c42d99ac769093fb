-- What the table of names finds for a sid.
use Rattle.std.proofs.Common.{◌≡◌, ℕ, Bool, true, false, ◌||◌, sym, ap, ◌∙◌, refl, List, [], ◌∷◌, map, cond, if◌then◌else◌, Option, Some, None, is_some, bytes_eq, true≢false}
use Rattle.std.specs.Map.{keys_of, lookup}
use Rattle.std.proofs.lemmas.Slice.Eq.{slice_eq-Decides, bytes_eq-Decides}
use Rattle.std.proofs.lemmas.Bool.Decides.{Decides-eqb, same_from_decides}
use Rattle.sg_model.specs.Lists.{has_text}
use Rattle.sg_base.specs.contracts.number.SidPartialEq.TheImpl.{eq-value}

-- the `==` of sids
abbrev pub same : List ℕ → List ℕ → Bool
same a b = eq-value.it a b

-- it is that of texts
pub same-bytes_eq : (a b : List ℕ) → same a b ≡ bytes_eq a b
same-bytes_eq a b = same_from_decides _ _ (slice_eq-Decides Decides-eqb a b _ refl) (bytes_eq-Decides a b)

-- an entry of the table
abbrev pub Entry : Type 0
Entry = List ℕ × List ℕ

some_by : (b : Bool) (n : List ℕ) (found : Option (List ℕ)) (there : Bool) → is_some found ≡ there → is_some (cond b (Some n) found) ≡ b || there
some_by true n found there h = refl
some_by false n found there h = h

-- the table has a sid that stands in it
pub is_some-lookup : (sid : List ℕ) (es : List Entry) → is_some (lookup (same sid) es) ≡ has_text sid (keys_of es)
is_some-lookup sid [] = refl
is_some-lookup sid (e ∷ es) = rw (same-bytes_eq sid e.0) (some_by (bytes_eq sid e.0) e.1 _ _ (is_some-lookup sid es))

none_from : (found : Option (List ℕ)) → is_some found ≡ false → found ≡ None
none_from None h = refl
none_from (Some c) h = absurd (true≢false h)

-- the table has nothing for a sid that does not stand in it
pub lookup-absent : (sid : List ℕ) (es : List Entry) → has_text sid (keys_of es) ≡ false → lookup (same sid) es ≡ None
lookup-absent sid es h = none_from _ (is_some-lookup sid es ∙ h)

-- what the table of a function finds
module _ (f : List ℕ → List ℕ) where
  at_by : (b : Bool) (sid key : List ℕ) (there : Bool) → (b ≡ true → sid ≡ key) → cond b (Some (f key)) (if there then Some (f sid) else None) ≡ (if b || there then Some (f sid) else None)
  at_by true sid key there h = ap (λ k. Some (f k)) (sym (h refl))
  at_by false sid key there h = refl

  pub lookup-map : (sid : List ℕ) (ks : List (List ℕ)) → lookup (same sid) (map (λ k. (k, f k)) ks) ≡ (if has_text sid ks then Some (f sid) else None)
  lookup-map sid [] = refl
  lookup-map sid (k ∷ ks) = rw (same-bytes_eq sid k, lookup-map sid ks) (at_by (bytes_eq sid k) sid k (has_text sid ks) (λ e. (bytes_eq-Decides sid k).0 e))

  -- its keys
  pub keys_of-map : (ks : List (List ℕ)) → keys_of (map (λ k. (k, f k)) ks) ≡ ks
  keys_of-map [] = refl
  keys_of-map (k ∷ ks) = ap (λ r. k ∷ r) (keys_of-map ks)
