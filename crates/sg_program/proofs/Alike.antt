-- Programs of one name, of which a new one is the first or has the digest.
use Rattle.std.proofs.Common.{◌≡◌, ℕ, ◌==◌, not, Bool, true, false, ◌&&◌, ◌||◌, List, [], ◌∷◌, ◌++◌, map, bytes_eq, Option, Some, None, option_map, IsTrue, refl, sym, ap, ◌∙◌, subst, inl, inr, true≢false}
use Rattle.std.specs.List.{list_any, find, AllByRecursion}
use Rattle.std.specs.Option.{option_or}
use Rattle.std.proofs.lemmas.Slice.Eq.{bytes_eq-Decides}
use Rattle.std.proofs.lemmas.List.Folds.{find-append}
use Rattle.std.proofs.lemmas.Bool.{cases_Bool}
use Rattle.sg_model.proofs.Small.{or_false}
use Rattle.sg_protocol.specs.Graph.{Name}
use Rattle.sg_protocol.specs.Keyring.{Program}
use Rattle.sg_program.specs.Together.{is_named, is_pair, clashes, part_of}

-- the same name and role
abbrev pub is_part : Name → ℕ → Program → Bool
is_part n r q = is_named n q && (r == q.role)

-- without a program of the name none clashes
pub none_named : (p : Program) (xs : List Program) → find (is_named p.graph.name) xs ≡ None → list_any (clashes p) xs ≡ false
none_named p [] h = refl
none_named p (x ∷ xs) h =
    elim (cases_Bool (is_named p.graph.name x)) [
      | inl y ↦ absurd (some_not_none (rw y at h))
      | inr n ↦ rw n (none_named p xs (rw n at h))
    ]
  where
    some_not_none : {q : Program} → Some q ≡ None → ⊥
    some_not_none e = cc

-- the first of the name clashes if its digest is another
pub other_digest : (p f : Program) (xs : List Program) → find (is_named p.graph.name) xs ≡ Some f → bytes_eq p.digest f.digest ≡ false → list_any (clashes p) xs ≡ true
other_digest p f [] h other = absurd (cc)
other_digest p f (x ∷ xs) h other =
    elim (cases_Bool (is_named p.graph.name x)) [
      | inl y ↦
          (let same : x ≡ f = some_same (rw y at h) in
          let far : bytes_eq p.digest x.digest ≡ false = rw same other in
          rw (y, far) (or_true (p.role == x.role) _))
      | inr n ↦ rw n (other_digest p f xs (rw n at h) other)
    ]
  where
    some_same : {q r : Program} → Some q ≡ Some r → q ≡ r
    some_same e = cc

    or_true : (b c : Bool) → ((b || true) || c) ≡ true
    or_true true c = refl
    or_true false c = refl

-- if all of the name have the digest, those clash that have the role too
pub same_digest : (p : Program) (d : List ℕ) (xs : List Program) → d ≡ p.digest → AllByRecursion (λ q. IsTrue (is_named p.graph.name q) → d ≡ q.digest) xs
    → list_any (clashes p) xs ≡ list_any (is_part p.graph.name p.role) xs
same_digest p d [] e all = refl
same_digest p d (x ∷ xs) e all =
    let later = same_digest p d xs e all.1 in
    elim (cases_Bool (is_named p.graph.name x)) [
      | inl y ↦
          (let near : bytes_eq p.digest x.digest ≡ true = (bytes_eq-Decides p.digest x.digest).1 (sym e ∙ all.0 y) in
          rw (y, near, later) (ap (λ b. b || list_any (is_part p.graph.name p.role) xs) (or_false (p.role == x.role))))
      | inr n ↦ rw n later
    ]

-- a program that clashes with none has no part that is there
pub no_part : (p : Program) (xs : List Program) → list_any (clashes p) xs ≡ false → list_any (is_part p.graph.name p.role) xs ≡ false
no_part p [] h = refl
no_part p (x ∷ xs) h = by (is_named p.graph.name x) (p.role == x.role) (not (bytes_eq p.digest x.digest)) _ _ h (no_part p xs)
  where
    by : (n r d later there : Bool) → ((n && (r || d)) || later) ≡ false → (later ≡ false → there ≡ false) → ((n && r) || there) ≡ false
    by true true d later there h go = absurd (true≢false h)
    by true false true later there h go = absurd (true≢false h)
    by true false false later there h go = go h
    by false r d later there h go = go h

-- and has the digest of the first of its name
pub has_digest : (p f : Program) (xs : List Program) → list_any (clashes p) xs ≡ false → find (is_named p.graph.name) xs ≡ Some f → f.digest ≡ p.digest
has_digest p f xs h first =
    elim (cases_Bool (bytes_eq p.digest f.digest)) [
      | inl y ↦ sym ((bytes_eq-Decides p.digest f.digest).0 y)
      | inr n ↦ absurd (true≢false (sym (other_digest p f xs first n) ∙ h))
    ]

-- programs of a name have the digest of the first of them
pub digests_of : (n : Name) (f : Program) (whole xs : List Program) → find (is_named n) whole ≡ Some f
    → AllByRecursion (λ q. IsTrue (is_named n q) → option_map (λ p. p.digest) (find (is_named n) whole) ≡ Some q.digest) xs
    → AllByRecursion (λ q. IsTrue (is_named n q) → f.digest ≡ q.digest) xs
digests_of n f whole [] first all = tt
digests_of n f whole (x ∷ xs) first all =
    (λ y. digest_same (ap (option_map (λ (p : Program). p.digest)) (sym first) ∙ all.0 y), digests_of n f whole xs first all.1)
  where
    digest_same : {a b : List ℕ} → Some a ≡ Some b → a ≡ b
    digest_same e = cc

-- the name and the role stand among the parts if a program has both
pub any_part : (n : Name) (r : ℕ) (xs : List Program) → list_any (is_pair n r) (map part_of xs) ≡ list_any (is_part n r) xs
any_part n r [] = refl
any_part n r (x ∷ xs) = ap (λ b. is_part n r x || b) (any_part n r xs)

-- programs of one name have one digest, with one more that clashes with none
pub alike_more : (p : Program) (xs : List Program) → list_any (clashes p) xs ≡ false
    → ((n : Name) → AllByRecursion (λ q. IsTrue (is_named n q) → option_map (λ p. p.digest) (find (is_named n) xs) ≡ Some q.digest) xs)
    → (n : Name) → AllByRecursion (λ q. IsTrue (is_named n q) → option_map (λ p. p.digest) (find (is_named n) (xs ++ p ∷ [])) ≡ Some q.digest) (xs ++ p ∷ [])
alike_more p xs alone all n =
    joined xs (λ q. IsTrue (is_named n q) → option_map (λ p. p.digest) (find (is_named n) (xs ++ p ∷ [])) ≡ Some q.digest) old_ones (by (find (is_named n) xs) refl)
  where
    joined : (ys : List Program) (P : Program → Type 0) → AllByRecursion P ys → P p → AllByRecursion P (ys ++ p ∷ [])
    joined [] P before last = (last, tt)
    joined (y ∷ ys) P before last = (before.0, joined ys P before.1 last)

    kept : (o : Option Program) (q : Program) → option_map (λ p. p.digest) o ≡ Some q.digest → (there : Option Program) → option_map (λ p. p.digest) (option_or o there) ≡ Some q.digest
    kept None q h there = absurd (cc)
    kept (Some f) q h there = h

    weaker : (P Q : Program → Type 0) → ((q : Program) → P q → Q q) → (ys : List Program) → AllByRecursion P ys → AllByRecursion Q ys
    weaker P Q f [] h = tt
    weaker P Q f (y ∷ ys) h = (f y h.0, weaker P Q f ys h.1)

    old_ones : AllByRecursion (λ q. IsTrue (is_named n q) → option_map (λ p. p.digest) (find (is_named n) (xs ++ p ∷ [])) ≡ Some q.digest) xs
    old_ones = weaker (λ q. IsTrue (is_named n q) → option_map (λ p. p.digest) (find (is_named n) xs) ≡ Some q.digest) (λ q. IsTrue (is_named n q) → option_map (λ p. p.digest) (find (is_named n) (xs ++ p ∷ [])) ≡ Some q.digest)
        (λ q h y. ap (option_map (λ (p : Program). p.digest)) (find-append (is_named n) xs (p ∷ [])) ∙ kept (find (is_named n) xs) q (h y) (find (is_named n) (p ∷ []))) xs (all n)

    by : (o : Option Program) → find (is_named n) xs ≡ o → IsTrue (is_named n p) → option_map (λ p. p.digest) (find (is_named n) (xs ++ p ∷ [])) ≡ Some p.digest
    by None e y = rw (find-append (is_named n) xs (p ∷ []), e, y) refl
    by (Some f) e y =
        let same : n ≡ p.graph.name = (bytes_eq-Decides n p.graph.name).0 y in
        let first : find (is_named p.graph.name) xs ≡ Some f = subst (λ m. find (is_named m) xs ≡ Some f) same e in
        rw (find-append (is_named n) xs (p ∷ []), e) (ap Some (has_digest p f xs alone first))
