-- Names, roles and variables as a use gives them.
use Rattle.std.proofs.Common.{◌≡◌, ℕ, ◌+◌, ◌<◌, ◌≤◌, ◌==◌, nat_le, nat_lt, not, Bool, true, false, inl, inr, List, [], ◌∷◌, ◌++◌, map, filter, length, bytes_eq, refl, sym, ap, subst, ◌∙◌, arith}
use Rattle.std.specs.List.{list_all}
use Rattle.std.proofs.lemmas.Bool.{eq-eqb, cases_Bool, not-true, and_parts}
use Rattle.std.proofs.lemmas.Bool.Decides.{nat_tests}
use Rattle.std.proofs.lemmas.List.{map-append}
use Rattle.std.proofs.lemmas.Slice.Eq.{bytes_eq-Decides}
use Rattle.sg_base.specs.Sets.{with_member, set_of}
use Rattle.sg_base.proofs.SetLaws.{is_in-filter, with_member-set_of}
use Rattle.sg_model.specs.Lists.{below, is_in, has_text, rises_from}
use Rattle.sg_model.specs.Names.{Name, reserved}
use Rattle.sg_model.proofs.Small.{or_true}
use Rattle.sg_protocol.specs.Graph.{AreNumbers}
use Rattle.sg_graph.proofs.Rising.{one_if, below_more, below_zero, below_all}
use Rattle.sg_graph.proofs.Sets.{rises_filter, all_filter}

-- ---- names

has-score : (u n : List ℕ) → is_in 95 (u ++ 95 ∷ n) ≡ true
has-score [] n = refl
has-score (x ∷ u) n = elim (cases_Bool (x == 95)) [
  | inl y ↦ rw y refl
  | inr d ↦ rw d (has-score u n)
]

free-of : (t : Name) (ws : List Name) → is_in 95 t ≡ true → list_all (λ w. not (is_in 95 w)) ws ≡ true → has_text t ws ≡ false
free-of t [] h a = refl
free-of t (w ∷ ws) h a =
    let parts = and_parts (not (is_in 95 w)) (list_all (λ w. not (is_in 95 w)) ws) a in
    let out : is_in 95 w ≡ false = not-true (is_in 95 w) parts.0 in
    let apart : bytes_eq t w ≡ false = elim (cases_Bool (bytes_eq t w)) [
      | inl y ↦ (let same : t ≡ w = (bytes_eq-Decides t w).0 y in let clash : is_in 95 w ≡ true = subst (λ v. is_in 95 v ≡ true) same h in absurd (cc))
      | inr d ↦ d
    ] in
    rw (apart, free-of t ws h parts.1) refl

-- a name with an underscore is no reserved word
pub inner-free : (u n : Name) → has_text (u ++ 95 ∷ n) reserved ≡ false
inner-free u n = free-of (u ++ 95 ∷ n) reserved (has-score u n) refl

-- ---- numbers in rising order

none-pass : (xs : List ℕ) → filter (λ x. false) xs ≡ []
none-pass [] = refl
none-pass (x ∷ xs) = none-pass xs

module _ (w : ℕ) (f : ℕ → ℕ) (xs : List ℕ) (n : ℕ) (are : AreNumbers n xs) where
  parts' : (rises_from 0 xs ≡ true) × (list_all (λ k. nat_lt k n) xs ≡ true)
  parts' = and_parts (rises_from 0 xs) (list_all (λ k. nat_lt k n) xs) are

  -- before the first number
  pub gathered-none : [] ≡ set_of w (map f (filter (λ x. nat_lt x 0) xs))
  unfolding set_of
  gathered-none = sym (ap (λ l. set_of w (map f l)) (below_zero xs) ∙ none-pass (below w))

  -- a number that is there
  pub gathered-there : (i : ℕ) (out : List ℕ) → is_in i xs ≡ true → out ≡ set_of w (map f (filter (λ x. nat_lt x i) xs)) → with_member w out (f i) ≡ set_of w (map f (filter (λ x. nat_lt x (i + 1)) xs))
  gathered-there i out there so_far =
      let step : filter (λ x. nat_lt x (i + 1)) xs ≡ filter (λ x. nat_lt x i) xs ++ one_if (is_in i xs) i = below_more 0 i xs parts'.0 in
      let step' : filter (λ x. nat_lt x (i + 1)) xs ≡ filter (λ x. nat_lt x i) xs ++ i ∷ [] = step ∙ ap (λ b. filter (λ x. nat_lt x i) xs ++ one_if b i) there in
      ap (λ l. with_member w l (f i)) so_far ∙ with_member-set_of w (f i) (map f (filter (λ x. nat_lt x i) xs)) ∙ ap (set_of w) (sym (map-append f (filter (λ x. nat_lt x i) xs) (i ∷ [])) ∙ ap (map f) (sym step'))

  -- a number that isn't
  pub gathered-away : (i : ℕ) (out : List ℕ) → is_in i xs ≡ false → out ≡ set_of w (map f (filter (λ x. nat_lt x i) xs)) → out ≡ set_of w (map f (filter (λ x. nat_lt x (i + 1)) xs))
  gathered-away i out away so_far =
      let step : filter (λ x. nat_lt x (i + 1)) xs ≡ filter (λ x. nat_lt x i) xs ++ one_if (is_in i xs) i = below_more 0 i xs parts'.0 in
      let same : filter (λ x. nat_lt x (i + 1)) xs ≡ filter (λ x. nat_lt x i) xs = step ∙ ap (λ b. filter (λ x. nat_lt x i) xs ++ one_if b i) away ∙ append-none (filter (λ x. nat_lt x i) xs) in
      so_far ∙ ap (λ l. set_of w (map f l)) (sym same)
    where
      append-none : (l : List ℕ) → l ++ [] ≡ l
      append-none [] = refl
      append-none (x ∷ l) = ap (λ k. x ∷ k) (append-none l)

  -- all numbers
  pub gathered-all : (i : ℕ) (out : List ℕ) → n ≤ i → out ≡ set_of w (map f (filter (λ x. nat_lt x i) xs)) → out ≡ set_of w (map f xs)
  gathered-all i out le so_far = so_far ∙ ap (λ l. set_of w (map f l)) (below_all i xs (more xs parts'.1))
    where
      more : (ks : List ℕ) → list_all (λ k. nat_lt k n) ks ≡ true → list_all (λ k. nat_lt k i) ks ≡ true
      more [] h = refl
      more (k ∷ ks) h =
          let p = and_parts (nat_lt k n) (list_all (λ k. nat_lt k n) ks) h in
          let here : nat_lt k i ≡ true = grind (arith, nat_tests, p.0) in
          rw (here, more ks p.1) refl

  pub number-below : (i : ℕ) → is_in i xs ≡ true → i < n
  number-below i h = go xs parts'.1 h
    where
      go : (ks : List ℕ) → list_all (λ k. nat_lt k n) ks ≡ true → is_in i ks ≡ true → i < n
      go [] a h = absurd (cc)
      go (k ∷ ks) a h = (let p = and_parts (nat_lt k n) (list_all (λ k. nat_lt k n) ks) a in elim (cases_Bool (k == i)) [
        | inl y ↦ (let same : k ≡ i = grind (arith, nat_tests, y) in let less : k < n = grind (arith, nat_tests, p.0) in omega (arith, same, less))
        | inr d ↦ go ks p.1 (rw d at h)
      ])

-- numbers below n in rising order
pub set_of-numbers : (w n : ℕ) (f : ℕ → ℕ) (xs : List ℕ) → ((x : ℕ) → is_in x xs ≡ true → f x < n) → AreNumbers n (set_of w (map f xs))
unfolding set_of
set_of-numbers w n f xs low =
    let p : ℕ → Bool = λ x. is_in x (map f xs) in
    rw (rises_filter p 0 0 w (omega arith), all_filter p n 0 w (λ y h. image y xs low h)) refl
  where
    image : (y : ℕ) (xs : List ℕ) → ((x : ℕ) → is_in x xs ≡ true → f x < n) → is_in y (map f xs) ≡ true → nat_lt y n ≡ true
    image y [] low h = absurd (cc)
    image y (x ∷ xs) low h = elim (cases_Bool (f x == y)) [
      | inl e ↦ (let same : f x ≡ y = grind (arith, nat_tests, e) in let yes : (x == x) ≡ true = eq-eqb x x refl in let less : f x < n = low x (rw yes refl) in grind (arith, nat_tests, less, same))
      | inr d ↦ image y xs (λ z i. low z (rw i (or_true (x == z)))) (rw d at h)
    ]

-- some number
pub set_of-some : (w : ℕ) (f : ℕ → ℕ) (xs : List ℕ) → 0 < length xs → ((x : ℕ) → f x < w) → 0 < length (set_of w (map f xs))
unfolding set_of
set_of-some w f [] l low = absurd (omega arith)
set_of-some w f (x ∷ xs) l low =
    let yes : (f x == f x) ≡ true = eq-eqb (f x) (f x) refl in
    let a : nat_le 0 (f x) ≡ true = grind (arith, nat_tests) in
    let less : f x < w = low x in
    let b : nat_lt (f x) (0 + w) ≡ true = grind (arith, nat_tests, less) in
    let there : is_in (f x) (set_of w (map f (x ∷ xs))) ≡ true = is_in-filter (λ z. is_in z (map f (x ∷ xs))) 0 w (f x) ∙ rw (a, b, yes) refl in
    some (f x) (set_of w (map f (x ∷ xs))) there
  where
    some : (y : ℕ) (ys : List ℕ) → is_in y ys ≡ true → 0 < length ys
    some y [] h = absurd (cc)
    some y (z ∷ ys) h = omega arith
