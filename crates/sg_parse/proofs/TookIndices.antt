-- Indices of names that are read are those of the names that the tokens spell.
use Rattle.std.proofs.Common.{◌≡◌, ℕ, zero, suc, ◌≤◌, ◌==◌, Bool, true, false, ◌||◌, ◌⊎◌, inl, inr, List, [], ◌∷◌, ◌++◌, length, get_or, Ok, Err, refl, sym, ap, subst, ◌∙◌, arith, if◌then◌else◌, append_assoc, append-nil}
use Rattle.std.specs.Prelude.{All}
use Rattle.std.proofs.lemmas.Bool.{eq-eqb, cases_Bool}
use Rattle.std.proofs.lemmas.Bool.Decides.{nat_tests}
use Rattle.sg_model.specs.Lists.{has_text, is_in}
use Rattle.sg_model.specs.Names.{Name}
use Rattle.sg_model.proofs.Numbers.{is_in-more}
use Rattle.sg_model.proofs.Small.{or_true, first_false}
use Rattle.sg_parse.specs.Grammar.{named, differ}
use Rattle.sg_parse.specs.PartsReading.{with_index, more_indices, some_indices}
use Rattle.sg_parse.specs.Tokens.{text_of}
use Rattle.sg_parse.specs.Reading as Reading
use Rattle.sg_parse.specs.Reading.{Parsed, on, give, known, is_next, index_of}
use Rattle.sg_parse.specs.declared.token.TokenAt.{TokenAt}
use Rattle.sg_parse.specs.declared.token.Token.{Token}
use Rattle.sg_parse.specs.declared.token.Token.TheVariants.{Word}
use Rattle.sg_parse.specs.declared.fault.ParseFault.TheVariants.{Twice, UnknownName}
use Rattle.sg_parse.proofs.Sound.{IsSpelled, Sound}
use Rattle.sg_parse.proofs.Took.{Took, bare, err_ok, branch-inv, took-give, index_has}

-- what holds of each number of a list
all-in : (P : ℕ → Type 0) (xs : List ℕ) → ((n : ℕ) → is_in n xs ≡ true → P n) → All P xs
all-in P [] h k d l = absurd (omega arith)
all-in P (x ∷ xs) h zero d l = (let same : (x == x) ≡ true = eq-eqb x x refl in h x (rw same refl))
all-in P (x ∷ xs) h (suc k) d l = all-in P xs (λ n i. h n (rw i (or_true (x == n)))) k d (omega (arith, l))

-- names that pass the test, each of them one of these names, at an index of which something holds
module _ (test : Token → Bool) (names : List Name) (Fits : ℕ → Type 0)
    (fits : (t : Token) → IsSpelled t → test t ≡ true → (t ≡ Word (text_of t)) × (has_text (text_of t) names ≡ true → Fits (index_of (text_of t) names))) where
  -- the indices that were read behind others
  record TookIndices (indices : List ℕ) (ps : List TokenAt) (o : Parsed (List ℕ)) : Type 0 where
    order : List ℕ
    took : Took ps o (named names order)
    value : indices ++ order ≡ o.value
    once : differ order ≡ true
    apart : (n : ℕ) → is_in n order ≡ true → is_in n indices ≡ false
    each : (n : ℕ) → is_in n order ≡ true → Fits n
    some : is_next test ps ≡ true → 1 ≤ length order

  none-took : (indices : List ℕ) (ps : List TokenAt) (o : Parsed (List ℕ)) → Sound ps → is_next test ps ≡ false → give indices ps ≡ Ok o → TookIndices indices ps o
  none-took indices ps o s away h =
      let g = took-give indices ps o s h in
      record {
        order = [];
        took = g.1;
        value = append-nil indices ∙ g.0;
        once = refl;
        apart = λ n e. absurd (cc);
        each = λ n e. absurd (cc);
        some = λ e. absurd (cc);
      }

  one-took : (indices : List ℕ) (p : TokenAt) (ps : List TokenAt) (o : Parsed (List ℕ)) → p.token ≡ Word (text_of p.token)
      → has_text (text_of p.token) names ≡ true → Fits (index_of (text_of p.token) names) → is_in (index_of (text_of p.token) names) indices ≡ false
      → TookIndices (indices ++ index_of (text_of p.token) names ∷ []) ps o → TookIndices indices (p ∷ ps) o
  one-took indices p ps o w has is new t =
      let index : ℕ = index_of (text_of p.token) names in
      let there = index_has (text_of p.token) names has in
      let same : (index == index) ≡ true = eq-eqb index index refl in
      let absent : is_in index t.order ≡ false = elim (cases_Bool (is_in index t.order)) [
        | inl y ↦
            (let clash : is_in index (indices ++ index ∷ []) ≡ true = is_in-more index index indices ∙ rw (new, same) refl in
            let clash' : is_in index (indices ++ index ∷ []) ≡ false = t.apart index y in
            absurd (cc))
        | inr n ↦ n
      ] in
      record {
        order = index ∷ t.order;
        took = record { begins = (rw there.1 (ap (λ u. u ∷ bare ps) w)) ∙ ap (λ l. Word (get_or names index []) ∷ l) t.took.begins; sound = t.took.sound };
        value = sym (append_assoc indices (index ∷ []) t.order) ∙ t.value;
        once = rw (absent, t.once) refl;
        apart = λ n e. apart' index n t.order new e (λ i. sym (is_in-more n index indices) ∙ t.apart n i);
        each = λ n e. each' index n t.order is e (t.each n);
        some = λ e. omega arith;
      }
    where
      apart' : (index n : ℕ) (order : List ℕ) → is_in index indices ≡ false → is_in n (index ∷ order) ≡ true → (is_in n order ≡ true → (is_in n indices || (index == n)) ≡ false) → is_in n indices ≡ false
      apart' index n order new e later = elim (cases_Bool (index == n)) [
        | inl y ↦ (let same : index ≡ n = grind (arith, nat_tests, y) in subst (λ k. is_in k indices ≡ false) same new)
        | inr d ↦ first_false (is_in n indices) (index == n) (later (rw d at e))
      ]

      each' : (index n : ℕ) (order : List ℕ) → Fits index → is_in n (index ∷ order) ≡ true → (is_in n order ≡ true → Fits n) → Fits n
      each' index n order is e later = elim (cases_Bool (index == n)) [
        | inl y ↦ (let same : index ≡ n = grind (arith, nat_tests, y) in subst Fits same is)
        | inr d ↦ later (rw d at e)
      ]

  -- all names that follow
  more-took : (indices : List ℕ) (ps : List TokenAt) (o : Parsed (List ℕ)) → Sound ps → more_indices test names indices ps ≡ Ok o → TookIndices indices ps o
  more-took indices [] o s h = none-took indices [] o s refl h
  more-took indices (p ∷ ps) o s h = first (test p.token) refl h (λ next k. more-took next ps o s.2 k)
    where
      second : (x y : Bool) → (p.token ≡ Word (text_of p.token)) × (has_text (text_of p.token) names ≡ true → Fits (index_of (text_of p.token) names)) → has_text (text_of p.token) names ≡ x
          → is_in (index_of (text_of p.token) names) indices ≡ y
          → on (known (if x then (if y then Err (Twice p.at) else Ok (indices ++ index_of (text_of p.token) names ∷ [])) else Err (UnknownName p.at)) ps) (λ next _. more_indices test names next ps) ≡ Ok o
          → ((next : List ℕ) → more_indices test names next ps ≡ Ok o → TookIndices next ps o) → TookIndices indices (p ∷ ps) o
      second true true w ex ey k rest = err_ok (Twice p.at) o k
      second false y w ex ey k rest = err_ok (UnknownName p.at) o k
      second true false w ex ey k rest = one-took indices p ps o w.0 ex (w.1 ex) ey (rest (indices ++ index_of (text_of p.token) names ∷ []) k)

      first : (b : Bool) → test p.token ≡ b
          → (if b then on (known (with_index names indices (text_of p.token, p.at)) ps) (λ next _. more_indices test names next ps) else give indices (p ∷ ps)) ≡ Ok o
          → ((next : List ℕ) → more_indices test names next ps ≡ Ok o → TookIndices next ps o) → TookIndices indices (p ∷ ps) o
      first true e k rest = second (has_text (text_of p.token) names) (is_in (index_of (text_of p.token) names) indices) (fits p.token s.0 e) refl refl k rest
      first false e k rest = none-took indices (p ∷ ps) o s e k

  -- one or more names
  pub took-indices : (ps : List TokenAt) (o : Parsed (List ℕ)) → Sound ps → some_indices test names ps ≡ Ok o
      → Took ps o (named names o.value) × (1 ≤ length o.value) × All Fits o.value × (differ o.value ≡ true)
  took-indices ps o s h = pick (branch-inv test (more_indices test names []) Reading.refused ps o h)
    where
      pick : ((is_next test ps ≡ true) × (more_indices test names [] ps ≡ Ok o)) ⊎ ((is_next test ps ≡ false) × (Reading.refused ps ≡ Ok o))
          → Took ps o (named names o.value) × (1 ≤ length o.value) × All Fits o.value × (differ o.value ≡ true)
      pick (inl (e, k)) =
          let t = more-took [] ps o s k in
          subst (λ (l : List ℕ). Took ps o (named names l) × (1 ≤ length l) × All Fits l × (differ l ≡ true)) t.value
          (t.took, t.some e, all-in Fits t.order t.each, t.once)
      pick (inr (e, k)) = err_ok (Reading.refusal ps) o k
