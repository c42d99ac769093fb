-- Names that the tokens spell are read to their indices.
use Rattle.std.proofs.Common.{◌≡◌, ℕ, suc, ◌<◌, ◌≤◌, ◌==◌, not, Bool, true, false, ◌&&◌, inl, inr, List, [], ◌∷◌, ◌++◌, length, get_or, Ok, refl, sym, ap, subst, ◌∙◌, arith, append_assoc, append-nil}
use Rattle.std.specs.Prelude.{All}
use Rattle.std.specs.List.{list_all}
use Rattle.std.proofs.lemmas.Bool.{eq-eqb, cases_Bool, not-true, and_parts}
use Rattle.std.proofs.lemmas.Bool.Decides.{nat_tests}
use Rattle.sg_model.specs.Lists.{has_text, is_in, all_differ}
use Rattle.sg_model.specs.Names.{Name, is_name, reserved}
use Rattle.sg_model.proofs.Numbers.{is_in-more}
use Rattle.sg_model.proofs.Small.{or_true}
use Rattle.sg_protocol.specs.Graph.{AreNames}
use Rattle.sg_parse.specs.Grammar.{named, differ}
use Rattle.sg_parse.specs.PartsReading.{more_indices, some_indices}
use Rattle.sg_parse.specs.declared.token.TokenAt.{TokenAt}
use Rattle.sg_parse.specs.declared.token.Token.{Token}
use Rattle.sg_parse.specs.declared.token.Token.TheVariants.{Word}
use Rattle.sg_parse.proofs.Took.{bare}
use Rattle.sg_parse.proofs.Names.{named_there, index_there}
use Rattle.sg_parse.proofs.Gives.{Gives, gives-first, head_is}

module _ (test : Token → Bool) (names : List Name) (are : AreNames names) where
  -- the names at these indices are there, and pass the test
  more-there : (order indices : List ℕ) (us : List Token) (ps : List TokenAt) → All (λ n. n < length names) order → All (λ n. test (Word (get_or names n [])) ≡ true) order
      → differ order ≡ true → ((n : ℕ) → is_in n order ≡ true → is_in n indices ≡ false) → head_is test us ≡ false → bare ps ≡ named names order ++ us
      → (rest : List TokenAt) × (bare rest ≡ us) × (more_indices test names indices ps ≡ Ok (record { value = indices ++ order; rest = rest }))
  more-there [] indices us [] below passes once apart h e = ([], e, ap (λ l. Ok (record { value = l; rest = [] })) (sym (append-nil indices)))
  more-there [] indices us (p ∷ ps) below passes once apart h e =
      let away : test p.token ≡ false = ap (head_is test) e ∙ h in
      (p ∷ ps, e, rw away (ap (λ l. Ok (record { value = l; rest = p ∷ ps })) (sym (append-nil indices))))
  more-there (x ∷ xs) indices us [] below passes once apart h e = absurd (cc)
  more-there (x ∷ xs) indices us (p ∷ ps) below passes once apart h e =
      let l : x < length names = below 0 x (omega arith) in
      let tok : p.token ≡ Word (get_or names x []) = cc in
      let rest : bare ps ≡ named names xs ++ us = cc in
      let parts = and_parts (list_all (λ n. is_name n && not (has_text n reserved)) names) (all_differ names) are in
      let is : test (Word (get_or names x [])) ≡ true = passes 0 x (omega arith) in
      let same : (x == x) ≡ true = eq-eqb x x refl in
      let new : is_in x indices ≡ false = apart x (rw same refl) in
      let once' = and_parts (not (is_in x xs)) (differ xs) once in
      let absent : is_in x xs ≡ false = not-true (is_in x xs) once'.0 in
      let r = more-there xs (indices ++ x ∷ []) us ps (λ k d l. below (suc k) d (omega (arith, l))) (λ k d l. passes (suc k) d (omega (arith, l))) once'.1
      (λ n i. is_in-more n x indices ∙ rw (apart n (rw i (or_true (x == n)))) (other n i absent)) h rest in
      (r.0, r.1, rw (tok, is, named_there names x l, index_there names x parts.1 l, new) (r.2 ∙ ap (λ l. Ok (record { value = l; rest = r.0 })) (append_assoc indices (x ∷ []) xs)))
    where
      other : (n : ℕ) → is_in n xs ≡ true → is_in x xs ≡ false → (x == n) ≡ false
      other n i absent = elim (cases_Bool (x == n)) [
        | inl y ↦ (let same : x ≡ n = grind (arith, nat_tests, y) in let clash : is_in n xs ≡ false = subst (λ m. is_in m xs ≡ false) same absent in absurd (cc))
        | inr d ↦ d
      ]

  -- one or more names
  pub gives-indices : (order : List ℕ) (us : List Token) → 1 ≤ length order → All (λ n. n < length names) order → All (λ n. test (Word (get_or names n [])) ≡ true) order
      → differ order ≡ true → head_is test us ≡ false → Gives (some_indices test names) (named names order) us order
  gives-indices [] us some below passes once h = absurd (omega (arith, some))
  gives-indices (x ∷ xs) us some below passes once h =
      let begins : head_is test (named names (x ∷ xs) ++ us) ≡ true = passes 0 x (omega arith) in
      let more : Gives (more_indices test names []) (named names (x ∷ xs)) us (x ∷ xs) = record { go = λ ps e. more-there (x ∷ xs) [] us ps below passes once (λ n i. refl) h e } in
      gives-first test (more_indices test names []) _ (named names (x ∷ xs)) us (x ∷ xs) begins more
