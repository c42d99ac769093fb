-- Names in any order are read into their set.
use Rattle.std.proofs.Common.{◌≡◌, ℕ, ◌<◌, ◌≤◌, ◌==◌, not, true, false, ◌&&◌, inl, inr, List, [], ◌∷◌, ◌++◌, length, get_or, Ok, refl, sym, ap, subst, ◌∙◌, arith}
use Rattle.std.specs.List.{list_all}
use Rattle.std.proofs.lemmas.Bool.{eq-eqb, cases_Bool, not-true, and_parts}
use Rattle.std.proofs.lemmas.Bool.Decides.{nat_tests}
use Rattle.sg_base.specs.Sets.{with_member}
use Rattle.sg_model.specs.Lists.{has_text, is_in, all_differ}
use Rattle.sg_model.specs.Names.{Name, is_name, reserved}
use Rattle.sg_model.proofs.Small.{or_true}
use Rattle.sg_protocol.specs.Graph.{AreNumbers, AreNames}
use Rattle.sg_graph.proofs.Sets.{AreNumbers-with_member, AreNumbers-none, number_below}
use Rattle.sg_parse.specs.Grammar.{IsOrderOf, named, differ, SpellsClause, Without, With}
use Rattle.sg_parse.specs.Tokens.{is_word, is_named}
use Rattle.sg_parse.specs.Reading.{give, skip, more_names, some_names, read_clause}
use Rattle.sg_parse.specs.declared.token.TokenAt.{TokenAt}
use Rattle.sg_parse.specs.declared.token.Token.{Token}
use Rattle.sg_parse.specs.declared.token.Token.TheVariants.{Word}
use Rattle.sg_parse.proofs.Took.{bare}
use Rattle.sg_parse.proofs.Names.{named_there, index_there}
use Rattle.sg_parse.proofs.Middle.{name-at}
use Rattle.sg_parse.proofs.Sets.{is_in-with, joined_all, joined_order}
use Rattle.sg_parse.proofs.Gives.{Gives, gives-give, gives-after, gives-skip, gives-first, gives-second, head_is, word-is}

-- all of these numbers are indices, stand once, and are not in the set
record Joinable (k : ℕ) (set order : List ℕ) : Type 0 where
  below : (n : ℕ) → is_in n order ≡ true → n < k
  once : differ order ≡ true
  apart : (n : ℕ) → is_in n order ≡ true → is_in n set ≡ false

joinable-next : (width k x : ℕ) (set order : List ℕ) → AreNumbers k set → k ≤ width → Joinable k set (x ∷ order) → (x < k) × (is_in x set ≡ false) × Joinable k (with_member width set x) order
joinable-next width k x set order a w j =
    let e : (x == x) ≡ true = eq-eqb x x refl in
    let first : is_in x (x ∷ order) ≡ true = rw e refl in
    let l : x < k = j.below x first in
    let parts = and_parts (not (is_in x order)) (differ order) j.once in
    let out : is_in x order ≡ false = not-true (is_in x order) parts.0 in (
      l,
      j.apart x first,
      record {
        below = λ n i. j.below n (rw i (or_true (x == n)));
        once = parts.1;
        apart = λ n i. is_in-with width k x n set a l w ∙ rw (j.apart n (rw i (or_true (x == n)))) (other n i out);
      },
    )
  where
    other : (n : ℕ) → is_in n order ≡ true → is_in x order ≡ false → (x == n) ≡ false
    other n i out = elim (cases_Bool (x == n)) [
      | inl y ↦ (let same : x ≡ n = grind (arith, nat_tests, y) in let clash : is_in n order ≡ false = subst (λ m. is_in m order ≡ false) same out in absurd (cc))
      | inr d ↦ d
    ]

module _ (width : ℕ) (names : List Name) (are : AreNames names) (fits : length names ≤ width) where
  more-there : (order set : List ℕ) (us : List Token) (ps : List TokenAt) → AreNumbers (length names) set → Joinable (length names) set order → head_is is_named us ≡ false
      → bare ps ≡ named names order ++ us → (rest : List TokenAt) × (bare rest ≡ us) × (more_names width names set ps ≡ Ok (record { value = joined_all width set order; rest = rest }))
  more-there [] set us [] a j h e = ([], e, refl)
  more-there [] set us (p ∷ ps) a j h e =
      let away : is_named p.token ≡ false = ap (head_is is_named) e ∙ h in
      (p ∷ ps, e, rw away refl)
  more-there (x ∷ xs) set us [] a j h e = absurd (cc)
  more-there (x ∷ xs) set us (p ∷ ps) a j h e =
      let next = joinable-next width (length names) x set xs a fits j in
      let tok : p.token ≡ Word (get_or names x []) = cc in
      let rest : bare ps ≡ named names xs ++ us = cc in
      let parts = and_parts (list_all (λ n. is_name n && not (has_text n reserved)) names) (all_differ names) are in
      let free : has_text (get_or names x []) reserved ≡ false = name-at names x next.0 parts.0 in
      let r = more-there xs (with_member width set x) us ps (AreNumbers-with_member width (length names) x set a next.0) next.2 h rest in
      (r.0, r.1, rw (tok, free, named_there names x next.0, index_there names x parts.1 next.0, next.1) r.2)

  -- one or more names are read into their set
  pub gives-some : (set order : List ℕ) (us : List Token) → AreNumbers (length names) set → 1 ≤ length set → IsOrderOf set order → head_is is_named us ≡ false
      → Gives (some_names width names) (named names order) us set
  gives-some set [] us a l is h = record { go = λ ps e. absurd (empty set is.same l) }
    where
      empty : (set : List ℕ) → ((n : ℕ) → is_in n [] ≡ is_in n set) → 1 ≤ length set → ⊥
      empty [] same l = omega (arith, l)
      empty (x ∷ xs) same l = (let e : (x == x) ≡ true = eq-eqb x x refl in let no : false ≡ is_in x (x ∷ xs) = same x in let yes : is_in x (x ∷ xs) ≡ true = rw e refl in absurd (cc))
  gives-some set (x ∷ xs) us a l is h =
      let j : Joinable (length names) [] (x ∷ xs) = record {
        below = λ n i. number_below (length names) n set a (sym (is.same n) ∙ i);
        once = is.once;
        apart = λ n i. refl;
      } in
      let e : (x == x) ≡ true = eq-eqb x x refl in
      let first : is_in x (x ∷ xs) ≡ true = rw e refl in
      let parts = and_parts (list_all (λ n. is_name n && not (has_text n reserved)) names) (all_differ names) are in
      let free : has_text (get_or names x []) reserved ≡ false = name-at names x (j.below x first) parts.0 in
      let begins : head_is is_named (named names (x ∷ xs) ++ us) ≡ true = rw free refl in
      let all : joined_all width [] (x ∷ xs) ≡ set = joined_order width (length names) set (x ∷ xs) a fits is in
      let more : Gives (more_names width names []) (named names (x ∷ xs)) us (joined_all width [] (x ∷ xs)) =
      record { go = λ ps e. more-there (x ∷ xs) [] us ps (AreNumbers-none (length names)) j h e } in
      gives-first is_named (more_names width names []) _ (named names (x ∷ xs)) us set begins (subst (Gives (more_names width names []) (named names (x ∷ xs)) us) all more)

-- the variables of an edge after a word
pub gives-clause : (first : List ℕ) (names : List Name) (set : List ℕ) (ts us : List Token) → AreNames names → length names ≤ 32 → AreNumbers (length names) set → SpellsClause first names set ts
    → head_is is_named us ≡ false → head_is (is_word first) us ≡ false → Gives (read_clause first names) ts us set
gives-clause first names set ts us are fits a Without h away = gives-second (is_word first) _ (give []) [] us [] away (gives-give [] us)
gives-clause first names set ts us are fits a (With {order = order} l is) h away =
    gives-first (is_word first) _ (give []) (Word first ∷ named names order) us set (word-is first)
    (gives-after skip (λ _. some_names 32 names) (Word first ∷ []) (named names order) us tt set (gives-skip (Word first) (named names order ++ us)) (gives-some 32 names are fits set order us a l is h))
