-- Names that are read into a set.
use Rattle.std.proofs.Common.{◌≡◌, ℕ, ◌≤◌, ◌==◌, Bool, true, false, ◌||◌, ◌⊎◌, inl, inr, List, [], ◌∷◌, length, get_or, Ok, Err, refl, sym, ap, subst, ◌∙◌, arith, if◌then◌else◌}
use Rattle.std.proofs.lemmas.Bool.{eq-eqb, cases_Bool}
use Rattle.std.proofs.lemmas.Bool.Decides.{nat_tests}
use Rattle.sg_base.specs.Sets.{with_member}
use Rattle.sg_model.specs.Lists.{has_text, is_in}
use Rattle.sg_model.specs.Names.{Name}
use Rattle.sg_model.proofs.Small.{first_false}
use Rattle.sg_protocol.specs.Graph.{AreNumbers}
use Rattle.sg_graph.proofs.Sets.{AreNumbers-with_member, AreNumbers-none}
use Rattle.sg_parse.specs.Grammar.{IsOrderOf, named, differ, SpellsClause, Without, With}
use Rattle.sg_parse.specs.Tokens.{is_word, is_named, text_of}
use Rattle.sg_parse.specs.Reading as Reading
use Rattle.sg_parse.specs.Reading.{Parsed, Parser, on, after, give, is_next, branch, token, skip, known, joined, more_names, some_names, index_of, read_clause}
use Rattle.sg_parse.specs.declared.token.TokenAt.{TokenAt}
use Rattle.sg_parse.specs.declared.token.Token.{Token}
use Rattle.sg_parse.specs.declared.token.Token.TheVariants.{Word}
use Rattle.sg_parse.specs.declared.fault.ParseFault.TheVariants.{Twice, UnknownName}
use Rattle.sg_parse.proofs.Sound.{Sound}
use Rattle.sg_parse.proofs.Sets.{is_in-with, some-in}
use Rattle.sg_parse.proofs.Took.{Took, bare, err_ok, branch-inv, took-give, named-word, index_has, only-word}

-- the names that joined a set
pub record TookSet (names : List Name) (set : List ℕ) (ps : List TokenAt) (o : Parsed (List ℕ)) : Type 0 where
  pub order : List ℕ
  pub took : Took ps o (named names order)
  pub members : (n : ℕ) → is_in n o.value ≡ (is_in n set || is_in n order)
  pub once : differ order ≡ true
  pub apart : (n : ℕ) → is_in n order ≡ true → is_in n set ≡ false
  pub there : AreNumbers (length names) o.value
  pub some : is_next is_named ps ≡ true → 1 ≤ length order

no_more_names : (names : List Name) (set : List ℕ) (ps : List TokenAt) (o : Parsed (List ℕ)) → Sound ps → AreNumbers (length names) set → is_next is_named ps ≡ false → give set ps ≡ Ok o → TookSet names set ps o
no_more_names names set ps o s a away h =
    let g = took-give set ps o s h in
    record {
      order = [];
      took = g.1;
      members = λ n. rw (← g.0) (or_false (is_in n set));
      once = refl;
      apart = λ n e. absurd (cc);
      there = subst (AreNumbers (length names)) g.0 a;
      some = λ e. absurd (cc);
    }
  where
    or_false : (b : Bool) → b ≡ (b || false)
    or_false true = refl
    or_false false = refl

-- an index that joins a set stands in none of the later ones
module _ (names : List Name) (width : ℕ) (set : List ℕ) (index : ℕ) (ps : List TokenAt) (o : Parsed (List ℕ)) (new : is_in index set ≡ false)
    (with' : (n : ℕ) → is_in n (with_member width set index) ≡ (is_in n set || (index == n))) (t : TookSet names (with_member width set index) ps o) where
  absent : is_in index t.order ≡ false
  absent = elim (cases_Bool (is_in index t.order)) [
    | inl y ↦
        (let same : (index == index) ≡ true = eq-eqb index index refl in
        let clash : false ≡ (is_in index set || (index == index)) = sym (t.apart index y) ∙ with' index in
        let clash' : false ≡ true = rw (new, same) at clash in
        absurd (cc))
    | inr n ↦ n
  ]

  apart' : (n : ℕ) → is_in n (index ∷ t.order) ≡ true → is_in n set ≡ false
  apart' n e = elim (cases_Bool (index == n)) [
    | inl y ↦ (let same : index ≡ n = grind (arith, nat_tests, y) in subst (λ k. is_in k set ≡ false) same new)
    | inr d ↦
        (let later : is_in n t.order ≡ true = rw d at e in
        let both : (is_in n set || (index == n)) ≡ false = sym (with' n) ∙ t.apart n later in
        first_false (is_in n set) (index == n) both)
  ]

module _ (width : ℕ) (names : List Name) (fits : length names ≤ width) where
  one_name : (set : List ℕ) (p : TokenAt) (ps : List TokenAt) (o : Parsed (List ℕ)) → AreNumbers (length names) set → p.token ≡ Word (text_of p.token)
      → has_text (text_of p.token) names ≡ true → is_in (index_of (text_of p.token) names) set ≡ false
      → TookSet names (with_member width set (index_of (text_of p.token) names)) ps o → TookSet names set (p ∷ ps) o
  one_name set p ps o a w has new t =
      let index : ℕ = index_of (text_of p.token) names in
      let there = index_has (text_of p.token) names has in
      let with' : (n : ℕ) → is_in n (with_member width set index) ≡ (is_in n set || (index == n)) = λ n. is_in-with width (length names) index n set a there.0 fits in
      record {
        order = index ∷ t.order;
        took = record { begins = (rw there.1 (ap (λ u. u ∷ bare ps) w)) ∙ ap (λ l. Word (get_or names index []) ∷ l) t.took.begins; sound = t.took.sound };
        members = λ n. t.members n ∙ rw (with' n) (or_assoc (is_in n set) (index == n) (is_in n t.order));
        once = (let out = absent names width set index ps o new with' t in rw (out, t.once) refl);
        apart = λ n e. apart' names width set index ps o new with' t n e;
        there = t.there;
        some = λ e. omega arith;
      }
    where
      or_assoc : (a b c : Bool) → ((a || b) || c) ≡ (a || (b || c))
      or_assoc true b c = refl
      or_assoc false b c = refl

  -- one or more names are joined
  pub took-more : (set : List ℕ) (ps : List TokenAt) (o : Parsed (List ℕ)) → Sound ps → AreNumbers (length names) set → more_names width names set ps ≡ Ok o → TookSet names set ps o
  took-more set [] o s a h = no_more_names names set [] o s a refl h
  took-more set (p ∷ ps) o s a h = first (is_named p.token) refl h (λ next b k. took-more next ps o s.2 b k)
    where
      second : (x y : Bool) → p.token ≡ Word (text_of p.token) → has_text (text_of p.token) names ≡ x → is_in (index_of (text_of p.token) names) set ≡ y
          → on (known (if x then (if y then Err (Twice p.at) else Ok (with_member width set (index_of (text_of p.token) names))) else Err (UnknownName p.at)) ps) (λ next _. more_names width names next ps) ≡ Ok o
          → ((next : List ℕ) → AreNumbers (length names) next → more_names width names next ps ≡ Ok o → TookSet names next ps o) → TookSet names set (p ∷ ps) o
      second true true w ex ey k rest = err_ok (Twice p.at) o k
      second false y w ex ey k rest = err_ok (UnknownName p.at) o k
      second true false w ex ey k rest =
          one_name set p ps o a w ex ey (rest (with_member width set (index_of (text_of p.token) names))
          (AreNumbers-with_member width (length names) (index_of (text_of p.token) names) set a (index_has (text_of p.token) names ex).0) k)

      first : (b : Bool) → is_named p.token ≡ b
          → (if b then on (known (joined width names set (text_of p.token, p.at)) ps) (λ next _. more_names width names next ps) else give set (p ∷ ps)) ≡ Ok o
          → ((next : List ℕ) → AreNumbers (length names) next → more_names width names next ps ≡ Ok o → TookSet names next ps o) → TookSet names set (p ∷ ps) o
      first true e k rest = second (has_text (text_of p.token) names) (is_in (index_of (text_of p.token) names) set) (named-word p.token s.0 e).0 refl refl k rest
      first false e k rest = no_more_names names set (p ∷ ps) o s a e k

  -- the names of a list
  pub took-some : (ps : List TokenAt) (o : Parsed (List ℕ)) → Sound ps → some_names width names ps ≡ Ok o
      → (order : List ℕ) × Took ps o (named names order) × IsOrderOf o.value order × AreNumbers (length names) o.value × (1 ≤ length o.value)
  took-some ps o s h = pick (branch-inv is_named (more_names width names []) Reading.refused ps o h)
    where
      some : (order : List ℕ) → 1 ≤ length order → ((n : ℕ) → is_in n o.value ≡ is_in n order) → 1 ≤ length o.value
      some [] l m = absurd (omega arith)
      some (x ∷ xs) l m = (let e : is_in x (x ∷ xs) ≡ true = (let same : (x == x) ≡ true = eq-eqb x x refl in rw same refl) in some-in x o.value (m x ∙ e))

      pick : ((is_next is_named ps ≡ true) × (more_names width names [] ps ≡ Ok o)) ⊎ ((is_next is_named ps ≡ false) × (Reading.refused ps ≡ Ok o))
          → (order : List ℕ) × Took ps o (named names order) × IsOrderOf o.value order × AreNumbers (length names) o.value × (1 ≤ length o.value)
      pick (inl (e, k)) =
          let t = took-more [] ps o s (AreNumbers-none (length names)) k in
          (t.order, t.took, record { same = λ n. sym (t.members n); once = t.once }, t.there, some t.order (t.some e) t.members)
      pick (inr (e, k)) = err_ok (Reading.refusal ps) o k

-- the variables of an edge after a word
pub took-clause : (first : List ℕ) (names : List Name) (ps : List TokenAt) (o : Parsed (List ℕ)) → length names ≤ 32 → Sound ps → read_clause first names ps ≡ Ok o
    → (ts : List Token) × Took ps o ts × SpellsClause first names o.value ts × AreNumbers (length names) o.value
took-clause first names ps o fits s h = pick (branch-inv (is_word first) (after skip λ _. some_names 32 names) (give []) ps o h)
  where
    there : (ps : List TokenAt) → Sound ps → is_next (is_word first) ps ≡ true → on (skip ps) (λ _. some_names 32 names) ≡ Ok o
        → (ts : List Token) × Took ps o ts × SpellsClause first names o.value ts × AreNumbers (length names) o.value
    there [] s e k = absurd (cc)
    there (p ∷ ps) s e k =
        let t = took-some 32 names fits ps o s.2 k in
        (Word first ∷ named names t.0, record { begins = ap (λ u. u ∷ bare ps) (only-word first p.token e) ∙ ap (λ l. Word first ∷ l) (t.1).begins; sound = (t.1).sound }, With t.4 t.2, t.3)

    away : (x : List ℕ) → ([] ≡ x) → Took ps o [] → x ≡ o.value → SpellsClause first names o.value []
    away x e t f = subst (λ v. SpellsClause first names v []) (e ∙ f) Without

    pick : ((is_next (is_word first) ps ≡ true) × (on (skip ps) (λ _. some_names 32 names) ≡ Ok o)) ⊎ ((is_next (is_word first) ps ≡ false) × (give [] ps ≡ Ok o))
        → (ts : List Token) × Took ps o ts × SpellsClause first names o.value ts × AreNumbers (length names) o.value
    pick (inl (e, k)) = there ps s e k
    pick (inr (e, k)) = (let g = took-give [] ps o s k in ([], g.1, away [] refl g.1 g.0, subst (AreNumbers (length names)) g.0 (AreNumbers-none (length names))))
