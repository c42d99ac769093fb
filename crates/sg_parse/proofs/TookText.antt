-- A text that is read spells the graph.
use Rattle.std.proofs.Common.{◌≡◌, ℕ, zero, suc, ◌+◌, ◌<◌, ◌≤◌, Bool, true, false, List, [], ◌∷◌, ◌++◌, length, Ok, refl, sym, subst, ◌∙◌, arith, inl, inr, ◌⊎◌}
use Rattle.sg_protocol.specs.Graph.{Graph, IsGraph}
use Rattle.sg_parse.specs.Grammar.{InTurn, Done, Then}
use Rattle.sg_parse.specs.Tokens.{is_word}
use Rattle.sg_parse.specs.Reading as Reading
use Rattle.sg_parse.specs.Reading.{Parsed, Parser, on, after, give, is_next, branch, token, name, read_role, read_variable, read_node, read_edge, read_head, read_roles, read_variables, read_nodes, read_edges, read_end, read_text, statement, up_to, no_more, whole, read}
use Rattle.sg_parse.specs.declared.token.TokenAt.{TokenAt}
use Rattle.sg_parse.specs.declared.token.Token.{Token}
use Rattle.sg_parse.specs.declared.token.Token.TheVariants.{Word}
use Rattle.sg_parse.specs.declared.fault.ParseFault.TheVariants.{TooMany}
use Rattle.sg_parse.proofs.Sound.{Sound}
use Rattle.sg_parse.proofs.Loops.{up_to-there, up_to-away, up_to-none}
use Rattle.sg_parse.proofs.Took.{Took, ok_same, err_ok, on-inv, branch-inv, took-both, took-give, took-token, only-word}
use Rattle.sg_parse.proofs.TookStatements.{Stepped}

-- the graph with parts added one after the other
abbrev pub adds : {A : Type 0} → (Graph → A → Graph) → Graph → List A → Graph
adds add g [] = g
adds add g (x ∷ xs) = adds add (add g x) xs

-- parts were added, and their statements taken
pub record Ran {A : Type 0} (add : Graph → A → Graph) (Spells : Graph → A → List Token → Type 0) (g : Graph) (ps : List TokenAt) (o : Parsed Graph) : Type 0 where
  pub parts : List A
  pub tokens : List Token
  pub value : adds add g parts ≡ o.value
  pub is_graph : IsGraph o.value
  pub spells : InTurn (Spells g) parts tokens
  pub took : Took ps o tokens

-- of statements in turn each may be seen otherwise
pub in_turn-map : {A : Type 0} (S T : A → List Token → Type 0) (xs : List A) (ts : List Token) → ((x : A) (us : List Token) → S x us → T x us) → InTurn S xs ts → InTurn T xs ts
in_turn-map S T [] ts k Done = Done
in_turn-map S T (x ∷ xs) ts k (Then s rest) = Then (k x _ s) (in_turn-map S T xs _ k rest)

module _ {A : Type 0} (add : Graph → A → Graph) (Spells : Graph → A → List Token → Type 0) (first : List ℕ) (reader : Graph → Parser Graph) (size : Graph → ℕ) (limit : ℕ)
    (grows : (g : Graph) (x : A) → size (add g x) ≡ suc (size g))
    (stays : (g : Graph) (x y : A) (ts : List Token) → Spells (add g x) y ts → Spells g y ts)
    (step : (g : Graph) (ps : List TokenAt) (o : Parsed Graph) → IsGraph g → size g < limit → Sound ps → reader g ps ≡ Ok o → Stepped add Spells first g ps o) where
  -- a statement with its first word
  took-statement : (g : Graph) (ps : List TokenAt) (o : Parsed Graph) → IsGraph g → size g < limit → Sound ps → statement first reader g ps ≡ Ok o
      → (x : A) × (ts : List Token) × (add g x ≡ o.value) × IsGraph (add g x) × Spells g x ts × Took ps o ts
  took-statement g ps o is room s h =
      let i = on-inv (token (is_word first) ps) (λ _. reader g) o h in
      let t = took-token (is_word first) (Word first) ps i.0 (only-word first) s i.1 in
      let d = step g (i.0).rest o is room t.sound i.2 in
      (d.part, Word first ∷ d.tokens, d.value, d.is_graph, d.spells, took-both ps i.0 o (Word first ∷ []) d.tokens t d.took)

  none_ran : (g : Graph) (ps : List TokenAt) (o : Parsed Graph) → IsGraph g → Sound ps → give g ps ≡ Ok o → Ran add Spells g ps o
  none_ran g ps o is s h =
      let e = took-give g ps o s h in
      record { parts = []; tokens = []; value = e.0; is_graph = subst IsGraph e.0 is; spells = Done; took = e.1 }

  -- a statement, and what ran behind it
  pub took-then : (least : ℕ) (next : Graph → Parser Graph) (g : Graph) (ps : List TokenAt) (o : Parsed Graph) → IsGraph g → size g < limit → Sound ps → on (statement first reader g ps) next ≡ Ok o
      → ((r : Parsed Graph) → IsGraph r.value → size r.value ≡ suc (size g) → Sound r.rest → next r.value r.rest ≡ Ok o → (q : Ran add Spells r.value r.rest o) × (least ≤ length q.parts))
      → (q : Ran add Spells g ps o) × (suc least ≤ length q.parts)
  took-then least next g ps o is room s h behind =
      let i = on-inv (statement first reader g ps) next o h in
      let d = took-statement g ps i.0 is room s i.1 in
      let is' : IsGraph (i.0).value = subst IsGraph d.2 d.3 in
      let grown : size (i.0).value ≡ suc (size g) = subst (λ k. size k ≡ suc (size g)) d.2 (grows g d.0) in
      let rest : (q : Ran add Spells (add g d.0) (i.0).rest o) × (least ≤ length q.parts) =
      subst (λ k. (q : Ran add Spells k (i.0).rest o) × (least ≤ length q.parts)) (sym d.2) (behind i.0 is' grown (d.5).sound i.2) in
      let many : suc least ≤ suc (length (rest.0).parts) = omega (arith, rest.1) in (
        record {
          parts = d.0 ∷ (rest.0).parts;
          tokens = d.1 ++ (rest.0).tokens;
          value = (rest.0).value;
          is_graph = (rest.0).is_graph;
          spells = Then d.4 (in_turn-map (Spells (add g d.0)) (Spells g) (rest.0).parts (rest.0).tokens (stays g d.0) (rest.0).spells);
          took = took-both ps i.0 o d.1 (rest.0).tokens d.5 (rest.0).took;
        },
        many,
      )

  -- statements, up to n of them
  pub took-up_to : (n : ℕ) (g : Graph) (ps : List TokenAt) (o : Parsed Graph) → IsGraph g → size g + n ≤ limit → Sound ps → up_to n first reader g ps ≡ Ok o → Ran add Spells g ps o
  took-up_to zero g ps o is room s h =
      let i = on-inv (no_more first ps) (λ _. give g) o (sym (up_to-none first reader g ps) ∙ h) in
      pick i.0 (branch-inv (is_word first) Reading.crowded (give tt) ps i.0 i.1) i.2
    where
      pick : (r : Parsed (Unit {0})) → ((is_next (is_word first) ps ≡ true) × (Reading.crowded ps ≡ Ok r)) ⊎ ((is_next (is_word first) ps ≡ false) × (give tt ps ≡ Ok r))
          → give g r.rest ≡ Ok o → Ran add Spells g ps o
      pick r (inl (e, k)) l = err_ok (TooMany (Reading.offset_of ps)) r k
      pick r (inr (e, k)) l = (let same : record { value = tt; rest = ps } ≡ r = ok_same (record { value = tt; rest = ps }) r k in none_ran g ps o is s (subst (λ (r : Parsed (Unit {0})). give g r.rest ≡ Ok o) (sym same) l))
  took-up_to (suc n) g ps o is room s h = first_of_all (is_next (is_word first) ps) refl (λ r i rm s' k. took-up_to n r.value r.rest o i rm s' k)
    where
      first_of_all : (b : Bool) → is_next (is_word first) ps ≡ b
          → ((r : Parsed Graph) → IsGraph r.value → size r.value + n ≤ limit → Sound r.rest → up_to n first reader r.value r.rest ≡ Ok o → Ran add Spells r.value r.rest o) → Ran add Spells g ps o
      first_of_all true e rest =
          let few : size g < limit = omega (arith, room) in
          (took-then zero (up_to n first reader) g ps o is few s (sym (up_to-there first reader n g ps e) ∙ h)
          (λ r is' grown s' k. (let fits : size r.value + n ≤ limit = omega (arith, grown, room) in (rest r is' fits s' k, omega arith)))).0
      first_of_all false e rest = none_ran g ps o is s (sym (up_to-away first reader (suc n) g ps e) ∙ h)

  -- one statement, and up to n behind it
  pub took-some : (n : ℕ) (g : Graph) (ps : List TokenAt) (o : Parsed Graph) → IsGraph g → size g + suc n ≤ limit → Sound ps → on (statement first reader g ps) (up_to n first reader) ≡ Ok o
      → (q : Ran add Spells g ps o) × (1 ≤ length q.parts)
  took-some n g ps o is room s h =
      let few : size g < limit = omega (arith, room) in
      took-then zero (up_to n first reader) g ps o is few s h
      (λ r is' grown s' k. (let fits : size r.value + n ≤ limit = omega (arith, grown, room) in (took-up_to n r.value r.rest o is' fits s' k, omega arith)))
