-- Parts that are read are spelled by the text.
use Rattle.std.proofs.Common.{◌≡◌, ℕ, zero, suc, ◌+◌, ◌<◌, not, Bool, true, false, ◌&&◌, List, [], ◌∷◌, ◌++◌, length, get_or, codes, Ok, refl, sym, ap, subst, ◌∙◌, arith, append_assoc, append-nil, length-append, flat_map}
use Rattle.std.specs.Prelude.{All, Some, slice_get}
use Rattle.std.specs.List.{list_all}
use Rattle.std.proofs.lemmas.Bool.{and_parts}
use Rattle.std.proofs.lemmas.List.{length-map, map-append}
use Rattle.std.proofs.lemmas.List.Folds.{list_all-append}
use Rattle.sg_model.specs.Lists.{has_text, all_differ}
use Rattle.sg_model.specs.Names.{Name, is_name, reserved}
use Rattle.sg_model.proofs.Differ.{all_differ-append}
use Rattle.sg_protocol.specs.Graph.{Graph, IsGraph, AreNames, node_name}
use Rattle.sg_graph.specs.Adding.{no_parts}
use Rattle.sg_graph.specs.Parts.{node_names}
use Rattle.sg_graph.proofs.Growth.{IsGraph-no_parts}
use Rattle.sg_parse.specs.Grammar.{named, head_tokens, InTurn, Done, Then}
use Rattle.sg_parse.specs.Parts.{Part, Use, IsUse, IsPart, part_names, use_names}
use Rattle.sg_parse.specs.PartsGrammar.{use_tokens, SpellsPart, SpellsParts}
use Rattle.sg_parse.specs.PartsReading.{some_indices, repeat, read_use, read_uses, read_part_head, read_part, read_parts, read}
use Rattle.sg_parse.specs.Tokens.{part_tokens, is_word, is_named, is_colon, is_semicolon, is_arrow, is_use, is_as, text_of}
use Rattle.sg_parse.specs.Reading.{Parsed, Parser, give, is_next, token, new_name, known_name, read_statements, read_end}
use Rattle.sg_parse.specs.declared.token.TokenAt.{TokenAt}
use Rattle.sg_parse.specs.declared.token.Token.{Token}
use Rattle.sg_parse.specs.declared.token.Token.TheVariants.{Word, Colon, Semicolon, Arrow, Use as UseWord, As, End}
use Rattle.sg_parse.proofs.Sound.{Sound, sound-part_tokens}
use Rattle.sg_parse.proofs.Took.{Took, IsFresh, bare, ok_same, on-inv, took-both, took-give, took-token, took-mark, took-new, took-known, named-word, index_has, only-word}
use Rattle.sg_parse.proofs.TookStatements.{node_at}
use Rattle.sg_parse.proofs.TookGraph.{took-statements, took-end, whole-inv}
use Rattle.sg_parse.proofs.TookIndices.{took-indices}
use Rattle.sg_parse.proofs.Indices.{repeat-there, repeat-away, repeat-none}

-- ---- names that differ, with one more

-- names with one more
pub names-one_more : (ns : List Name) (n : Name) → AreNames ns → IsFresh ns n → AreNames (ns ++ n ∷ [])
names-one_more ns n are f =
    let p : Name → Bool = λ n. is_name n && not (has_text n reserved) in
    let parts = and_parts (list_all p ns) (all_differ ns) are in
    let all : list_all p (ns ++ n ∷ []) ≡ true = list_all-append p ns (n ∷ []) ∙ rw (parts.0, f.name, f.free) refl in
    rw (all, all_differ-append ns n parts.1 f.new) refl

-- ---- uses

took-use : (names : List Name) (g : Graph) (uses : List Use) (ps : List TokenAt) (o : Parsed (List Use)) → Sound ps → read_use names g uses ps ≡ Ok o
    → (u : Use) × (ts : List Token) × (uses ++ u ∷ [] ≡ o.value) × (IsUse (length names) g u × IsFresh (use_names uses) u.name × (ts ≡ use_tokens names g u)) × Took ps o ts
took-use names g uses ps o s h =
    let a = on-inv (token is_use ps) _ o h in
    let first = took-mark UseWord ps a.0 s a.1 in
    let b = on-inv (new_name (use_names uses) (a.0).rest) _ o a.2 in
    let n = took-new (use_names uses) (a.0).rest b.0 first.sound b.1 in
    let c = on-inv (token is_colon (b.0).rest) _ o b.2 in
    let colon = took-mark Colon (b.0).rest c.0 (n.0).sound c.1 in
    let d = on-inv (known_name names (c.0).rest) _ o c.2 in
    let part = took-known names (c.0).rest d.0 colon.sound d.1 in
    let e = on-inv (known_name (node_names g) (d.0).rest) _ o d.2 in
    let source = took-known (node_names g) (d.0).rest e.0 (part.0).sound e.1 in
    let f = on-inv (token is_arrow (e.0).rest) _ o e.2 in
    let arrow = took-mark Arrow (e.0).rest f.0 (source.0).sound f.1 in
    let k = on-inv (known_name (node_names g) (f.0).rest) _ o f.2 in
    let target = took-known (node_names g) (f.0).rest k.0 arrow.sound k.1 in
    let l = on-inv (token is_as (k.0).rest) _ o k.2 in
    let as' = took-mark As (k.0).rest l.0 (target.0).sound l.1 in
    let m = on-inv (some_indices is_named g.roles (l.0).rest) _ o l.2 in
    let roles = took-indices is_named g.roles (λ r. r < length g.roles) (λ t w n. ((named-word t w n).0, (λ h. (index_has (text_of t) g.roles h).0))) (l.0).rest m.0 as'.sound m.1 in
    let q = on-inv (token is_semicolon (m.0).rest) _ o m.2 in
    let last = took-mark Semicolon (m.0).rest q.0 (roles.0).sound q.1 in
    let u : Use = record { name = (b.0).value; part = (d.0).value; from = (e.0).value; to = (k.0).value; roles = (m.0).value } in
    let end = took-give (uses ++ u ∷ []) (q.0).rest o last.sound q.2 in
    let from = node_at g (e.0).value source.1 in
    let to = node_at g (k.0).value target.1 in
    let source_word = subst (λ w. Took (d.0).rest e.0 (Word w ∷ [])) from.0 source.0 in
    let target_word = subst (λ w. Took (f.0).rest k.0 (Word w ∷ [])) to.0 target.0 in (
      u,
      use_tokens names g u,
      end.0,
      (record { part = part.1; from = from.1; to = to.1; some = roles.1; roles = roles.2; differ = roles.3 }, n.1, refl),
      took-both ps a.0 o (UseWord ∷ []) _ first
          (took-both (a.0).rest b.0 o (Word (b.0).value ∷ []) _ n.0
          (took-both (b.0).rest c.0 o (Colon ∷ []) _ colon
          (took-both (c.0).rest d.0 o (Word (get_or names (d.0).value []) ∷ []) _ part.0
          (took-both (d.0).rest e.0 o (Word (node_name g (e.0).value) ∷ []) _ source_word
          (took-both (e.0).rest f.0 o (Arrow ∷ []) _ arrow
          (took-both (f.0).rest k.0 o (Word (node_name g (k.0).value) ∷ []) _ target_word
          (took-both (k.0).rest l.0 o (As ∷ []) _ as'
          (took-both (l.0).rest m.0 o (named g.roles (m.0).value) _ roles.0
          (took-both (m.0).rest q.0 o (Semicolon ∷ []) [] last end.1))))))))),
    )

-- ---- what grows by one at a time

-- each of the elements fits behind those before it, and has these tokens
data Grown {B : Type 0} (Fits : List B → B → List Token → Type 0) : List B → List B → List Token → Type 0 where
  NoMore : {xs : List B} → Grown Fits xs [] []
  OneMore : {xs ys : List B} {y : B} {ts us : List Token} → Fits xs y ts → Grown Fits (xs ++ y ∷ []) ys us → Grown Fits xs (y ∷ ys) (ts ++ us)

module _ {B : Type 0} (Fits : List B → B → List Token → Type 0) (test : Token → Bool) (reader : List B → Parser (List B))
    (step : (xs : List B) (ps : List TokenAt) (o : Parsed (List B)) → Sound ps → reader xs ps ≡ Ok o → (y : B) × (ts : List Token) × (xs ++ y ∷ [] ≡ o.value) × Fits xs y ts × Took ps o ts) where
  none_grown : (xs : List B) (ps : List TokenAt) (o : Parsed (List B)) → Sound ps → give xs ps ≡ Ok o → (ys : List B) × (ts : List Token) × (xs ++ ys ≡ o.value) × Grown Fits xs ys ts × Took ps o ts
  none_grown xs ps o s h = (let g = took-give xs ps o s h in ([], [], append-nil xs ∙ g.0, NoMore, g.1))

  took-repeat : (n : ℕ) (xs : List B) (ps : List TokenAt) (o : Parsed (List B)) → Sound ps → repeat n test reader xs ps ≡ Ok o
      → (ys : List B) × (ts : List Token) × (xs ++ ys ≡ o.value) × Grown Fits xs ys ts × Took ps o ts
  took-repeat zero xs ps o s h = none_grown xs ps o s (sym (repeat-none test reader xs ps) ∙ h)
  took-repeat (suc n) xs ps o s h = pick (is_next test ps) refl (λ xs ps s h. took-repeat n xs ps o s h)
    where
      pick : (b : Bool) → is_next test ps ≡ b
          → ((xs : List B) (ps : List TokenAt) → Sound ps → repeat n test reader xs ps ≡ Ok o → (ys : List B) × (ts : List Token) × (xs ++ ys ≡ o.value) × Grown Fits xs ys ts × Took ps o ts)
          → (ys : List B) × (ts : List Token) × (xs ++ ys ≡ o.value) × Grown Fits xs ys ts × Took ps o ts
      pick false e more = none_grown xs ps o s (sym (repeat-away test reader (suc n) xs ps e) ∙ h)
      pick true e more =
          let a = on-inv (reader xs ps) (repeat n test reader) o (sym (repeat-there test reader n xs ps e) ∙ h) in
          let one = step xs ps a.0 s a.1 in
          let rest = more (xs ++ one.0 ∷ []) (a.0).rest (one.4).sound (subst (λ l. repeat n test reader l (a.0).rest ≡ Ok o) (sym one.2) a.2) in
          (one.0 ∷ rest.0, one.1 ++ rest.1, sym (append_assoc xs (one.0 ∷ []) rest.0) ∙ rest.2, OneMore one.3 rest.3, took-both ps a.0 o one.1 rest.1 one.4 rest.4)

-- a use fits behind the uses before it
abbrev UseFits : List Name → Graph → List Use → Use → List Token → Type 0
UseFits names g uses u ts = IsUse (length names) g u × IsFresh (use_names uses) u.name × (ts ≡ use_tokens names g u)

-- uses that were read one after the other
uses-grown : (names : List Name) (g : Graph) (xs ys : List Use) (ts : List Token) → Grown (UseFits names g) xs ys ts → AreNames (use_names xs)
    → AreNames (use_names (xs ++ ys)) × All (IsUse (length names) g) ys × (ts ≡ flat_map (use_tokens names g) ys)
uses-grown names g xs [] ts NoMore are = (subst (λ l. AreNames (use_names l)) (sym (append-nil xs)) are, (λ k d l. absurd (omega arith)), refl)
uses-grown names g xs (y ∷ ys) ts (OneMore {us = us} f rest) are =
    let more : AreNames (use_names (xs ++ y ∷ [])) = subst AreNames (sym (map-append (λ (u : Use). u.name) xs (y ∷ []))) (names-one_more (use_names xs) y.name are f.1) in
    let r = uses-grown names g (xs ++ y ∷ []) ys us rest more in (
      subst (λ l. AreNames (use_names l)) (append_assoc xs (y ∷ []) ys) r.0,
      first f.0 r.1,
      rw (f.2, r.2) refl,
    )
  where
    first : IsUse (length names) g y → All (IsUse (length names) g) ys → All (IsUse (length names) g) (y ∷ ys)
    first f rest zero d l = f
    first f rest (suc k) d l = rest k d (omega (arith, l))

-- ---- parts

-- a part fits behind the parts before it
abbrev PartFits : List Part → Part → List Token → Type 0
PartFits parts p ts = IsPart (length parts) p × SpellsPart (part_names parts) p ts × (has_text p.graph.name (part_names parts) ≡ false)

took-part : (bytes : ℕ) (parts : List Part) (ps : List TokenAt) (o : Parsed (List Part)) → Sound ps → read_part bytes parts ps ≡ Ok o
    → (p : Part) × (ts : List Token) × (parts ++ p ∷ [] ≡ o.value) × PartFits parts p ts × Took ps o ts
took-part bytes parts ps o s h =
    let names : List Name = part_names parts in
    let a = on-inv (read_part_head names ps) _ o h in
    let a1 = on-inv (token (is_word (codes "graph")) ps) _ a.0 a.1 in
    let first = took-token (is_word (codes "graph")) (Word (codes "graph")) ps a1.0 (only-word (codes "graph")) s a1.1 in
    let a2 = on-inv (new_name names (a1.0).rest) _ a.0 a1.2 in
    let n = took-new names (a1.0).rest a2.0 first.sound a2.1 in
    let a3 = on-inv (token is_semicolon (a2.0).rest) _ a.0 a2.2 in
    let last = took-mark Semicolon (a2.0).rest a3.0 (n.0).sound a3.1 in
    let end = took-give (no_parts (a2.0).value) (a3.0).rest a.0 last.sound a3.2 in
    let head : Took ps a.0 (head_tokens (a2.0).value) =
    took-both ps a1.0 a.0 (Word (codes "graph") ∷ []) _ first (took-both (a1.0).rest a2.0 a.0 (Word (a2.0).value ∷ []) _ n.0 (took-both (a2.0).rest a3.0 a.0 (Semicolon ∷ []) [] last end.1)) in
    let is : IsGraph (no_parts (a2.0).value) = IsGraph-no_parts (a2.0).value (n.1).name (n.1).free in
    let b = on-inv (read_statements (a.0).value (a.0).rest) _ o a.2 in
    let g = took-statements ps (a2.0).value a.0 b.0 end.0 is head b.1 in
    let c = on-inv (read_uses bytes names (b.0).value (b.0).rest) _ o b.2 in
    let u = took-repeat (UseFits names (b.0).value) is_use (read_use names (b.0).value) (took-use names (b.0).value) bytes [] (b.0).rest c.0 (g.2).sound c.1 in
    let us = uses-grown names (b.0).value [] u.0 u.1 u.3 refl in
    let p : Part = record { graph = (b.0).value; uses = u.0 } in
    let same : u.0 ≡ (c.0).value = u.2 in
    let done = took-give (parts ++ p ∷ []) (c.0).rest o (u.4).sound (subst (λ (l : List Use). give (parts ++ record { graph = (b.0).value; uses = l } ∷ []) (c.0).rest ≡ Ok o) (sym same) c.2) in
    let many : length names ≡ length parts = length-map parts (λ (p : Part). p.graph.name) in (
      p,
      g.0 ++ (u.1 ++ []),
      done.0,
      (
        record {
          graph = g.4;
          two_roles = g.5;
          has_node = g.6;
          names = us.0;
          uses = subst (λ k. All (IsUse k (b.0).value) u.0) many us.1;
        },
        record { of_graph = g.0; graph = g.1; spelled = ap (λ l. g.0 ++ l) (append-nil u.1 ∙ us.2) },
        subst (λ m. has_text m names ≡ false) g.3 (n.1).new,
      ),
      took-both ps b.0 o g.0 (u.1 ++ []) g.2 (took-both (b.0).rest c.0 o u.1 [] u.4 done.1),
    )

-- the name at an index before others
get_or-prefix : (a b : List Name) (k : ℕ) → k < length a → get_or (a ++ b) k [] ≡ get_or a k []
get_or-prefix [] b k l = absurd (omega arith)
get_or-prefix (x ∷ a) b zero l = refl
get_or-prefix (x ∷ a) b (suc k) l = get_or-prefix a b k (omega (arith, l))

-- a use is spelled the same with more parts behind
pub uses-behind : (a b : List Name) (g : Graph) (us : List Use) → All (IsUse (length a) g) us → flat_map (use_tokens a g) us ≡ flat_map (use_tokens (a ++ b) g) us
uses-behind a b g [] all = refl
uses-behind a b g (u ∷ us) all =
    let here : IsUse (length a) g u = all 0 u (omega arith) in
    let rest = uses-behind a b g us (λ k d l. all (suc k) d (omega (arith, l))) in
    rw (get_or-prefix a b u.part here.part, rest) refl

-- parts that were read one after the other
parts-grown : (xs ys : List Part) (ts : List Token) → Grown PartFits xs ys ts → all_differ (part_names xs) ≡ true
    → (all_differ (part_names (xs ++ ys)) ≡ true) × ((k : ℕ) (p : Part) → slice_get ys k ≡ Some p → IsPart (length xs + k) p) × InTurn (SpellsPart (part_names (xs ++ ys))) ys ts
parts-grown xs [] ts NoMore d = (subst (λ l. all_differ (part_names l) ≡ true) (sym (append-nil xs)) d, (λ k p e. absurd (cc)), Done)
parts-grown xs (y ∷ ys) ts (OneMore {ts = prefix} {us = us} f rest) d =
    let more : all_differ (part_names (xs ++ y ∷ [])) ≡ true =
    subst (λ l. all_differ l ≡ true) (sym (map-append (λ (p : Part). p.graph.name) xs (y ∷ []))) (all_differ-append (part_names xs) y.graph.name d f.2) in
    let r = parts-grown (xs ++ y ∷ []) ys us rest more in
    let all : (xs ++ y ∷ []) ++ ys ≡ xs ++ y ∷ ys = append_assoc xs (y ∷ []) ys in
    let names : part_names (xs ++ y ∷ ys) ≡ part_names xs ++ part_names (y ∷ ys) = map-append (λ (p : Part). p.graph.name) xs (y ∷ ys) in
    let many : length (part_names xs) ≡ length xs = length-map xs (λ (p : Part). p.graph.name) in
    let uses : All (IsUse (length (part_names xs)) y.graph) y.uses = subst (λ k. All (IsUse k y.graph) y.uses) (sym many) (f.0).uses in
    let longer : length (xs ++ y ∷ []) ≡ length xs + 1 = length-append xs (y ∷ []) in
    let here : SpellsPart (part_names (xs ++ y ∷ ys)) y prefix = record {
      of_graph = (f.1).of_graph;
      graph = (f.1).graph;
      spelled = (f.1).spelled ∙ ap (λ l. (f.1).of_graph ++ l) (uses-behind (part_names xs) (part_names (y ∷ ys)) y.graph y.uses uses ∙ ap (λ l. flat_map (use_tokens l y.graph) y.uses) (sym names));
    } in (
      subst (λ l. all_differ (part_names l) ≡ true) all r.0,
      each f.0 (λ k p e. (let same : length (xs ++ y ∷ []) + k ≡ length xs + suc k = omega (arith, longer) in subst (λ m. IsPart m p) same (r.1 k p e))),
      Then here (subst (λ l. InTurn (SpellsPart (part_names l)) ys us) all r.2),
    )
  where
    each : IsPart (length xs) y → ((k : ℕ) (p : Part) → slice_get ys k ≡ Some p → IsPart (length xs + suc k) p) → (k : ℕ) (p : Part) → slice_get (y ∷ ys) k ≡ Some p → IsPart (length xs + k) p
    each first rest zero p e =
        let same : y ≡ p = cc in
        let none : length xs ≡ length xs + 0 = omega arith in
        subst (λ m. IsPart m p) none (subst (IsPart (length xs)) same first)
    each first rest (suc k) p e = rest k p e

-- parts that are read are spelled
pub read-spells : (bs : List ℕ) (ps : List Part) → read bs ≡ Ok ps → SpellsParts bs ps
read-spells bs ps h =
    let w = whole-inv (read_parts (length bs) (part_tokens bs)) ps h in
    let a = on-inv (read_part (length bs) [] (part_tokens bs)) _ w.0 w.1 in
    let one = took-part (length bs) [] (part_tokens bs) a.0 (sound-part_tokens bs) a.1 in
    let b = on-inv (repeat (length bs) (is_word (codes "graph")) (read_part (length bs)) (a.0).value (a.0).rest) _ w.0 a.2 in
    let more = took-repeat PartFits (is_word (codes "graph")) (read_part (length bs)) (took-part (length bs)) (length bs) (one.0 ∷ []) (a.0).rest b.0 (one.4).sound
    (subst (λ l. repeat (length bs) (is_word (codes "graph")) (read_part (length bs)) l (a.0).rest ≡ Ok b.0) (sym one.2) b.1) in
    let f = on-inv (read_end (b.0).rest) _ w.0 b.2 in
    let end = took-end (b.0).rest f.0 (more.4).sound f.1 in
    let grown : Grown PartFits [] (one.0 ∷ more.0) (one.1 ++ more.1) = OneMore one.3 more.3 in
    let g = parts-grown [] (one.0 ∷ more.0) (one.1 ++ more.1) grown refl in
    let value : one.0 ∷ more.0 ≡ ps = more.2 ∙ ap (λ (r : Parsed (List Part)). r.value) (ok_same (record { value = (b.0).value; rest = (f.0).rest }) w.0 f.2) ∙ w.2 in
    let begins : bare (part_tokens bs) ≡ (one.1 ++ more.1) ++ End ∷ [] =
    (one.4).begins ∙ ap (λ l. one.1 ++ l) ((more.4).begins ∙ ap (λ l. more.1 ++ l) end) ∙ sym (append_assoc one.1 more.1 (End ∷ [])) in
    subst (SpellsParts bs) value (record {
      parts = record { some = omega arith; names = g.0; each = λ k p e. from_zero k p (g.1 k p e) };
      of_parts = one.1 ++ more.1;
      spells = g.2;
      spelled = begins;
    })
  where
    from_zero : (k : ℕ) (p : Part) → IsPart (0 + k) p → IsPart k p
    from_zero k p is = (let same : 0 + k ≡ k = omega arith in subst (λ m. IsPart m p) same is)
