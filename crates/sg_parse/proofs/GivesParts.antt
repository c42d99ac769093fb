-- Parts that are spelled are read.
use Rattle.std.proofs.Common.{◌≡◌, ℕ, zero, suc, ◌+◌, ◌<◌, ◌≤◌, ◌==◌, not, Bool, true, false, ◌&&◌, ◌||◌, List, [], ◌∷◌, ◌++◌, length, get_or, codes, bytes_eq, Ok, refl, sym, ap, subst, ◌∙◌, arith, append_assoc, append-nil, length-append, flat_map, if◌then◌else◌}
use Rattle.std.specs.Prelude.{All, Some, slice_get}
use Rattle.std.specs.List.{list_all}
use Rattle.std.proofs.lemmas.Bool.{not-true, and_parts}
use Rattle.std.proofs.lemmas.List.{length-map, map-append, get_or-map}
use Rattle.std.proofs.lemmas.List.Folds.{list_any-append}
use Rattle.sg_model.specs.Lists.{has_text, all_differ}
use Rattle.sg_model.specs.Names.{Name, is_name, reserved}
use Rattle.sg_model.proofs.Small.{first_false}
use Rattle.sg_protocol.specs.Graph.{Graph, IsGraph, Node, AreNames, node_name}
use Rattle.sg_graph.specs.Adding.{no_parts}
use Rattle.sg_graph.specs.Parts.{node_names}
use Rattle.sg_parse.specs.Grammar.{named, head_tokens, role_tokens, node_tokens, InTurn, Done, Then, SpellsStatements}
use Rattle.sg_parse.specs.Parts.{Part, Use, IsUse, IsPart, AreParts, part_names, use_names}
use Rattle.sg_parse.specs.PartsGrammar.{use_tokens, SpellsPart, SpellsParts}
use Rattle.sg_parse.specs.PartsReading.{some_indices, repeat, read_use, read_uses, read_part_head, read_part, read_parts, read}
use Rattle.sg_parse.specs.Tokens.{Part as Region, tokens, tokens_from, leading, begun, part_of, goes_on, is_last, is_separator, seen_as, part_tokens, is_word, is_named, is_colon, is_semicolon, is_arrow, is_use, is_as, is_end}
use Rattle.sg_parse.specs.Reading.{after, give, is_next, token, new_name, known_name, read_statements, read_end, whole}
use Rattle.sg_parse.specs.declared.token.TokenAt.{TokenAt}
use Rattle.sg_parse.specs.declared.token.Token.{Token}
use Rattle.sg_parse.specs.declared.token.Language.TheVariants.{OfParts}
use Rattle.sg_parse.specs.declared.token.Token.TheVariants.{Word, Colon, Semicolon, Arrow, Use as UseWord, As, End}
use Rattle.sg_parse.proofs.Took.{bare}
use Rattle.sg_parse.proofs.Middle.{name-at, name-middle}
use Rattle.sg_parse.proofs.Gives.{Gives, gives-give, gives-after, gives-token, gives-word, gives-new, gives-known, gives-first, head_is, head-next}
use Rattle.sg_parse.proofs.GivesGraph.{gives-statements}
use Rattle.sg_parse.proofs.GivesIndices.{gives-indices}
use Rattle.sg_parse.proofs.TookParts.{uses-behind}
use Rattle.sg_parse.proofs.Indices.{repeat-there, repeat-away}

-- ---- uses

gives-use : (names : List Name) (g : Graph) (uses : List Use) (u : Use) (us : List Token) → AreNames names → IsGraph g → IsUse (length names) g u
    → has_text u.name reserved ≡ false → has_text u.name (use_names uses) ≡ false → Gives (read_use names g uses) (use_tokens names g u) us (uses ++ u ∷ [])
gives-use names g uses u us are is f free new =
    let many : length (node_names g) ≡ length g.nodes = length-map g.nodes (λ (v : Node). v.name) in
    let from : u.from < length (node_names g) = omega (arith, many, f.from) in
    let to : u.to < length (node_names g) = omega (arith, many, f.to) in
    let from_word = node_at' u.from f.from in
    let to_word = node_at' u.to f.to in
    let roles : List Token = named g.roles u.roles in
    let back : List Token = roles ++ Semicolon ∷ [] in
    let end : List Use = uses ++ u ∷ [] in
    gives-after (token is_use) _ (UseWord ∷ []) (Word u.name ∷ Colon ∷ Word (get_or names u.part []) ∷ Word (node_name g u.from) ∷ Arrow ∷ Word (node_name g u.to) ∷ As ∷ back) us tt end (gives-token is_use UseWord _ refl)
    (gives-after (new_name (use_names uses)) _ (Word u.name ∷ []) (Colon ∷ Word (get_or names u.part []) ∷ Word (node_name g u.from) ∷ Arrow ∷ Word (node_name g u.to) ∷ As ∷ back) us u.name end (gives-new (use_names uses) u.name _ free new)
    (gives-after (token is_colon) _ (Colon ∷ []) (Word (get_or names u.part []) ∷ Word (node_name g u.from) ∷ Arrow ∷ Word (node_name g u.to) ∷ As ∷ back) us tt end (gives-token is_colon Colon _ refl)
    (gives-after (known_name names) _ (Word (get_or names u.part []) ∷ []) (Word (node_name g u.from) ∷ Arrow ∷ Word (node_name g u.to) ∷ As ∷ back) us u.part end (gives-known names u.part _ are f.part)
    (gives-after (known_name (node_names g)) _ (Word (node_name g u.from) ∷ []) (Arrow ∷ Word (node_name g u.to) ∷ As ∷ back) us u.from end
    (subst (λ w. Gives (known_name (node_names g)) (Word w ∷ []) ((Arrow ∷ Word (node_name g u.to) ∷ As ∷ back) ++ us) u.from) from_word (gives-known (node_names g) u.from _ is.node_names from))
    (gives-after (token is_arrow) _ (Arrow ∷ []) (Word (node_name g u.to) ∷ As ∷ back) us tt end (gives-token is_arrow Arrow _ refl)
    (gives-after (known_name (node_names g)) _ (Word (node_name g u.to) ∷ []) (As ∷ back) us u.to end
    (subst (λ w. Gives (known_name (node_names g)) (Word w ∷ []) ((As ∷ back) ++ us) u.to) to_word (gives-known (node_names g) u.to _ is.node_names to))
    (gives-after (token is_as) _ (As ∷ []) back us tt end (gives-token is_as As _ refl)
    (gives-after (some_indices is_named g.roles) _ roles (Semicolon ∷ []) us u.roles end (gives-indices is_named g.roles is.role_names u.roles (Semicolon ∷ us) f.some f.roles role_word f.differ refl)
    (gives-after (token is_semicolon) _ (Semicolon ∷ []) [] us tt end (gives-token is_semicolon Semicolon _ refl) (gives-give end us))))))))))
  where
    role_word : All (λ r. is_named (Word (get_or g.roles r [])) ≡ true) u.roles
    role_word k d l = ap not (name-at g.roles (get_or u.roles k d) (f.roles k d l) (and_parts (list_all (λ n. is_name n && not (has_text n reserved)) g.roles) (all_differ g.roles) is.role_names).0)

    node_at' : (n : ℕ) → n < length g.nodes → get_or (node_names g) n [] ≡ node_name g n
    node_at' n l = get_or-map (λ (v : Node). v.name) g.nodes n _ [] l

-- as many statements as uses
gives-uses : (names : List Name) (g : Graph) (n : ℕ) (xs ys : List Use) (us : List Token) → AreNames names → IsGraph g → length ys ≤ n → All (IsUse (length names) g) ys
    → AreNames (use_names (xs ++ ys)) → head_is is_use us ≡ false → Gives (repeat n is_use (read_use names g) xs) (flat_map (use_tokens names g) ys) us (xs ++ ys)
gives-uses names g n xs [] us are is l all n' h = record {
  go = λ ps e. (ps, e, repeat-away is_use (read_use names g) n xs ps (head-next is_use ps ∙ ap (head_is is_use) e ∙ h) ∙ ap (λ l. Ok (record { value = l; rest = ps })) (sym (append-nil xs)));
}
gives-uses names g zero xs (y ∷ ys) us are is l all n' h = absurd (omega (arith, l))
gives-uses names g (suc n) xs (y ∷ ys) us are is l all names' h =
    let split : use_names (xs ++ y ∷ ys) ≡ use_names xs ++ y.name ∷ use_names ys = map-append (λ (u : Use). u.name) xs (y ∷ ys) in
    let middle = name-middle (use_names xs) y.name (use_names ys) (subst AreNames split names') in
    let one = gives-use names g xs y (flat_map (use_tokens names g) ys ++ us) are is (all 0 y (omega arith)) middle.0 middle.1 in
    let again : (xs ++ y ∷ []) ++ ys ≡ xs ++ y ∷ ys = append_assoc xs (y ∷ []) ys in
    let more : Gives (repeat n is_use (read_use names g) (xs ++ y ∷ [])) (flat_map (use_tokens names g) ys) us (xs ++ y ∷ ys) =
    subst (Gives (repeat n is_use (read_use names g) (xs ++ y ∷ [])) (flat_map (use_tokens names g) ys) us) again
    (gives-uses names g n (xs ++ y ∷ []) ys us are is (omega (arith, l)) (λ k d l. all (suc k) d (omega (arith, l))) (subst (λ l. AreNames (use_names l)) (sym again) names') h) in
    let both' = gives-after (read_use names g xs) (repeat n is_use (read_use names g)) (use_tokens names g y) (flat_map (use_tokens names g) ys) us (xs ++ y ∷ []) (xs ++ y ∷ ys) one more in
    record {
      go = λ ps e.
          let there : is_next is_use ps ≡ true = head-next is_use ps ∙ ap (head_is is_use) e in
          let r = both'.go ps e in
          (r.0, r.1, repeat-there is_use (read_use names g) n xs ps there ∙ r.2);
    }

-- ---- parts

-- the uses don't begin with another word
uses-ahead : (test : Token → Bool) (names : List Name) (g : Graph) (ys : List Use) (us : List Token) → test UseWord ≡ false → head_is test us ≡ false → head_is test (flat_map (use_tokens names g) ys ++ us) ≡ false
uses-ahead test names g [] us w h = h
uses-ahead test names g (y ∷ ys) us w h = w

-- as many uses as tokens at most
uses-few : (names : List Name) (g : Graph) (ys : List Use) → length ys ≤ length (flat_map (use_tokens names g) ys)
uses-few names g [] = omega arith
uses-few names g (y ∷ ys) =
    let rest = uses-few names g ys in
    let all : length (use_tokens names g y ++ flat_map (use_tokens names g) ys) ≡ length (use_tokens names g y) + length (flat_map (use_tokens names g) ys) = length-append (use_tokens names g y) (flat_map (use_tokens names g) ys) in
    let some : 1 ≤ length (use_tokens names g y) = omega arith in
    omega (arith, rest, all, some)

gives-part : (bytes : ℕ) (parts : List Part) (p : Part) (ts us : List Token) → AreNames (part_names parts) → IsPart (length parts) p → SpellsPart (part_names parts) p ts
    → has_text p.graph.name (part_names parts) ≡ false → length ts ≤ bytes
    → head_is (is_word (codes "node")) us ≡ false → head_is (is_word (codes "edge")) us ≡ false → head_is is_use us ≡ false
    → Gives (read_part bytes parts) ts us (parts ++ p ∷ [])
gives-part bytes parts p ts us are is s new few no_node no_edge no_use =
    let names : List Name = part_names parts in
    let ut : List Token = flat_map (use_tokens names p.graph) p.uses in
    let many : length parts ≡ length names = sym (length-map parts (λ (p : Part). p.graph.name)) in
    let all : All (IsUse (length names) p.graph) p.uses = subst (λ k. All (IsUse k p.graph) p.uses) many is.uses in
    let g = gives-statements p.graph s.of_graph (ut ++ us) is.graph is.two_roles is.has_node s.graph (uses-ahead (is_word (codes "node")) names p.graph p.uses us refl no_node) (uses-ahead (is_word (codes "edge")) names p.graph p.uses us refl no_edge) in
    let lengths : length ts ≡ length s.of_graph + length ut = ap length s.spelled ∙ length-append s.of_graph ut in
    let fit : length p.uses ≤ bytes = omega (arith, uses-few names p.graph p.uses, lengths, few) in
    let uses : Gives (read_uses bytes names p.graph) ut us p.uses = gives-uses names p.graph bytes [] p.uses us are is.graph fit all is.names no_use in
    let end : List Part = parts ++ p ∷ [] in
    let free = name-middle [] p.graph.name [] is.graph.named in
    let last : Gives (after (read_uses bytes names p.graph) (λ uses. give (parts ++ record { graph = p.graph; uses = uses } ∷ []))) (ut ++ []) us end =
    gives-after (read_uses bytes names p.graph) (λ uses. give (parts ++ record { graph = p.graph; uses = uses } ∷ [])) ut [] us p.uses end uses (gives-give end us) in
    let behind : Gives (after (read_statements (no_parts p.graph.name)) (λ g. after (read_uses bytes names g) λ uses. give (parts ++ record { graph = g; uses = uses } ∷ []))) (g.0 ++ (ut ++ [])) us end =
    gives-after (read_statements (no_parts p.graph.name)) (λ g. after (read_uses bytes names g) λ uses. give (parts ++ record { graph = g; uses = uses } ∷ [])) g.0 (ut ++ []) us p.graph end
    (subst (λ l. Gives (read_statements (no_parts p.graph.name)) g.0 l p.graph) (ap (λ l. l ++ us) (sym (append-nil ut))) g.2) last in
    let rest : List Token = g.0 ++ (ut ++ []) in
    let head : Gives (read_part_head names) (head_tokens p.graph.name) (rest ++ us) (no_parts p.graph.name) =
    gives-after (token (is_word (codes "graph"))) _ (Word (codes "graph") ∷ []) (Word p.graph.name ∷ Semicolon ∷ []) (rest ++ us) tt (no_parts p.graph.name) (gives-word (codes "graph") _)
    (gives-after (new_name names) _ (Word p.graph.name ∷ []) (Semicolon ∷ []) (rest ++ us) p.graph.name (no_parts p.graph.name) (gives-new names p.graph.name _ free.0 new)
    (gives-after (token is_semicolon) (λ _. give (no_parts p.graph.name)) (Semicolon ∷ []) [] (rest ++ us) tt (no_parts p.graph.name) (gives-token is_semicolon Semicolon _ refl) (gives-give (no_parts p.graph.name) (rest ++ us)))) in
    let part : Gives (read_part bytes parts) (head_tokens p.graph.name ++ rest) us end = gives-after (read_part_head names) _ (head_tokens p.graph.name) rest us (no_parts p.graph.name) end head behind in
    let same : head_tokens p.graph.name ++ rest ≡ ts = sym (s.spelled ∙ ap (λ l. l ++ ut) g.1 ∙ append_assoc (head_tokens p.graph.name) g.0 ut ∙ ap (λ l. head_tokens p.graph.name ++ (g.0 ++ l)) (sym (append-nil ut))) in
    subst (λ l. Gives (read_part bytes parts) l us end) same part

-- a part begins with its first word
part-begins : (test : Token → Bool) (names : List Name) (p : Part) (ts us : List Token) → SpellsPart names p ts → head_is test (ts ++ us) ≡ test (Word (codes "graph"))
part-begins test names p ts us s = ap (λ l. head_is test (l ++ us)) (s.spelled ∙ ap (λ l. l ++ flat_map (use_tokens names p.graph) p.uses) (s.graph).spelled)

-- behind parts in turn, what doesn't begin them and what follows doesn't begin
parts-ahead : (test : Token → Bool) (names : List Name) (ys : List Part) (ts us : List Token) → InTurn (SpellsPart names) ys ts → test (Word (codes "graph")) ≡ false → head_is test us ≡ false → head_is test (ts ++ us) ≡ false
parts-ahead test names [] ts us Done w h = h
parts-ahead test names (y ∷ ys) ts us (Then {ts = prefix} {us = back} s rest) w h = ap (head_is test) (append_assoc prefix back us) ∙ part-begins test names y prefix (back ++ us) s ∙ w

-- the names of parts are names
names-of : (ps : List Part) (i : ℕ) → ((k : ℕ) (p : Part) → slice_get ps k ≡ Some p → IsPart (i + k) p) → all_differ (part_names ps) ≡ true → AreNames (part_names ps)
names-of ps i each d = rw (all ps i each, d) refl
  where
    all : (ps : List Part) (i : ℕ) → ((k : ℕ) (p : Part) → slice_get ps k ≡ Some p → IsPart (i + k) p) → list_all (λ n. is_name n && not (has_text n reserved)) (part_names ps) ≡ true
    all [] i each = refl
    all (p ∷ ps) i each =
        let first : IsPart (i + 0) p = each 0 p refl in
        let named' = first.graph.named in
        let parts = and_parts (list_all (λ n. is_name n && not (has_text n reserved)) (p.graph.name ∷ [])) true named' in
        let here = (and_parts (is_name p.graph.name && not (has_text p.graph.name reserved)) true parts.0).0 in
        rw (here, all ps (suc i) (λ k q e. (let same : i + suc k ≡ suc i + k = omega arith in subst (λ m. IsPart m q) same (each (suc k) q e)))) refl

-- the names before others
names-prefix : (as' bs : List Name) → AreNames (as' ++ bs) → AreNames as'
names-prefix [] bs h = refl
names-prefix (a ∷ as') bs h =
    let p : Name → Bool = λ n. is_name n && not (has_text n reserved) in
    let parts = and_parts (list_all p (a ∷ (as' ++ bs))) (all_differ (a ∷ (as' ++ bs))) h in
    let l = and_parts (p a) (list_all p (as' ++ bs)) parts.0 in
    let d = and_parts (not (has_text a (as' ++ bs))) (all_differ (as' ++ bs)) parts.1 in
    let rest = names-prefix as' bs (rw (l.1, d.1) refl) in
    let rest' = and_parts (list_all p as') (all_differ as') rest in
    let out : has_text a as' ≡ false = prefix as' bs (not-true (has_text a (as' ++ bs)) d.0) in
    rw (l.0, rest'.0, out, rest'.1) refl
  where
    prefix : (ns ms : List Name) → has_text a (ns ++ ms) ≡ false → has_text a ns ≡ false
    prefix ns ms h = first_false (has_text a ns) (has_text a ms) (sym (list_any-append (bytes_eq a) ns ms) ∙ h)

-- a part has some token
part-some : (names : List Name) (p : Part) (ts : List Token) → SpellsPart names p ts → 1 ≤ length ts
part-some names p ts s =
    let e : ts ≡ (head_tokens p.graph.name ++ behind (s.graph)) ++ flat_map (use_tokens names p.graph) p.uses = s.spelled ∙ ap (λ l. l ++ flat_map (use_tokens names p.graph) p.uses) (s.graph).spelled in
    subst (λ l. 1 ≤ length l) (sym e) (omega arith)
  where
    behind : SpellsStatements p.graph s.of_graph → List Token
    behind g = flat_map role_tokens p.graph.roles ++ (g.of_variables ++ (flat_map (node_tokens p.graph) p.graph.nodes ++ g.of_edges))

-- as many parts as tokens at most
parts-few : (names : List Name) (ys : List Part) (ts : List Token) → InTurn (SpellsPart names) ys ts → length ys ≤ length ts
parts-few names [] ts Done = omega arith
parts-few names (y ∷ ys) ts (Then {ts = prefix} {us = back} s rest) =
    let few = parts-few names ys back rest in
    let some = part-some names y prefix s in
    let all : length (prefix ++ back) ≡ length prefix + length back = length-append prefix back in
    omega (arith, few, some, all)

-- the parts are given in turn
module _ (bytes : ℕ) where
  abbrev end : List Token
  end = End ∷ []

  one-part : (xs : List Part) (y : Part) (ys : List Part) (prefix back : List Token) → AreNames (part_names (xs ++ y ∷ ys)) → IsPart (length xs) y → SpellsPart (part_names (xs ++ y ∷ ys)) y prefix
      → InTurn (SpellsPart (part_names (xs ++ y ∷ ys))) ys back → length prefix ≤ bytes → Gives (read_part bytes xs) prefix (back ++ end) (xs ++ y ∷ [])
  one-part xs y ys prefix back are is s rest few =
      let split : part_names (xs ++ y ∷ ys) ≡ part_names xs ++ y.graph.name ∷ part_names ys = map-append (λ (p : Part). p.graph.name) xs (y ∷ ys) in
      let are' : AreNames (part_names xs ++ y.graph.name ∷ part_names ys) = subst AreNames split are in
      let middle = name-middle (part_names xs) y.graph.name (part_names ys) are' in
      let many : length xs ≡ length (part_names xs) = sym (length-map xs (λ (p : Part). p.graph.name)) in
      let uses : All (IsUse (length (part_names xs)) y.graph) y.uses = subst (λ k. All (IsUse k y.graph) y.uses) many is.uses in
      let back' : flat_map (use_tokens (part_names (xs ++ y ∷ ys)) y.graph) y.uses ≡ flat_map (use_tokens (part_names xs) y.graph) y.uses =
      ap (λ l. flat_map (use_tokens l y.graph) y.uses) split ∙ sym (uses-behind (part_names xs) (y.graph.name ∷ part_names ys) y.graph y.uses uses) in
      let s' : SpellsPart (part_names xs) y prefix = record { of_graph = s.of_graph; graph = s.graph; spelled = s.spelled ∙ ap (λ l. s.of_graph ++ l) back' } in
      gives-part bytes xs y prefix (back ++ end) (names-prefix (part_names xs) (y.graph.name ∷ part_names ys) are') is s' middle.1 few
      (parts-ahead (is_word (codes "node")) (part_names (xs ++ y ∷ ys)) ys back end rest refl refl)
      (parts-ahead (is_word (codes "edge")) (part_names (xs ++ y ∷ ys)) ys back end rest refl refl)
      (parts-ahead is_use (part_names (xs ++ y ∷ ys)) ys back end rest refl refl)

  gives-parts : (n : ℕ) (xs ys : List Part) (ts : List Token) → AreNames (part_names (xs ++ ys)) → ((k : ℕ) (p : Part) → slice_get ys k ≡ Some p → IsPart (length xs + k) p)
      → InTurn (SpellsPart (part_names (xs ++ ys))) ys ts → length ts ≤ bytes → length ys ≤ n
      → Gives (repeat n (is_word (codes "graph")) (read_part bytes) xs) ts end (xs ++ ys)
  gives-parts n xs [] ts are each Done few l = record {
    go = λ ps e. (
      ps,
      e,
      repeat-away (is_word (codes "graph")) (read_part bytes) n xs ps (head-next (is_word (codes "graph")) ps ∙ ap (head_is (is_word (codes "graph"))) e)
          ∙ ap (λ l. Ok (record { value = l; rest = ps })) (sym (append-nil xs)),
    );
  }
  gives-parts zero xs (y ∷ ys) ts are each t few l = absurd (omega (arith, l))
  gives-parts (suc n) xs (y ∷ ys) ts are each (Then {ts = prefix} {us = back} s rest) few l =
      let lengths : length (prefix ++ back) ≡ length prefix + length back = length-append prefix back in
      let none : length xs + 0 ≡ length xs = omega arith in
      let is : IsPart (length xs) y = subst (λ m. IsPart m y) none (each 0 y refl) in
      let one = one-part xs y ys prefix back are is s rest (omega (arith, lengths, few)) in
      let again : (xs ++ y ∷ []) ++ ys ≡ xs ++ y ∷ ys = append_assoc xs (y ∷ []) ys in
      let longer : length (xs ++ y ∷ []) ≡ length xs + 1 = length-append xs (y ∷ []) in
      let more : Gives (repeat n (is_word (codes "graph")) (read_part bytes) (xs ++ y ∷ [])) back end (xs ++ y ∷ ys) =
      subst (Gives (repeat n (is_word (codes "graph")) (read_part bytes) (xs ++ y ∷ [])) back end) again
      (gives-parts n (xs ++ y ∷ []) ys back (subst (λ l. AreNames (part_names l)) (sym again) are)
      (λ k p e. (let same : length xs + suc k ≡ length (xs ++ y ∷ []) + k = omega (arith, longer) in subst (λ m. IsPart m p) same (each (suc k) p e)))
      (subst (λ l. InTurn (SpellsPart (part_names l)) ys back) (sym again) rest) (omega (arith, lengths, few)) (omega (arith, l))) in
      let both' = gives-after (read_part bytes xs) (repeat n (is_word (codes "graph")) (read_part bytes)) prefix back end (xs ++ y ∷ []) (xs ++ y ∷ ys) one more in
      record {
        go = λ ps e.
            let there : is_next (is_word (codes "graph")) ps ≡ true =
            head-next (is_word (codes "graph")) ps ∙ ap (head_is (is_word (codes "graph"))) (e ∙ append_assoc prefix back end) ∙ part-begins (is_word (codes "graph")) (part_names (xs ++ y ∷ ys)) y prefix (back ++ end) s in
            let r = both'.go ps e in
            (r.0, r.1, repeat-there (is_word (codes "graph")) (read_part bytes) n xs ps there ∙ r.2);
      }

-- a text has at most one token more than bytes
tokens-few : (before : Region) (at : ℕ) (bs : List ℕ) → length (tokens_from before at bs) ≤ suc (length bs)
unfolding tokens_from
tokens-few before at [] = omega arith
tokens-few before at (b ∷ bs) = pick (goes_on before b || is_separator b || (b == 35)) (tokens_from (part_of before b) (suc at) bs) (tokens-few (part_of before b) (suc at) bs)
  where
    lead : (c : Bool) (ps : List TokenAt) → length ps ≤ suc (length bs) → length (if c then [] else ps) ≤ suc (length bs)
    lead true ps l = omega arith
    lead false ps l = l

    pick : (c : Bool) (ps : List TokenAt) → length ps ≤ suc (length bs) → length (if c then ps else leading (begun at b bs) ps) ≤ suc (suc (length bs))
    pick true ps l = omega (arith, l)
    pick false ps l = (let m = lead (is_last (begun at b bs).token) ps l in omega (arith, m))

-- parts that are spelled are read
pub spells-read : (bs : List ℕ) (ps : List Part) → SpellsParts bs ps → read bs ≡ Ok ps
spells-read bs ps s = go ps s.parts s.of_parts s.spells s.spelled
  where
    go : (ps : List Part) → AreParts ps → (ts : List Token) → InTurn (SpellsPart (part_names ps)) ps ts → bare (part_tokens bs) ≡ ts ++ End ∷ [] → read bs ≡ Ok ps
    go [] are ts t e = absurd (omega (arith, are.some))
    go (y ∷ ys) are ts (Then {ts = prefix} {us = back} s rest) e =
        let bytes : ℕ = length bs in
        let names : AreNames (part_names (y ∷ ys)) = names-of (y ∷ ys) 0 (λ k p h. (let same : k ≡ 0 + k = omega arith in subst (λ m. IsPart m p) same (are.each k p h))) are.names in
        let few : length (tokens bs) ≤ suc (length bs) = tokens-few Region.Apart 0 bs in
        let same : length (bare (part_tokens bs)) ≡ length (tokens bs) = length-map (part_tokens bs) (λ (p : TokenAt). p.token) ∙ length-map (tokens bs) (seen_as OfParts) in
        let all : length (bare (part_tokens bs)) ≡ length (prefix ++ back) + 1 = ap length e ∙ length-append (prefix ++ back) (End ∷ []) in
        let lengths : length (prefix ++ back) ≡ length prefix + length back = length-append prefix back in
        let one : Gives (read_part bytes []) prefix (back ++ End ∷ []) (y ∷ []) = one-part bytes [] y ys prefix back names (are.each 0 y refl) s rest (omega (arith, few, same, all, lengths)) in
        let more : Gives (repeat bytes (is_word (codes "graph")) (read_part bytes) (y ∷ [])) back (End ∷ []) (y ∷ ys) =
        gives-parts bytes bytes (y ∷ []) ys back names (λ k p h. (let same : suc k ≡ 1 + k = omega arith in subst (λ m. IsPart m p) same (are.each (suc k) p h))) rest (omega (arith, few, same, all, lengths))
        (let fewer = parts-few (part_names (y ∷ ys)) ys back rest in omega (arith, fewer, few, same, all, lengths)) in
        let last : Gives (after read_end (λ _. give (y ∷ ys))) [] (End ∷ []) (y ∷ ys) = gives-after read_end (λ _. give (y ∷ ys)) [] [] (End ∷ []) tt (y ∷ ys) (gives-first is_end (give tt) _ [] (End ∷ []) tt refl (gives-give tt (End ∷ []))) (gives-give (y ∷ ys) (End ∷ [])) in
        let rest' : Gives (after (repeat bytes (is_word (codes "graph")) (read_part bytes) (y ∷ [])) (λ parts. after read_end λ _. give parts)) (back ++ []) (End ∷ []) (y ∷ ys) =
        gives-after (repeat bytes (is_word (codes "graph")) (read_part bytes) (y ∷ [])) (λ parts. after read_end λ _. give parts) back [] (End ∷ []) (y ∷ ys) (y ∷ ys) more last in
        let one' : Gives (read_part bytes []) prefix ((back ++ []) ++ End ∷ []) (y ∷ []) = subst (λ l. Gives (read_part bytes []) prefix (l ++ End ∷ []) (y ∷ [])) (sym (append-nil back)) one in
        let text : Gives (read_parts bytes) (prefix ++ (back ++ [])) (End ∷ []) (y ∷ ys) = gives-after (read_part bytes []) _ prefix (back ++ []) (End ∷ []) (y ∷ []) (y ∷ ys) one' rest' in
        let spelled : bare (part_tokens bs) ≡ (prefix ++ (back ++ [])) ++ End ∷ [] = e ∙ ap (λ l. (prefix ++ l) ++ End ∷ []) (sym (append-nil back)) in
        let r = text.go (part_tokens bs) spelled in
        ap whole r.2
