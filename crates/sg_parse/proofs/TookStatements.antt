-- Statements that are read are those of the part that is added.
use Rattle.std.proofs.Common.{◌≡◌, ℕ, ◌<◌, ◌≤◌, true, false, List, [], ◌∷◌, ◌++◌, length, get_or, codes, Ok, refl, ap, subst, ◌∙◌, arith, inl, inr, ◌⊎◌}
use Rattle.std.proofs.lemmas.List.{length-map, get_or-map}
use Rattle.sg_model.specs.Names.{Name}
use Rattle.sg_protocol.specs.Graph.{Graph, IsGraph, Variable, Node, Edge, VariableKind, Int, Text, kind_text, role_name, node_name}
use Rattle.sg_graph.specs.Adding.{with_role, with_variable, with_node, with_edge}
use Rattle.sg_graph.specs.Parts.{variable_names, node_names, edge_names}
use Rattle.sg_graph.proofs.Growth.{IsGraph-with_role, IsGraph-with_variable, IsGraph-with_node, IsGraph-with_edge}
use Rattle.sg_parse.specs.Grammar.{named, role_tokens, node_tokens, SpellsVariable, SpellsEdge}
use Rattle.sg_parse.specs.Tokens.{is_word, is_colon, is_semicolon, is_arrow}
use Rattle.sg_parse.specs.Reading.{Parsed, on, after, give, is_next, token, skip, new_name, known_name, some_names, read_clause, read_kind, read_role, read_variable, read_node, read_edge}
use Rattle.sg_parse.specs.declared.token.TokenAt.{TokenAt}
use Rattle.sg_parse.specs.declared.token.Token.{Token}
use Rattle.sg_parse.specs.declared.token.Token.TheVariants.{Word, Colon, Semicolon, Arrow}
use Rattle.sg_parse.proofs.Sound.{Sound}
use Rattle.sg_parse.proofs.Took.{Took, bare, on-inv, branch-inv, took-both, took-give, took-token, took-mark, took-new, took-known, only-word}
use Rattle.sg_parse.proofs.TookSets.{took-some, took-clause}

-- a part was added to a graph, and its statement was taken from behind its first word
pub record Stepped {A : Type 0} (add : Graph → A → Graph) (Spells : Graph → A → List Token → Type 0) (first : List ℕ) (g : Graph) (ps : List TokenAt) (o : Parsed Graph) : Type 0 where
  pub part : A
  pub tokens : List Token
  pub value : add g part ≡ o.value
  pub is_graph : IsGraph (add g part)
  pub spells : Spells g part (Word first ∷ tokens)
  pub took : Took ps o tokens

-- the statement of a role, of a node
abbrev pub SpellsRole : Graph → Name → List Token → Type 0
SpellsRole g n ts = ts ≡ role_tokens n

abbrev pub SpellsNode : Graph → Node → List Token → Type 0
SpellsNode g n ts = ts ≡ node_tokens g n

pub took-role : (g : Graph) (ps : List TokenAt) (o : Parsed Graph) → IsGraph g → length g.roles < 16 → Sound ps → read_role g ps ≡ Ok o → Stepped with_role SpellsRole (codes "role") g ps o
took-role g ps o is room s h =
    let i = on-inv (new_name g.roles ps) (λ n. after (token is_semicolon) λ _. give (with_role g n)) o h in
    let n = took-new g.roles ps i.0 s i.1 in
    let j = on-inv (token is_semicolon (i.0).rest) (λ _. give (with_role g (i.0).value)) o i.2 in
    let t = took-mark Semicolon (i.0).rest j.0 (n.0).sound j.1 in
    let e = took-give (with_role g (i.0).value) (j.0).rest o t.sound j.2 in
    record {
      part = (i.0).value;
      tokens = Word (i.0).value ∷ Semicolon ∷ [];
      value = e.0;
      is_graph = IsGraph-with_role g (i.0).value is (n.1).name (n.1).free (n.1).new room;
      spells = refl;
      took = took-both ps i.0 o (Word (i.0).value ∷ []) (Semicolon ∷ []) n.0 (took-both (i.0).rest j.0 o (Semicolon ∷ []) [] t e.1);
    }

pub took-kind : (ps : List TokenAt) (o : Parsed VariableKind) → Sound ps → read_kind ps ≡ Ok o → Took ps o (Word (kind_text o.value) ∷ [])
took-kind ps o s h = pick (branch-inv (is_word (codes "int")) (after skip λ _. give Int) (after (token (is_word (codes "text"))) λ _. give Text) ps o h)
  where
    there : (ps : List TokenAt) → Sound ps → is_next (is_word (codes "int")) ps ≡ true → on (skip ps) (λ _. give Int) ≡ Ok o → Took ps o (Word (kind_text o.value) ∷ [])
    there [] s e k = absurd (cc)
    there (p ∷ ps) s e k =
        let g = took-give Int ps o s.2 k in
        let t : Took (p ∷ ps) o (Word (kind_text Int) ∷ []) =
        record { begins = ap (λ u. u ∷ bare ps) (only-word (codes "int") p.token e) ∙ ap (λ l. Word (codes "int") ∷ l) (g.1).begins; sound = (g.1).sound } in
        subst (λ v. Took (p ∷ ps) o (Word (kind_text v) ∷ [])) g.0 t

    pick : ((is_next (is_word (codes "int")) ps ≡ true) × (on (skip ps) (λ _. give Int) ≡ Ok o))
        ⊎ ((is_next (is_word (codes "int")) ps ≡ false) × (on (token (is_word (codes "text")) ps) (λ _. give Text) ≡ Ok o)) → Took ps o (Word (kind_text o.value) ∷ [])
    pick (inl (e, k)) = there ps s e k
    pick (inr (e, k)) =
        let j = on-inv (token (is_word (codes "text")) ps) (λ _. give Text) o k in
        let t = took-token (is_word (codes "text")) (Word (codes "text")) ps j.0 (only-word (codes "text")) s j.1 in
        let g = took-give Text (j.0).rest o t.sound j.2 in
        subst (λ v. Took ps o (Word (kind_text v) ∷ [])) g.0 (took-both ps j.0 o (Word (codes "text") ∷ []) [] t g.1)

pub took-variable : (g : Graph) (ps : List TokenAt) (o : Parsed Graph) → IsGraph g → length g.variables < 32 → Sound ps → read_variable g ps ≡ Ok o
    → Stepped with_variable SpellsVariable (codes "var") g ps o
took-variable g ps o is room s h =
    let a = on-inv (new_name (variable_names g) ps) _ o h in
    let n = took-new (variable_names g) ps a.0 s a.1 in
    let b = on-inv (token is_colon (a.0).rest) _ o a.2 in
    let colon = took-mark Colon (a.0).rest b.0 (n.0).sound b.1 in
    let c = on-inv (read_kind (b.0).rest) _ o b.2 in
    let kind = took-kind (b.0).rest c.0 colon.sound c.1 in
    let d = on-inv (token (is_word (codes "by")) (c.0).rest) _ o c.2 in
    let by = took-token (is_word (codes "by")) (Word (codes "by")) (c.0).rest d.0 (only-word (codes "by")) kind.sound d.1 in
    let e = on-inv (some_names 16 g.roles (d.0).rest) _ o d.2 in
    let writers = took-some 16 g.roles is.sizes.0 (d.0).rest e.0 by.sound e.1 in
    let f = on-inv (token is_semicolon (e.0).rest) _ o e.2 in
    let last = took-mark Semicolon (e.0).rest f.0 (writers.1).sound f.1 in
    let v : Variable = record { name = (a.0).value; kind = (c.0).value; writers = (e.0).value } in
    let end = took-give (with_variable g v) (f.0).rest o last.sound f.2 in
    let some : 0 < length (e.0).value = omega (arith, writers.4) in
    record {
      part = v;
      tokens = Word (a.0).value ∷ Colon ∷ Word (kind_text (c.0).value) ∷ Word (codes "by") ∷ named g.roles writers.0 ++ Semicolon ∷ [];
      value = end.0;
      is_graph = IsGraph-with_variable g v is (n.1).name (n.1).free (n.1).new writers.3 some room;
      spells = record { order = writers.0; writers = writers.2; spelled = refl };
      took = took-both ps a.0 o (Word (a.0).value ∷ []) _ n.0
          (took-both (a.0).rest b.0 o (Colon ∷ []) _ colon
          (took-both (b.0).rest c.0 o (Word (kind_text (c.0).value) ∷ []) _ kind
          (took-both (c.0).rest d.0 o (Word (codes "by") ∷ []) _ by
          (took-both (d.0).rest e.0 o (named g.roles writers.0) _ writers.1
          (took-both (e.0).rest f.0 o (Semicolon ∷ []) [] last end.1)))));
    }

pub took-node : (g : Graph) (ps : List TokenAt) (o : Parsed Graph) → IsGraph g → length g.nodes < 256 → Sound ps → read_node g ps ≡ Ok o → Stepped with_node SpellsNode (codes "node") g ps o
took-node g ps o is room s h =
    let a = on-inv (new_name (node_names g) ps) _ o h in
    let n = took-new (node_names g) ps a.0 s a.1 in
    let b = on-inv (token is_colon (a.0).rest) _ o a.2 in
    let colon = took-mark Colon (a.0).rest b.0 (n.0).sound b.1 in
    let c = on-inv (known_name g.roles (b.0).rest) _ o b.2 in
    let role = took-known g.roles (b.0).rest c.0 colon.sound c.1 in
    let d = on-inv (token is_semicolon (c.0).rest) _ o c.2 in
    let last = took-mark Semicolon (c.0).rest d.0 (role.0).sound d.1 in
    let m : Node = record { name = (a.0).value; role = (c.0).value } in
    let end = took-give (with_node g m) (d.0).rest o last.sound d.2 in
    record {
      part = m;
      tokens = Word (a.0).value ∷ Colon ∷ Word (role_name g (c.0).value) ∷ Semicolon ∷ [];
      value = end.0;
      is_graph = IsGraph-with_node g m is (n.1).name (n.1).free (n.1).new role.1 room;
      spells = refl;
      took = took-both ps a.0 o (Word (a.0).value ∷ []) _ n.0
          (took-both (a.0).rest b.0 o (Colon ∷ []) _ colon
          (took-both (b.0).rest c.0 o (Word (role_name g (c.0).value) ∷ []) _ role.0
          (took-both (c.0).rest d.0 o (Semicolon ∷ []) [] last end.1)));
    }

-- the name of a node, among the names of the nodes
pub node_at : (g : Graph) (n : ℕ) → n < length (node_names g) → (get_or (node_names g) n [] ≡ node_name g n) × (n < length g.nodes)
node_at g n h = let l : n < length g.nodes = rw length-map at h in (get_or-map (λ (m : Node). m.name) g.nodes n _ [] l, l)

pub took-edge : (g : Graph) (ps : List TokenAt) (o : Parsed Graph) → IsGraph g → length g.edges < 512 → Sound ps → read_edge g ps ≡ Ok o → Stepped with_edge SpellsEdge (codes "edge") g ps o
took-edge g ps o is room s h =
    let few : length (variable_names g) ≤ 32 = rw length-map is.sizes.1 in
    let a = on-inv (new_name (edge_names g) ps) _ o h in
    let n = took-new (edge_names g) ps a.0 s a.1 in
    let b = on-inv (token is_colon (a.0).rest) _ o a.2 in
    let colon = took-mark Colon (a.0).rest b.0 (n.0).sound b.1 in
    let c = on-inv (known_name (node_names g) (b.0).rest) _ o b.2 in
    let source = took-known (node_names g) (b.0).rest c.0 colon.sound c.1 in
    let d = on-inv (token is_arrow (c.0).rest) _ o c.2 in
    let arrow = took-mark Arrow (c.0).rest d.0 (source.0).sound d.1 in
    let e = on-inv (known_name (node_names g) (d.0).rest) _ o d.2 in
    let target = took-known (node_names g) (d.0).rest e.0 arrow.sound e.1 in
    let f = on-inv (read_clause (codes "writes") (variable_names g) (e.0).rest) _ o e.2 in
    let writes = took-clause (codes "writes") (variable_names g) (e.0).rest f.0 few (target.0).sound f.1 in
    let k = on-inv (read_clause (codes "reads") (variable_names g) (f.0).rest) _ o f.2 in
    let reads = took-clause (codes "reads") (variable_names g) (f.0).rest k.0 few (writes.1).sound k.1 in
    let l = on-inv (token is_semicolon (k.0).rest) _ o k.2 in
    let last = took-mark Semicolon (k.0).rest l.0 (reads.1).sound l.1 in
    let m : Edge = record { name = (a.0).value; source = (c.0).value; target = (e.0).value; writes = (f.0).value; reads = (k.0).value } in
    let end = took-give (with_edge g m) (l.0).rest o last.sound l.2 in
    let from = node_at g (c.0).value source.1 in
    let to = node_at g (e.0).value target.1 in
    let source_word = subst (λ w. Took (b.0).rest c.0 (Word w ∷ [])) from.0 source.0 in
    let target_word = subst (λ w. Took (d.0).rest e.0 (Word w ∷ [])) to.0 target.0 in
    record {
      part = m;
      tokens = Word (a.0).value ∷ Colon ∷ Word (node_name g (c.0).value) ∷ Arrow ∷ Word (node_name g (e.0).value) ∷ writes.0 ++ (reads.0 ++ Semicolon ∷ []);
      value = end.0;
      is_graph = IsGraph-with_edge g m is (n.1).name (n.1).free (n.1).new from.1 to.1 (rw length-map at writes.3) (rw length-map at reads.3) room;
      spells = record { written = writes.0; read = reads.0; writes = writes.2; reads = reads.2; spelled = refl };
      took = took-both ps a.0 o (Word (a.0).value ∷ []) _ n.0
          (took-both (a.0).rest b.0 o (Colon ∷ []) _ colon
          (took-both (b.0).rest c.0 o (Word (node_name g (c.0).value) ∷ []) _ source_word
          (took-both (c.0).rest d.0 o (Arrow ∷ []) _ arrow
          (took-both (d.0).rest e.0 o (Word (node_name g (e.0).value) ∷ []) _ target_word
          (took-both (e.0).rest f.0 o writes.0 _ writes.1
          (took-both (f.0).rest k.0 o reads.0 _ reads.1
          (took-both (k.0).rest l.0 o (Semicolon ∷ []) [] last end.1)))))));
    }
