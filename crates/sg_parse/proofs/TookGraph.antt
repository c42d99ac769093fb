-- The graph that is read is spelled by the text.
use Rattle.std.proofs.Common.{◌≡◌, ℕ, suc, ◌+◌, ◌<◌, ◌≤◌, true, false, List, [], ◌∷◌, ◌++◌, length, codes, Result, Ok, Err, refl, sym, ap, subst, ◌∙◌, arith, inl, inr, ◌⊎◌, length-append, append_assoc, append-nil, flat_map}
use Rattle.sg_model.specs.Names.{Name}
use Rattle.sg_protocol.specs.Graph.{Graph, IsGraph, Variable, Node, Edge}
use Rattle.sg_graph.specs.Adding.{no_parts, with_role, with_variable, with_node, with_edge}
use Rattle.sg_graph.proofs.Growth.{IsGraph-no_parts}
use Rattle.sg_parse.specs.Grammar.{head_tokens, role_tokens, node_tokens, SpellsVariable, SpellsEdge, InTurn, Done, Then, SpellsStatements, SpellsGraph}
use Rattle.sg_parse.specs.Tokens.{tokens, is_word, is_semicolon, is_end, is_last}
use Rattle.sg_parse.specs.Reading as Reading
use Rattle.sg_parse.specs.Reading.{Parsed, Parser, on, after, give, is_next, branch, token, name, read_role, read_variable, read_node, read_edge, read_head, read_roles, read_variables, read_nodes, read_edges, read_end, read_statements, read_text, statement, up_to, whole, read}
use Rattle.sg_parse.specs.declared.token.TokenAt.{TokenAt}
use Rattle.sg_parse.specs.declared.token.Token.{Token}
use Rattle.sg_parse.specs.declared.token.Token.TheVariants.{Word, Semicolon, End}
use Rattle.sg_parse.specs.declared.fault.ParseFault.{ParseFault}
use Rattle.sg_parse.proofs.Sound.{Sound, sound-tokens}
use Rattle.sg_parse.proofs.Took.{Took, bare, ok_same, err_ok, on-inv, branch-inv, took-both, took-give, took-token, took-mark, took-name, only-word, only-mark}
use Rattle.sg_parse.proofs.TookStatements.{SpellsRole, SpellsNode, took-role, took-variable, took-node, took-edge}
use Rattle.sg_parse.proofs.TookText.{adds, Ran, in_turn-map, took-then, took-some, took-up_to}

one_longer : {A : Type 0} (xs : List A) (x : A) → length (xs ++ x ∷ []) ≡ suc (length xs)
one_longer xs x = let l : length (xs ++ x ∷ []) ≡ length xs + length (x ∷ []) = length-append xs (x ∷ []) in omega (arith, l)

-- ---- each kind of part

-- parts of one kind stand in a list of the graph's, which another list may replace: so those added one after the other stand behind those before
module _ {A : Type 0} (parts : Graph → List A) (having : Graph → List A → Graph) (own : (g : Graph) → having g (parts g) ≡ g)
    (had : (g : Graph) (xs : List A) → parts (having g xs) ≡ xs) (again : (g : Graph) (xs ys : List A) → having (having g xs) ys ≡ having g ys) where
  adds_parts : (g : Graph) (xs : List A) → adds (λ g x. having g (parts g ++ x ∷ [])) g xs ≡ having g (parts g ++ xs)
  adds_parts g [] = sym (own g) ∙ ap (having g) (sym (append-nil (parts g)))
  adds_parts g (x ∷ xs) =
      let h : Graph = having g (parts g ++ x ∷ []) in
      adds_parts h xs ∙ again g (parts g ++ x ∷ []) (parts h ++ xs) ∙ ap (λ l. having g (l ++ xs)) (had g (parts g ++ x ∷ [])) ∙ ap (having g) (append_assoc (parts g) (x ∷ []) xs)

pub adds_roles : (g : Graph) (xs : List Name) → adds with_role g xs ≡ record g { roles = g.roles ++ xs }
adds_roles = adds_parts (λ g. g.roles) (λ g xs. record g { roles = xs }) (λ g. refl) (λ g xs. refl) (λ g xs ys. refl)

pub adds_variables : (g : Graph) (xs : List Variable) → adds with_variable g xs ≡ record g { variables = g.variables ++ xs }
adds_variables = adds_parts (λ g. g.variables) (λ g xs. record g { variables = xs }) (λ g. refl) (λ g xs. refl) (λ g xs ys. refl)

variable_stays : (g : Graph) (x y : Variable) (ts : List Token) → SpellsVariable (with_variable g x) y ts → SpellsVariable g y ts
variable_stays g x y ts h = record { order = h.order; writers = h.writers; spelled = h.spelled }

pub adds_nodes : (g : Graph) (xs : List Node) → adds with_node g xs ≡ record g { nodes = g.nodes ++ xs }
adds_nodes = adds_parts (λ g. g.nodes) (λ g xs. record g { nodes = xs }) (λ g. refl) (λ g xs. refl) (λ g xs ys. refl)

pub adds_edges : (g : Graph) (xs : List Edge) → adds with_edge g xs ≡ record g { edges = g.edges ++ xs }
adds_edges = adds_parts (λ g. g.edges) (λ g xs. record g { edges = xs }) (λ g. refl) (λ g xs. refl) (λ g xs ys. refl)

edge_stays : (g : Graph) (x y : Edge) (ts : List Token) → SpellsEdge (with_edge g x) y ts → SpellsEdge g y ts
edge_stays g x y ts h = record { written = h.written; read = h.read; writes = h.writes; reads = h.reads; spelled = h.spelled }

-- statements that are determined, in turn
pub in_turn-flat : {A : Type 0} (f : A → List Token) (xs : List A) (ts : List Token) → InTurn (λ x us. us ≡ f x) xs ts → ts ≡ flat_map f xs
in_turn-flat f [] ts Done = refl
in_turn-flat f (x ∷ xs) ts (Then s rest) = rw (s, in_turn-flat f xs _ rest) refl

-- ---- the parts of a text

took-head : (ps : List TokenAt) (o : Parsed Graph) → Sound ps → read_head ps ≡ Ok o → (n : Name) × (no_parts n ≡ o.value) × IsGraph (no_parts n) × Took ps o (head_tokens n)
took-head ps o s h =
    let a = on-inv (token (is_word (codes "graph")) ps) _ o h in
    let first = took-token (is_word (codes "graph")) (Word (codes "graph")) ps a.0 (only-word (codes "graph")) s a.1 in
    let b = on-inv (name (a.0).rest) _ o a.2 in
    let n = took-name (a.0).rest b.0 first.sound b.1 in
    let c = on-inv (token is_semicolon (b.0).rest) _ o b.2 in
    let last = took-mark Semicolon (b.0).rest c.0 (n.0).sound c.1 in
    let end = took-give (no_parts (b.0).value.0) (c.0).rest o last.sound c.2 in (
      (b.0).value.0,
      end.0,
      IsGraph-no_parts (b.0).value.0 n.1 n.2,
      took-both ps a.0 o (Word (codes "graph") ∷ []) _ first (took-both (a.0).rest b.0 o (Word (b.0).value.0 ∷ []) _ n.0 (took-both (b.0).rest c.0 o (Semicolon ∷ []) [] last end.1)),
    )

took-roles : (g : Graph) (ps : List TokenAt) (o : Parsed Graph) → IsGraph g → length g.roles ≡ 0 → Sound ps → read_roles g ps ≡ Ok o
    → (r : Ran with_role SpellsRole g ps o) × (2 ≤ length r.parts)
took-roles g ps o is none s h =
    let room : length g.roles < 16 = omega (arith, none) in
    took-then with_role SpellsRole (codes "role") read_role (λ g. length g.roles) 16 (λ g x. one_longer g.roles x) (λ g x y ts h. h) took-role 1 (λ g. after (statement (codes "role") read_role g) (up_to 14 (codes "role") read_role)) g ps o is room s h
    (λ a is' one s' h'. (let room' : length a.value.roles + 15 ≤ 16 = omega (arith, none, one) in took-some with_role SpellsRole (codes "role") read_role (λ g. length g.roles) 16 (λ g x. one_longer g.roles x) (λ g x y ts h. h) took-role 14 a.value a.rest o is' room' s' h'))

took-nodes : (g : Graph) (ps : List TokenAt) (o : Parsed Graph) → IsGraph g → length g.nodes ≡ 0 → Sound ps → read_nodes g ps ≡ Ok o
    → (r : Ran with_node SpellsNode g ps o) × (1 ≤ length r.parts)
took-nodes g ps o is none s h =
    let room : length g.nodes + 256 ≤ 256 = omega (arith, none) in
    took-some with_node SpellsNode (codes "node") read_node (λ g. length g.nodes) 256 (λ g x. one_longer g.nodes x) (λ g x y ts h. h) took-node 255 g ps o is room s h

-- the end of the text
pub took-end : (ps : List TokenAt) (o : Parsed (Unit {0})) → Sound ps → read_end ps ≡ Ok o → bare ps ≡ End ∷ []
took-end [] o s h = absurd (cc)
took-end (p ∷ ps) o s h = pick (branch-inv is_end (give tt) Reading.refused (p ∷ ps) o h)
  where
    last : (t : Token) → is_end t ≡ true → is_last t ≡ true
    last End h = refl
    last t h = absurd (cc)

    pick : ((is_end p.token ≡ true) × (give tt (p ∷ ps) ≡ Ok o)) ⊎ ((is_end p.token ≡ false) × (Reading.refused (p ∷ ps) ≡ Ok o)) → bare (p ∷ ps) ≡ End ∷ []
    pick (inl (e, k)) = (let none : ps ≡ [] = s.1 (last p.token e) in rw (none, only-mark End p.token e) refl)
    pick (inr (e, k)) = err_ok (Reading.refusal (p ∷ ps)) o k

-- what was read as a whole
pub whole-inv : {A : Type 0} (res : Result (Parsed A) ParseFault) (g : A) → whole res ≡ Ok g → (r : Parsed A) × (res ≡ Ok r) × (r.value ≡ g)
whole-inv (Err e) g h = err_ok e g h
whole-inv (Ok r) g h = (r, refl, ok_same r.value g h)

-- the graph of these parts
abbrev pub graph_of : Name → List Name → List Variable → List Node → List Edge → Graph
graph_of n rs vs ns es = record { name = n; roles = rs; variables = vs; nodes = ns; edges = es }

-- what follows the statements stands behind them all
pub regroup : (h a b c d e : List Token) → (h ++ (a ++ (b ++ (c ++ d)))) ++ e ≡ h ++ (a ++ (b ++ (c ++ (d ++ e))))
regroup h a b c d e = simp append_assoc

-- a graph whose parts were read one after the other is spelled
spells-parts : (ps : List TokenAt) (n : Name) (a b c d e : Parsed Graph) → no_parts n ≡ a.value → Took ps a (head_tokens n)
    → (roles : Ran with_role SpellsRole a.value a.rest b) → 2 ≤ length roles.parts → Ran with_variable SpellsVariable b.value b.rest c
    → (nodes : Ran with_node SpellsNode c.value c.rest d) → 1 ≤ length nodes.parts → Ran with_edge SpellsEdge d.value d.rest e
    → (ts : List Token) × SpellsStatements e.value ts × Took ps e ts × (n ≡ e.value.name) × IsGraph e.value × (2 ≤ length e.value.roles) × (1 ≤ length e.value.nodes)
spells-parts ps n a b c d e e0 head roles two variables nodes one edges =
    let rs : List Name = roles.parts in
    let vs : List Variable = variables.parts in
    let ns : List Node = nodes.parts in
    let es : List Edge = edges.parts in
    let e1 : graph_of n rs [] [] [] ≡ b.value = sym (adds_roles (no_parts n) rs) ∙ subst (λ k. adds with_role k rs ≡ b.value) (sym e0) roles.value in
    let e2 : graph_of n rs vs [] [] ≡ c.value = sym (adds_variables (graph_of n rs [] [] []) vs) ∙ subst (λ k. adds with_variable k vs ≡ c.value) (sym e1) variables.value in
    let e3 : graph_of n rs vs ns [] ≡ d.value = sym (adds_nodes (graph_of n rs vs [] []) ns) ∙ subst (λ k. adds with_node k ns ≡ d.value) (sym e2) nodes.value in
    let e4 : graph_of n rs vs ns es ≡ e.value = sym (adds_edges (graph_of n rs vs ns []) es) ∙ subst (λ k. adds with_edge k es ≡ e.value) (sym e3) edges.value in
    let g : Graph = graph_of n rs vs ns es in
    let of_roles : roles.tokens ≡ flat_map role_tokens rs = in_turn-flat role_tokens rs roles.tokens roles.spells in
    let of_nodes : nodes.tokens ≡ flat_map (node_tokens g) ns =
    in_turn-flat (node_tokens g) ns nodes.tokens
    (in_turn-map (SpellsNode c.value) (SpellsNode g) ns nodes.tokens (λ x us s. subst (λ k. us ≡ node_tokens k x) (sym e2) s) nodes.spells) in
    let of_variables : InTurn (SpellsVariable g) vs variables.tokens =
    in_turn-map (SpellsVariable b.value) (SpellsVariable g) vs variables.tokens (λ x us s. variable_in x us (subst (λ k. SpellsVariable k x us) (sym e1) s)) variables.spells in
    let of_edges : InTurn (SpellsEdge g) es edges.tokens =
    in_turn-map (SpellsEdge d.value) (SpellsEdge g) es edges.tokens (λ x us s. edge_in x us (subst (λ k. SpellsEdge k x us) (sym e3) s)) edges.spells in
    let ts : List Token = head_tokens n ++ (flat_map role_tokens rs ++ (variables.tokens ++ (flat_map (node_tokens g) ns ++ edges.tokens))) in
    let all : bare ps ≡ head_tokens n ++ (roles.tokens ++ (variables.tokens ++ (nodes.tokens ++ (edges.tokens ++ bare e.rest)))) =
    head.begins ∙ ap (λ l. head_tokens n ++ l) (roles.took.begins ∙ ap (λ l. roles.tokens ++ l) (variables.took.begins
    ∙ ap (λ l. variables.tokens ++ l) (nodes.took.begins ∙ ap (λ l. nodes.tokens ++ l) edges.took.begins))) in
    let all' : bare ps ≡ head_tokens n ++ (flat_map role_tokens rs ++ (variables.tokens ++ (flat_map (node_tokens g) ns ++ (edges.tokens ++ bare e.rest)))) =
    all ∙ rw (of_roles, of_nodes) refl in (
      ts,
      subst (λ k. SpellsStatements k ts) e4 (record {
        of_variables = variables.tokens;
        of_edges = edges.tokens;
        variables = of_variables;
        edges = of_edges;
        spelled = refl;
      }),
      record {
        begins = all' ∙ sym (regroup (head_tokens n) (flat_map role_tokens rs) variables.tokens (flat_map (node_tokens g) ns) edges.tokens (bare e.rest));
        sound = edges.took.sound;
      },
      ap (λ k. k.name) e4,
      edges.is_graph,
      subst (λ k. 2 ≤ length k.roles) e4 two,
      subst (λ k. 1 ≤ length k.nodes) e4 one,
    )
  where
    variable_in : (x : Variable) (us : List Token) → SpellsVariable (graph_of n roles.parts [] [] []) x us → SpellsVariable (graph_of n roles.parts variables.parts nodes.parts edges.parts) x us
    variable_in x us h = record { order = h.order; writers = h.writers; spelled = h.spelled }

    edge_in : (x : Edge) (us : List Token) → SpellsEdge (graph_of n roles.parts variables.parts nodes.parts []) x us → SpellsEdge (graph_of n roles.parts variables.parts nodes.parts edges.parts) x us
    edge_in x us h = record { written = h.written; read = h.read; writes = h.writes; reads = h.reads; spelled = h.spelled }

-- what stands still while other parts are added
roles_keep : (g : Graph) (xs : List Name) (h : Graph) → adds with_role g xs ≡ h → (length h.variables ≡ length g.variables) × (length h.nodes ≡ length g.nodes) × (length h.edges ≡ length g.edges)
roles_keep g xs h e = subst (λ k. (length k.variables ≡ length g.variables) × (length k.nodes ≡ length g.nodes) × (length k.edges ≡ length g.edges)) (sym (adds_roles g xs) ∙ e) (refl, refl, refl)

variables_keep : (g : Graph) (xs : List Variable) (h : Graph) → adds with_variable g xs ≡ h → (length h.nodes ≡ length g.nodes) × (length h.edges ≡ length g.edges)
variables_keep g xs h e = subst (λ k. (length k.nodes ≡ length g.nodes) × (length k.edges ≡ length g.edges)) (sym (adds_variables g xs) ∙ e) (refl, refl)

nodes_keep : (g : Graph) (xs : List Node) (h : Graph) → adds with_node g xs ≡ h → length h.edges ≡ length g.edges
nodes_keep g xs h e = subst (λ k. length k.edges ≡ length g.edges) (sym (adds_nodes g xs) ∙ e) refl

-- the statements behind the graph's name
pub took-statements : (ps : List TokenAt) (n : Name) (a w : Parsed Graph) → no_parts n ≡ a.value → IsGraph (no_parts n) → Took ps a (head_tokens n)
    → read_statements a.value a.rest ≡ Ok w
    → (ts : List Token) × SpellsStatements w.value ts × Took ps w ts × (n ≡ w.value.name) × IsGraph w.value × (2 ≤ length w.value.roles) × (1 ≤ length w.value.nodes)
took-statements ps n a w e0 is head h =
    let b = on-inv (read_roles a.value a.rest) _ w h in
    let is₀ : IsGraph a.value = subst IsGraph e0 is in
    let no_roles : length a.value.roles ≡ 0 = subst (λ k. length k.roles ≡ 0) e0 refl in
    let r = took-roles a.value a.rest b.0 is₀ no_roles head.sound b.1 in
    let roles = r.0 in
    let keep = roles_keep a.value roles.parts (b.0).value roles.value in
    let none : (length a.value.variables ≡ 0) × (length a.value.nodes ≡ 0) × (length a.value.edges ≡ 0) =
    subst (λ k. (length k.variables ≡ 0) × (length k.nodes ≡ 0) × (length k.edges ≡ 0)) e0 (refl, refl, refl) in
    let c = on-inv (read_variables (b.0).value (b.0).rest) _ w b.2 in
    let room : length (b.0).value.variables + 32 ≤ 32 = omega (arith, keep.0, none.0) in
    let variables = took-up_to with_variable SpellsVariable (codes "var") read_variable (λ g. length g.variables) 32 (λ g x. one_longer g.variables x) variable_stays took-variable 32 (b.0).value (b.0).rest c.0 roles.is_graph room roles.took.sound c.1 in
    let keep' = variables_keep (b.0).value variables.parts (c.0).value variables.value in
    let d = on-inv (read_nodes (c.0).value (c.0).rest) _ w c.2 in
    let no_nodes : length (c.0).value.nodes ≡ 0 = keep'.0 ∙ keep.1 ∙ none.1 in
    let nodes = took-nodes (c.0).value (c.0).rest d.0 variables.is_graph no_nodes variables.took.sound d.1 in
    let keep'' = nodes_keep (c.0).value (nodes.0).parts (d.0).value (nodes.0).value in
    let no_edges : length (d.0).value.edges ≡ 0 = keep'' ∙ keep'.1 ∙ keep.2 ∙ none.2 in
    let room' : length (d.0).value.edges + 512 ≤ 512 = omega (arith, no_edges) in
    let edges = took-up_to with_edge SpellsEdge (codes "edge") read_edge (λ g. length g.edges) 512 (λ g x. one_longer g.edges x) edge_stays took-edge 512 (d.0).value (d.0).rest w (nodes.0).is_graph room' ((nodes.0).took).sound d.2 in
    spells-parts ps n a b.0 c.0 d.0 w e0 head roles r.1 variables nodes.0 nodes.1 edges

-- a graph that is read is spelled
pub read-spells : (bs : List ℕ) (g : Graph) → read bs ≡ Ok g → SpellsGraph bs g
read-spells bs g h =
    let w = whole-inv (read_text (tokens bs)) g h in
    let a = on-inv (read_head (tokens bs)) _ w.0 w.1 in
    let head = took-head (tokens bs) a.0 (sound-tokens bs) a.1 in
    let b = on-inv (read_statements (a.0).value (a.0).rest) _ w.0 a.2 in
    let t = took-statements (tokens bs) head.0 a.0 b.0 head.1 head.2 head.3 b.1 in
    let f = on-inv (read_end (b.0).rest) _ w.0 b.2 in
    let end = took-end (b.0).rest f.0 (t.2).sound f.1 in
    let same : record { value = (b.0).value; rest = (f.0).rest } ≡ w.0 = ok_same (record { value = (b.0).value; rest = (f.0).rest }) w.0 f.2 in
    let spelled : bare (tokens bs) ≡ t.0 ++ End ∷ [] = (t.2).begins ∙ ap (λ l. t.0 ++ l) end in
    subst (SpellsGraph bs) (ap (λ (r : Parsed Graph). r.value) same ∙ w.2) (record { is_graph = t.4; two_roles = t.5; has_node = t.6; of_graph = t.0; statements = t.1; spelled = spelled })
