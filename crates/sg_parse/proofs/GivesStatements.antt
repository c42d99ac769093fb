-- Statements are read to the parts that they are of.
use Rattle.std.proofs.Common.{◌≡◌, ℕ, ◌<◌, ◌≤◌, Bool, false, List, [], ◌∷◌, ◌++◌, map, length, get_or, codes, refl, sym, subst, arith, append_assoc}
use Rattle.std.proofs.lemmas.List.{length-map, get_or-map, map-append}
use Rattle.sg_model.specs.Names.{Name}
use Rattle.sg_protocol.specs.Graph.{Graph, IsGraph, Variable, Node, Edge, kind_text, role_name, node_name, AreNumbers, AreNames}
use Rattle.sg_graph.specs.Adding.{with_role, with_variable, with_node, with_edge}
use Rattle.sg_graph.specs.Parts.{variable_names, node_names, edge_names}
use Rattle.sg_parse.specs.Grammar.{named, SpellsVariable, SpellsClause, Without, With, SpellsEdge}
use Rattle.sg_parse.specs.Tokens.{is_word, is_named, is_colon, is_semicolon, is_arrow}
use Rattle.sg_parse.specs.Reading.{token, new_name, known_name, some_names, read_clause, read_kind, read_role, read_variable, read_node, read_edge, statement}
use Rattle.sg_parse.specs.declared.token.Token.{Token}
use Rattle.sg_parse.specs.declared.token.Token.TheVariants.{Word, Colon, Semicolon, Arrow}
use Rattle.sg_parse.proofs.TookStatements.{SpellsRole, SpellsNode}
use Rattle.sg_parse.proofs.TookText.{adds}
use Rattle.sg_parse.proofs.TookGraph.{adds_roles, adds_variables, adds_nodes, adds_edges}
use Rattle.sg_parse.proofs.Middle.{name-middle, all-middle}
use Rattle.sg_parse.proofs.Gives.{Gives, gives-give, gives-after, gives-token, gives-word, gives-new, gives-known, gives-kind, head_is}
use Rattle.sg_parse.proofs.GivesSets.{gives-some, gives-clause}

-- a role
pub gives-role : (g : Graph) (n : Name) (ns : List Name) (ts us : List Token) → IsGraph (adds with_role g (n ∷ ns)) → SpellsRole g n ts → Gives (statement (codes "role") read_role g) ts us (with_role g n)
gives-role g n ns ts us is spelled =
    let all : IsGraph (record g { roles = g.roles ++ n ∷ ns }) = subst IsGraph (adds_roles g (n ∷ ns)) is in
    let m = name-middle g.roles n ns all.role_names in
    subst (λ l. Gives (statement (codes "role") read_role g) l us (with_role g n)) (sym spelled)
    (gives-after (token (is_word (codes "role"))) _ (Word (codes "role") ∷ []) (Word n ∷ Semicolon ∷ []) us tt (with_role g n) (gives-word (codes "role") (Word n ∷ Semicolon ∷ us))
    (gives-after (new_name g.roles) _ (Word n ∷ []) (Semicolon ∷ []) us n (with_role g n) (gives-new g.roles n (Semicolon ∷ us) m.0 m.1)
    (gives-after (token is_semicolon) _ (Semicolon ∷ []) [] us tt (with_role g n) (gives-token is_semicolon Semicolon us refl) (gives-give (with_role g n) us))))

-- a variable
pub gives-variable : (g : Graph) (v : Variable) (vs : List Variable) (ts us : List Token) → IsGraph (adds with_variable g (v ∷ vs)) → SpellsVariable g v ts
    → Gives (statement (codes "var") read_variable g) ts us (with_variable g v)
gives-variable g v vs ts us is spells =
    let all : IsGraph (record g { variables = g.variables ++ v ∷ vs }) = subst IsGraph (adds_variables g (v ∷ vs)) is in
    let names : AreNames (variable_names g ++ v.name ∷ map (λ (w : Variable). w.name) vs) = subst AreNames (map-append (λ (w : Variable). w.name) g.variables (v ∷ vs)) all.variable_names in
    let m = name-middle (variable_names g) v.name (map (λ (w : Variable). w.name) vs) names in
    let w = all-middle (λ (w : Variable). AreNumbers (length g.roles) w.writers × (0 < length w.writers)) g.variables v vs all.writers in
    let some : 1 ≤ length v.writers = omega (arith, w.1) in
    let o : List ℕ = spells.order in
    subst (λ l. Gives (statement (codes "var") read_variable g) l us (with_variable g v)) (sym spells.spelled)
    (gives-after (token (is_word (codes "var"))) _ (Word (codes "var") ∷ []) _ us tt (with_variable g v) (gives-word (codes "var") _)
    (gives-after (new_name (variable_names g)) _ (Word v.name ∷ []) _ us v.name (with_variable g v) (gives-new (variable_names g) v.name _ m.0 m.1)
    (gives-after (token is_colon) _ (Colon ∷ []) _ us tt (with_variable g v) (gives-token is_colon Colon _ refl)
    (gives-after read_kind _ (Word (kind_text v.kind) ∷ []) _ us v.kind (with_variable g v) (gives-kind v.kind _)
    (gives-after (token (is_word (codes "by"))) _ (Word (codes "by") ∷ []) (named g.roles o ++ Semicolon ∷ []) us tt (with_variable g v) (gives-word (codes "by") _)
    (gives-after (some_names 16 g.roles) _ (named g.roles o) (Semicolon ∷ []) us v.writers (with_variable g v)
    (gives-some 16 g.roles all.role_names all.sizes.0 v.writers o (Semicolon ∷ us) w.0 some spells.writers refl)
    (gives-after (token is_semicolon) _ (Semicolon ∷ []) [] us tt (with_variable g v) (gives-token is_semicolon Semicolon us refl) (gives-give (with_variable g v) us))))))))

-- a node
pub gives-node : (g : Graph) (n : Node) (ns : List Node) (ts us : List Token) → IsGraph (adds with_node g (n ∷ ns)) → SpellsNode g n ts → Gives (statement (codes "node") read_node g) ts us (with_node g n)
gives-node g n ns ts us is spelled =
    let all : IsGraph (record g { nodes = g.nodes ++ n ∷ ns }) = subst IsGraph (adds_nodes g (n ∷ ns)) is in
    let names : AreNames (node_names g ++ n.name ∷ map (λ (w : Node). w.name) ns) = subst AreNames (map-append (λ (w : Node). w.name) g.nodes (n ∷ ns)) all.node_names in
    let m = name-middle (node_names g) n.name (map (λ (w : Node). w.name) ns) names in
    let r : n.role < length g.roles = all-middle (λ (w : Node). w.role < length g.roles) g.nodes n ns all.roles in
    subst (λ l. Gives (statement (codes "node") read_node g) l us (with_node g n)) (sym spelled)
    (gives-after (token (is_word (codes "node"))) _ (Word (codes "node") ∷ []) _ us tt (with_node g n) (gives-word (codes "node") _)
    (gives-after (new_name (node_names g)) _ (Word n.name ∷ []) _ us n.name (with_node g n) (gives-new (node_names g) n.name _ m.0 m.1)
    (gives-after (token is_colon) _ (Colon ∷ []) _ us tt (with_node g n) (gives-token is_colon Colon _ refl)
    (gives-after (known_name g.roles) _ (Word (role_name g n.role) ∷ []) (Semicolon ∷ []) us n.role (with_node g n) (gives-known g.roles n.role (Semicolon ∷ us) all.role_names r)
    (gives-after (token is_semicolon) _ (Semicolon ∷ []) [] us tt (with_node g n) (gives-token is_semicolon Semicolon us refl) (gives-give (with_node g n) us))))))

-- a clause begins with its word, or what follows it does
after_clause : (first : List ℕ) (names : List Name) (set : List ℕ) (ts us : List Token) (test : Token → Bool) → SpellsClause first names set ts → test (Word first) ≡ false → head_is test us ≡ false
    → head_is test (ts ++ us) ≡ false
after_clause first names set ts us test Without w h = h
after_clause first names set ts us test (With l is) w h = w

-- an edge
pub gives-edge : (g : Graph) (e : Edge) (es : List Edge) (ts us : List Token) → IsGraph (adds with_edge g (e ∷ es)) → SpellsEdge g e ts → Gives (statement (codes "edge") read_edge g) ts us (with_edge g e)
gives-edge g e es ts us is spells =
    let all : IsGraph (record g { edges = g.edges ++ e ∷ es }) = subst IsGraph (adds_edges g (e ∷ es)) is in
    let names : AreNames (edge_names g ++ e.name ∷ map (λ (w : Edge). w.name) es) = subst AreNames (map-append (λ (w : Edge). w.name) g.edges (e ∷ es)) all.edge_names in
    let m = name-middle (edge_names g) e.name (map (λ (w : Edge). w.name) es) names in
    let ends = all-middle (λ (w : Edge). (w.source < length g.nodes) × (w.target < length g.nodes)) g.edges e es all.ends in
    let sets = all-middle (λ (w : Edge). AreNumbers (length g.variables) w.writes × AreNumbers (length g.variables) w.reads) g.edges e es all.variables in
    let few : length (variable_names g) ≤ 32 = rw length-map all.sizes.1 in
    let from : e.source < length (node_names g) = rw length-map ends.0 in
    let to : e.target < length (node_names g) = rw length-map ends.1 in
    let writes : AreNumbers (length (variable_names g)) e.writes = rw length-map sets.0 in
    let reads : AreNumbers (length (variable_names g)) e.reads = rw length-map sets.1 in
    let source_name : get_or (node_names g) e.source [] ≡ node_name g e.source = get_or-map (λ (m : Node). m.name) g.nodes e.source _ [] ends.0 in
    let target_name : get_or (node_names g) e.target [] ≡ node_name g e.target = get_or-map (λ (m : Node). m.name) g.nodes e.target _ [] ends.1 in
    let w : List Token = spells.written in
    let r : List Token = spells.read in
    let h : Graph = with_edge g e in
    let rest₃ : List Token = w ++ (r ++ Semicolon ∷ []) in
    let rest₂ : List Token = Arrow ∷ Word (node_name g e.target) ∷ rest₃ in
    let source : Gives (known_name (node_names g)) (Word (node_name g e.source) ∷ []) (rest₂ ++ us) e.source =
    subst (λ k. Gives (known_name (node_names g)) (Word k ∷ []) (rest₂ ++ us) e.source) source_name (gives-known (node_names g) e.source (rest₂ ++ us) all.node_names from) in
    let target : Gives (known_name (node_names g)) (Word (node_name g e.target) ∷ []) (rest₃ ++ us) e.target =
    subst (λ k. Gives (known_name (node_names g)) (Word k ∷ []) (rest₃ ++ us) e.target) target_name (gives-known (node_names g) e.target (rest₃ ++ us) all.node_names to) in
    let behind : Gives (read_clause (codes "writes") (variable_names g)) w ((r ++ Semicolon ∷ []) ++ us) e.writes =
    gives-clause (codes "writes") (variable_names g) e.writes w ((r ++ Semicolon ∷ []) ++ us) all.variable_names few writes spells.writes
    (rw append_assoc (after_clause (codes "reads") (variable_names g) e.reads r (Semicolon ∷ us) is_named spells.reads refl refl))
    (rw append_assoc (after_clause (codes "reads") (variable_names g) e.reads r (Semicolon ∷ us) (is_word (codes "writes")) spells.reads refl refl)) in
    subst (λ l. Gives (statement (codes "edge") read_edge g) l us h) (sym spells.spelled)
    (gives-after (token (is_word (codes "edge"))) _ (Word (codes "edge") ∷ []) (Word e.name ∷ Colon ∷ Word (node_name g e.source) ∷ rest₂) us tt h (gives-word (codes "edge") _)
    (gives-after (new_name (edge_names g)) _ (Word e.name ∷ []) (Colon ∷ Word (node_name g e.source) ∷ rest₂) us e.name h (gives-new (edge_names g) e.name _ m.0 m.1)
    (gives-after (token is_colon) _ (Colon ∷ []) (Word (node_name g e.source) ∷ rest₂) us tt h (gives-token is_colon Colon _ refl)
    (gives-after (known_name (node_names g)) _ (Word (node_name g e.source) ∷ []) rest₂ us e.source h source
    (gives-after (token is_arrow) _ (Arrow ∷ []) (Word (node_name g e.target) ∷ rest₃) us tt h (gives-token is_arrow Arrow _ refl)
    (gives-after (known_name (node_names g)) _ (Word (node_name g e.target) ∷ []) rest₃ us e.target h target
    (gives-after (read_clause (codes "writes") (variable_names g)) _ w (r ++ Semicolon ∷ []) us e.writes h behind
    (gives-after (read_clause (codes "reads") (variable_names g)) _ r (Semicolon ∷ []) us e.reads h
    (gives-clause (codes "reads") (variable_names g) e.reads r (Semicolon ∷ us) all.variable_names few reads spells.reads refl refl)
    (gives-after (token is_semicolon) _ (Semicolon ∷ []) [] us tt h (gives-token is_semicolon Semicolon us refl) (gives-give h us))))))))))
