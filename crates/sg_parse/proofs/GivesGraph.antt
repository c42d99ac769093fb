-- A graph that is spelled is read.
use Rattle.std.proofs.Common.{◌≡◌, ℕ, zero, suc, ◌≤◌, Bool, true, false, List, [], ◌∷◌, ◌++◌, length, codes, Ok, refl, sym, ap, subst, ◌∙◌, arith, append_assoc, append-nil, flat_map}
use Rattle.sg_model.specs.Lists.{has_text}
use Rattle.sg_model.specs.Names.{Name, reserved}
use Rattle.sg_protocol.specs.Graph.{Graph, IsGraph, Variable, Node, Edge}
use Rattle.sg_graph.specs.Adding.{no_parts, with_role, with_variable, with_node, with_edge}
use Rattle.sg_parse.specs.Grammar.{head_tokens, role_tokens, node_tokens, SpellsVariable, SpellsEdge, InTurn, Done, Then, SpellsStatements, SpellsGraph}
use Rattle.sg_parse.specs.Tokens.{tokens, is_word, is_semicolon, is_end}
use Rattle.sg_parse.specs.Reading.{Parser, after, give, is_next, token, name, read_role, read_variable, read_node, read_edge, read_head, read_roles, read_variables, read_nodes, read_edges, read_end, read_statements, read_text, statement, up_to, whole, read}
use Rattle.sg_parse.specs.declared.token.TokenAt.{TokenAt}
use Rattle.sg_parse.specs.declared.token.Token.{Token}
use Rattle.sg_parse.specs.declared.token.Token.TheVariants.{Word, Semicolon, End}
use Rattle.sg_parse.proofs.Loops.{up_to-there, up_to-away}
use Rattle.sg_parse.proofs.Took.{bare}
use Rattle.sg_parse.proofs.Readings.{onward}
use Rattle.sg_parse.proofs.TookStatements.{SpellsRole, SpellsNode}
use Rattle.sg_parse.proofs.TookText.{adds, in_turn-map}
use Rattle.sg_parse.proofs.TookGraph.{adds_roles, adds_variables, adds_nodes, adds_edges, graph_of}
use Rattle.sg_parse.proofs.Middle.{name-middle}
use Rattle.sg_parse.proofs.Gives.{Gives, gives-give, gives-after, gives-token, gives-word, gives-first, name-there, head_is, head-next}
use Rattle.sg_parse.proofs.GivesStatements.{gives-role, gives-variable, gives-node, gives-edge}

module _ {A : Type 0} (add : Graph → A → Graph) (Spells : Graph → A → List Token → Type 0) (first : List ℕ) (reader : Graph → Parser Graph)
    (begins : (g : Graph) (x : A) (ts us : List Token) → Spells g x ts → head_is (is_word first) (ts ++ us) ≡ true)
    (moves : (g : Graph) (x y : A) (ts : List Token) → Spells g y ts → Spells (add g x) y ts)
    (step : (g : Graph) (x : A) (xs : List A) (ts us : List Token) → IsGraph (adds add g (x ∷ xs)) → Spells g x ts → Gives (statement first reader g) ts us (add g x)) where
  -- statements in turn are read
  pub gives-up_to : (n : ℕ) (g : Graph) (xs : List A) (ts us : List Token) → length xs ≤ n → IsGraph (adds add g xs) → InTurn (Spells g) xs ts → head_is (is_word first) us ≡ false
      → Gives (up_to n first reader g) ts us (adds add g xs)
  gives-up_to n g [] ts us l is Done h = record { go = λ ps e. (ps, e, up_to-away first reader n g ps (head-next (is_word first) ps ∙ ap (head_is (is_word first)) e ∙ h)) }
  gives-up_to zero g (x ∷ xs) ts us l is t h = absurd (omega (arith, l))
  gives-up_to (suc n) g (x ∷ xs) ts us l is (Then {ts = prefix} {us = back} s rest) h =
      let more : Gives (up_to n first reader (add g x)) back us (adds add (add g x) xs) =
      gives-up_to n (add g x) xs back us (omega (arith, l)) is (in_turn-map (Spells g) (Spells (add g x)) xs back (moves g x) rest) h in
      let both : Gives (after (statement first reader g) (up_to n first reader)) (prefix ++ back) us (adds add (add g x) xs) =
      gives-after (statement first reader g) (up_to n first reader) prefix back us (add g x) (adds add (add g x) xs) (step g x xs prefix (back ++ us) is s) more in
      record {
        go = λ ps e.
            let there : is_next (is_word first) ps ≡ true = head-next (is_word first) ps ∙ ap (head_is (is_word first)) (e ∙ append_assoc prefix back us) ∙ begins g x prefix (back ++ us) s in
            let r = both.go ps e in
            (r.0, r.1, up_to-there first reader n g ps there ∙ r.2);
      }

-- ---- how statements begin

role_begins : (g : Graph) (x : Name) (ts us : List Token) → SpellsRole g x ts → head_is (is_word (codes "role")) (ts ++ us) ≡ true
role_begins g x ts us s = ap (λ l. head_is (is_word (codes "role")) (l ++ us)) s

node_begins : (g : Graph) (x : Node) (ts us : List Token) → SpellsNode g x ts → head_is (is_word (codes "node")) (ts ++ us) ≡ true
node_begins g x ts us s = ap (λ l. head_is (is_word (codes "node")) (l ++ us)) s

variable_begins : (test : Token → Bool) (g : Graph) (x : Variable) (ts us : List Token) → SpellsVariable g x ts → head_is test (ts ++ us) ≡ test (Word (codes "var"))
variable_begins test g x ts us s = ap (λ l. head_is test (l ++ us)) s.spelled

edge_begins : (test : Token → Bool) (g : Graph) (x : Edge) (ts us : List Token) → SpellsEdge g x ts → head_is test (ts ++ us) ≡ test (Word (codes "edge"))
edge_begins test g x ts us s = ap (λ l. head_is test (l ++ us)) s.spelled

-- behind statements in turn, what doesn't begin them and what follows doesn't begin
variables_ahead : (test : Token → Bool) (g : Graph) (xs : List Variable) (ts us : List Token) → InTurn (SpellsVariable g) xs ts → test (Word (codes "var")) ≡ false → head_is test us ≡ false → head_is test (ts ++ us) ≡ false
variables_ahead test g [] ts us Done w h = h
variables_ahead test g (x ∷ xs) ts us (Then {ts = prefix} {us = back} s rest) w h = ap (head_is test) (append_assoc prefix back us) ∙ variable_begins test g x prefix (back ++ us) s ∙ w

edges_ahead : (test : Token → Bool) (g : Graph) (xs : List Edge) (ts us : List Token) → InTurn (SpellsEdge g) xs ts → test (Word (codes "edge")) ≡ false → head_is test us ≡ false → head_is test (ts ++ us) ≡ false
edges_ahead test g [] ts us Done w h = h
edges_ahead test g (x ∷ xs) ts us (Then {ts = prefix} {us = back} s rest) w h = ap (head_is test) (append_assoc prefix back us) ∙ edge_begins test g x prefix (back ++ us) s ∙ w

-- statements that are determined stand in turn
flat-in_turn : {A : Type 0} (f : A → List Token) (xs : List A) → InTurn (λ x us. us ≡ f x) xs (flat_map f xs)
flat-in_turn f [] = Done
flat-in_turn f (x ∷ xs) = Then refl (flat-in_turn f xs)

variable_moves : (g : Graph) (x y : Variable) (ts : List Token) → SpellsVariable g y ts → SpellsVariable (with_variable g x) y ts
variable_moves g x y ts h = record { order = h.order; writers = h.writers; spelled = h.spelled }

edge_moves : (g : Graph) (x y : Edge) (ts : List Token) → SpellsEdge g y ts → SpellsEdge (with_edge g x) y ts
edge_moves g x y ts h = record { written = h.written; read = h.read; writes = h.writes; reads = h.reads; spelled = h.spelled }

-- ---- the text

gives-head : (n : Name) (us : List Token) → has_text n reserved ≡ false → Gives read_head (head_tokens n) us (no_parts n)
gives-head n us free =
    gives-after (token (is_word (codes "graph"))) _ (Word (codes "graph") ∷ []) (Word n ∷ Semicolon ∷ []) us tt (no_parts n) (gives-word (codes "graph") (Word n ∷ Semicolon ∷ us)) (record { go = go })
  where
    go : (ps : List TokenAt) → bare ps ≡ Word n ∷ Semicolon ∷ us → (rest : List TokenAt) × (bare rest ≡ us)
        × (after name (λ (n : Name × ℕ). after (token is_semicolon) λ _. give (no_parts n.0)) ps ≡ Ok (record { value = no_parts n; rest = rest }))
    go ps e =
        let f = name-there ps n (Semicolon ∷ us) free e in
        let last : Gives (after (token is_semicolon) (λ _. give (no_parts n))) (Semicolon ∷ []) us (no_parts n) =
        gives-after (token is_semicolon) (λ _. give (no_parts n)) (Semicolon ∷ []) [] us tt (no_parts n) (gives-token is_semicolon Semicolon us refl) (gives-give (no_parts n) us) in
        let r = last.go f.1 f.2 in
        (r.0, r.1, onward name (λ (n : Name × ℕ). after (token is_semicolon) λ _. give (no_parts n.0)) ps (record { value = (n, f.0); rest = f.1 }) f.3 ∙ r.2)

gives-roles : (n x y : Name) (rs : List Name) (us : List Token) → IsGraph (graph_of n (x ∷ y ∷ rs) [] [] []) → head_is (is_word (codes "role")) us ≡ false
    → Gives (read_roles (no_parts n)) (flat_map role_tokens (x ∷ y ∷ rs)) us (graph_of n (x ∷ y ∷ rs) [] [] [])
gives-roles n x y rs us is h =
    let g : Graph = no_parts n in
    let all : IsGraph (adds with_role g (x ∷ y ∷ rs)) = subst IsGraph (sym (adds_roles g (x ∷ y ∷ rs))) is in
    let two : suc (suc (length rs)) ≤ 16 = is.sizes.0 in
    let few : length rs ≤ 14 = omega (arith, two) in
    let back : List Token = flat_map role_tokens rs in
    let end : Graph = adds with_role g (x ∷ y ∷ rs) in
    subst (Gives (read_roles g) (flat_map role_tokens (x ∷ y ∷ rs)) us) (adds_roles g (x ∷ y ∷ rs))
    (gives-after (statement (codes "role") read_role g) _ (role_tokens x) (role_tokens y ++ back) us (with_role g x) end (gives-role g x (y ∷ rs) (role_tokens x) ((role_tokens y ++ back) ++ us) all refl)
    (gives-after (statement (codes "role") read_role (with_role g x)) _ (role_tokens y) back us (with_role (with_role g x) y) end (gives-role (with_role g x) y rs (role_tokens y) (back ++ us) all refl)
    (gives-up_to with_role SpellsRole (codes "role") read_role role_begins (λ g x y ts s. s) gives-role 14 (with_role (with_role g x) y) rs back us few all (flat-in_turn role_tokens rs) h)))

gives-nodes : (g : Graph) (m : Node) (ns : List Node) (us : List Token) → IsGraph (record g { nodes = g.nodes ++ m ∷ ns }) → length (m ∷ ns) ≤ 256 → head_is (is_word (codes "node")) us ≡ false
    → Gives (read_nodes g) (flat_map (node_tokens g) (m ∷ ns)) us (record g { nodes = g.nodes ++ m ∷ ns })
gives-nodes g m ns us is size h =
    let all : IsGraph (adds with_node g (m ∷ ns)) = subst IsGraph (sym (adds_nodes g (m ∷ ns))) is in
    let one : suc (length ns) ≤ 256 = size in
    let few : length ns ≤ 255 = omega (arith, one) in
    let back : List Token = flat_map (node_tokens g) ns in
    subst (Gives (read_nodes g) (flat_map (node_tokens g) (m ∷ ns)) us) (adds_nodes g (m ∷ ns))
    (gives-after (statement (codes "node") read_node g) _ (node_tokens g m) back us (with_node g m) (adds with_node g (m ∷ ns)) (gives-node g m ns (node_tokens g m) (back ++ us) all refl)
    (gives-up_to with_node SpellsNode (codes "node") read_node node_begins (λ g x y ts s. s) gives-node 255 (with_node g m) ns back us few all (flat-in_turn (node_tokens g) ns) h))

-- the statements of a graph behind its name
statements-read : (n x y : Name) (rs : List Name) (vs : List Variable) (m : Node) (ns : List Node) (es : List Edge) (ts us : List Token) → IsGraph (graph_of n (x ∷ y ∷ rs) vs (m ∷ ns) es)
    → SpellsStatements (graph_of n (x ∷ y ∷ rs) vs (m ∷ ns) es) ts
    → head_is (is_word (codes "node")) us ≡ false → head_is (is_word (codes "edge")) us ≡ false
    → (back : List Token) × (ts ≡ head_tokens n ++ back) × Gives (read_statements (no_parts n)) back us (graph_of n (x ∷ y ∷ rs) vs (m ∷ ns) es)
statements-read n x y rs vs m ns es ts us is s no_node no_edge =
    let roles : List Name = x ∷ y ∷ rs in
    let nodes : List Node = m ∷ ns in
    let g : Graph = graph_of n roles vs nodes es in
    let g1 : Graph = graph_of n roles [] [] [] in
    let g2 : Graph = graph_of n roles vs [] [] in
    let g3 : Graph = graph_of n roles vs nodes [] in
    let is1 : IsGraph g1 = record {
      named = is.named;
      role_names = is.role_names;
      variable_names = refl;
      node_names = refl;
      edge_names = refl;
      writers = λ k d l. absurd (omega arith);
      roles = λ k d l. absurd (omega arith);
      ends = λ k d l. absurd (omega arith);
      variables = λ k d l. absurd (omega arith);
      sizes = (is.sizes.0, omega arith, omega arith, omega arith);
    } in
    let is2 : IsGraph g2 = record {
      named = is.named;
      role_names = is.role_names;
      variable_names = is.variable_names;
      node_names = refl;
      edge_names = refl;
      writers = is.writers;
      roles = λ k d l. absurd (omega arith);
      ends = λ k d l. absurd (omega arith);
      variables = λ k d l. absurd (omega arith);
      sizes = (is.sizes.0, is.sizes.1, omega arith, omega arith);
    } in
    let is3 : IsGraph g3 = record {
      named = is.named;
      role_names = is.role_names;
      variable_names = is.variable_names;
      node_names = is.node_names;
      edge_names = refl;
      writers = is.writers;
      roles = is.roles;
      ends = λ k d l. absurd (omega arith);
      variables = λ k d l. absurd (omega arith);
      sizes = (is.sizes.0, is.sizes.1, is.sizes.2, omega arith);
    } in
    let vt : List Token = s.of_variables in
    let et : List Token = s.of_edges in
    let rt : List Token = flat_map role_tokens roles in
    let nt : List Token = flat_map (node_tokens g) nodes in
    let turn_v : InTurn (SpellsVariable g1) vs vt = in_turn-map (SpellsVariable g) (SpellsVariable g1) vs vt (λ v us h. variable_first v us h) s.variables in
    let turn_e : InTurn (SpellsEdge g3) es et = in_turn-map (SpellsEdge g) (SpellsEdge g3) es et (λ e us h. edge_first e us h) s.edges in
    let all_v : IsGraph (adds with_variable g1 vs) = subst IsGraph (sym (adds_variables g1 vs)) is2 in
    let all_e : IsGraph (adds with_edge g3 es) = subst IsGraph (sym (adds_edges g3 es)) is in
    let e5 : Gives (read_edges g3) et us g =
    subst (Gives (read_edges g3) et us) (adds_edges g3 es)
    (gives-up_to with_edge SpellsEdge (codes "edge") read_edge (λ g x ts us h. edge_begins (is_word (codes "edge")) g x ts us h) edge_moves gives-edge 512 g3 es et us is.sizes.3 all_e turn_e no_edge) in
    let e4 : Gives (read_nodes g2) nt (et ++ us) g3 =
    gives-nodes g2 m ns (et ++ us) is3 is.sizes.2 (edges_ahead (is_word (codes "node")) g3 es et us turn_e refl no_node) in
    let e3 : Gives (read_variables g1) vt ((nt ++ et) ++ us) g2 =
    subst (Gives (read_variables g1) vt ((nt ++ et) ++ us)) (adds_variables g1 vs)
    (gives-up_to with_variable SpellsVariable (codes "var") read_variable (λ g x ts us h. variable_begins (is_word (codes "var")) g x ts us h) variable_moves gives-variable 32 g1 vs vt ((nt ++ et) ++ us)
    is.sizes.1 all_v turn_v refl) in
    let e2 : Gives (read_roles (no_parts n)) rt ((vt ++ (nt ++ et)) ++ us) g1 =
    gives-roles n x y rs ((vt ++ (nt ++ et)) ++ us) is1 (rw append_assoc (variables_ahead (is_word (codes "role")) g1 vs vt ((nt ++ et) ++ us) turn_v refl refl)) in (
      rt ++ (vt ++ (nt ++ et)),
      s.spelled,
      gives-after (read_roles (no_parts n)) _ rt (vt ++ (nt ++ et)) us g1 g e2
          (gives-after (read_variables g1) _ vt (nt ++ et) us g2 g e3
          (gives-after (read_nodes g2) _ nt et us g3 g e4 e5)),
    )
  where
    variable_first : (v : Variable) (us : List Token) → SpellsVariable (graph_of n (x ∷ y ∷ rs) vs (m ∷ ns) es) v us → SpellsVariable (graph_of n (x ∷ y ∷ rs) [] [] []) v us
    variable_first v us h = record { order = h.order; writers = h.writers; spelled = h.spelled }

    edge_first : (e : Edge) (us : List Token) → SpellsEdge (graph_of n (x ∷ y ∷ rs) vs (m ∷ ns) es) e us → SpellsEdge (graph_of n (x ∷ y ∷ rs) vs (m ∷ ns) []) e us
    edge_first e us h = record { written = h.written; read = h.read; writes = h.writes; reads = h.reads; spelled = h.spelled }

-- the statements of a graph are read
pub gives-statements : (g : Graph) (ts us : List Token) → IsGraph g → 2 ≤ length g.roles → 1 ≤ length g.nodes → SpellsStatements g ts → head_is (is_word (codes "node")) us ≡ false → head_is (is_word (codes "edge")) us ≡ false
    → (back : List Token) × (ts ≡ head_tokens g.name ++ back) × Gives (read_statements (no_parts g.name)) back us g
gives-statements g ts us is two one s no_node no_edge = go g.name g.roles g.variables g.nodes g.edges is two one s
  where
    go : (n : Name) (rs : List Name) (vs : List Variable) (ns : List Node) (es : List Edge) → IsGraph (graph_of n rs vs ns es) → 2 ≤ length rs → 1 ≤ length ns → SpellsStatements (graph_of n rs vs ns es) ts
        → (back : List Token) × (ts ≡ head_tokens n ++ back) × Gives (read_statements (no_parts n)) back us (graph_of n rs vs ns es)
    go n [] vs ns es is two one s = absurd (omega (arith, two))
    go n (x ∷ []) vs ns es is two one s = absurd (omega (arith, two))
    go n (x ∷ y ∷ rs) vs [] es is two one s = absurd (omega (arith, one))
    go n (x ∷ y ∷ rs) vs (m ∷ ns) es is two one s = statements-read n x y rs vs m ns es ts us is s no_node no_edge

-- a graph that is spelled is read
pub spells-read : (bs : List ℕ) (g : Graph) → SpellsGraph bs g → read bs ≡ Ok g
spells-read bs g s =
    let end : List Token = End ∷ [] in
    let r = gives-statements g s.of_graph end s.is_graph s.two_roles s.has_node s.statements refl refl in
    let free = name-middle [] g.name [] s.is_graph.named in
    let last : Gives (after read_end (λ _. give g)) [] end g = gives-after read_end (λ _. give g) [] [] end tt g (gives-first is_end (give tt) _ [] end tt refl (gives-give tt end)) (gives-give g end) in
    let behind : Gives (after (read_statements (no_parts g.name)) (λ g. after read_end λ _. give g)) (r.0 ++ []) end g = gives-after (read_statements (no_parts g.name)) _ r.0 [] end g g r.2 last in
    let text : Gives read_text (head_tokens g.name ++ (r.0 ++ [])) end g = gives-after read_head _ (head_tokens g.name) (r.0 ++ []) end (no_parts g.name) g (gives-head g.name ((r.0 ++ []) ++ end) free.0) behind in
    let spelled : bare (tokens bs) ≡ (head_tokens g.name ++ (r.0 ++ [])) ++ end = s.spelled ∙ ap (λ l. l ++ end) (r.1 ∙ ap (λ l. head_tokens g.name ++ l) (sym (append-nil r.0))) in
    let all = text.go (tokens bs) spelled in
    ap whole all.2
