-- Reading parts of one kind leaves the graph's name, and the room for those of the other kinds.
use Rattle.std.proofs.Common.{◌≡◌, ℕ, zero, suc, Bool, true, false, List, codes, Ok, refl, sym, ap, ◌∙◌}
use Rattle.sg_protocol.specs.Graph.{Graph, Name, Variable, Node, Edge}
use Rattle.sg_graph.specs.Adding.{no_parts, with_role, with_variable, with_node, with_edge}
use Rattle.sg_graph.specs.Parts.{variable_names, node_names, edge_names}
use Rattle.sg_parse.specs.Tokens.{is_word, is_colon, is_semicolon, is_arrow}
use Rattle.sg_parse.specs.Reading.{Parsed, Parser, give, is_next, token, name, new_name, known_name, some_names, read_kind, read_role, read_clause, read_variable, read_node, read_edge, read_head, read_roles, read_variables, read_nodes, read_edges, read_statements, statement, up_to, no_more}
use Rattle.sg_parse.specs.declared.token.TokenAt.{TokenAt}
use Rattle.sg_parse.proofs.Loops.{up_to-there, up_to-away, up_to-none}
use Rattle.sg_parse.proofs.Took.{ok_same, on-inv}

-- the reading doesn't change what the graph has so
abbrev pub Keeps : {B : Type 0} → (Graph → B) → (Graph → Parser Graph) → Type 0
Keeps size reader = (g : Graph) (ps : List TokenAt) (o : Parsed Graph) → reader g ps ≡ Ok o → size o.value ≡ size g

-- a graph of this size is given
given : {B : Type 0} (size : Graph → B) (n : B) (g : Graph) (ps : List TokenAt) (o : Parsed Graph) → size g ≡ n → give g ps ≡ Ok o → size o.value ≡ n
given size n g ps o is e = ap (λ (r : Parsed Graph). size r.value) (sym (ok_same (record { value = g; rest = ps }) o e)) ∙ is

module _ {B : Type 0} (first : List ℕ) (reader : Graph → Parser Graph) (size : Graph → B) (keeps : Keeps size reader) where
  -- a statement with its first word
  statement_keeps : Keeps size (statement first reader)
  statement_keeps g ps o h = (let a = on-inv (token (is_word first) ps) (λ _. reader g) o h in keeps g (a.0).rest o a.2)

  -- statements, up to n of them
  up_to_keeps : (n : ℕ) → Keeps size (up_to n first reader)
  up_to_keeps zero g ps o h =
      let a = on-inv (no_more first ps) (λ _. give g) o (sym (up_to-none first reader g ps) ∙ h) in
      given size (size g) g (a.0).rest o refl a.2
  up_to_keeps (suc n) g ps o h = pick (is_next (is_word first) ps) refl (up_to_keeps n)
    where
      pick : (b : Bool) → is_next (is_word first) ps ≡ b → Keeps size (up_to n first reader) → size o.value ≡ size g
      pick true e more =
          let a = on-inv (statement first reader g ps) (up_to n first reader) o (sym (up_to-there first reader n g ps e) ∙ h) in
          more (a.0).value (a.0).rest o a.2 ∙ statement_keeps g ps a.0 a.1
      pick false e more = given size (size g) g ps o refl (sym (up_to-away first reader (suc n) g ps e) ∙ h)

-- the head of a text is read
pub head_none : (size : Graph → ℕ) → ((n : Name) → size (no_parts n) ≡ 0) → (ps : List TokenAt) (o : Parsed Graph) → read_head ps ≡ Ok o → size o.value ≡ 0
head_none size none ps o h =
    let a = on-inv (token (is_word (codes "graph")) ps) _ o h in
    let b = on-inv (name (a.0).rest) _ o a.2 in
    let c = on-inv (token is_semicolon (b.0).rest) _ o b.2 in
    given size 0 _ (c.0).rest o (none (b.0).value.0) c.2

-- roles are read
pub roles_keep : {B : Type 0} (size : Graph → B) → ((g : Graph) (n : Name) → size (with_role g n) ≡ size g) → Keeps size read_roles
roles_keep size same g ps o h =
    let a = on-inv (statement (codes "role") read_role g ps) _ o h in
    let b = on-inv (statement (codes "role") read_role (a.0).value (a.0).rest) _ o a.2 in
    up_to_keeps (codes "role") read_role size role_keeps 14 (b.0).value (b.0).rest o b.2
    ∙ statement_keeps (codes "role") read_role size role_keeps (a.0).value (a.0).rest b.0 b.1
    ∙ statement_keeps (codes "role") read_role size role_keeps g ps a.0 a.1
  where
    role_keeps : Keeps size read_role
    role_keeps g ps o h =
        let a = on-inv (new_name g.roles ps) _ o h in
        let b = on-inv (token is_semicolon (a.0).rest) _ o a.2 in
        given size (size g) _ (b.0).rest o (same g (a.0).value) b.2

-- variables are read
pub variables_keep : {B : Type 0} (size : Graph → B) → ((g : Graph) (v : Variable) → size (with_variable g v) ≡ size g) → Keeps size read_variables
variables_keep size same = up_to_keeps (codes "var") read_variable size variable_keeps 32
  where
    variable_keeps : Keeps size read_variable
    variable_keeps g ps o h =
        let a = on-inv (new_name (variable_names g) ps) _ o h in
        let b = on-inv (token is_colon (a.0).rest) _ o a.2 in
        let c = on-inv (read_kind (b.0).rest) _ o b.2 in
        let d = on-inv (token (is_word (codes "by")) (c.0).rest) _ o c.2 in
        let e = on-inv (some_names 16 g.roles (d.0).rest) _ o d.2 in
        let f = on-inv (token is_semicolon (e.0).rest) _ o e.2 in
        given size (size g) _ (f.0).rest o (same g (record { name = (a.0).value; kind = (c.0).value; writers = (e.0).value })) f.2

-- nodes are read
pub nodes_keep : {B : Type 0} (size : Graph → B) → ((g : Graph) (n : Node) → size (with_node g n) ≡ size g) → Keeps size read_nodes
nodes_keep size same g ps o h =
    let a = on-inv (statement (codes "node") read_node g ps) _ o h in
    up_to_keeps (codes "node") read_node size node_keeps 255 (a.0).value (a.0).rest o a.2 ∙ statement_keeps (codes "node") read_node size node_keeps g ps a.0 a.1
  where
    node_keeps : Keeps size read_node
    node_keeps g ps o h =
        let a = on-inv (new_name (node_names g) ps) _ o h in
        let b = on-inv (token is_colon (a.0).rest) _ o a.2 in
        let c = on-inv (known_name g.roles (b.0).rest) _ o b.2 in
        let d = on-inv (token is_semicolon (c.0).rest) _ o c.2 in
        given size (size g) _ (d.0).rest o (same g (record { name = (a.0).value; role = (c.0).value })) d.2

-- edges are read
pub edges_keep : {B : Type 0} (size : Graph → B) → ((g : Graph) (e : Edge) → size (with_edge g e) ≡ size g) → Keeps size read_edges
edges_keep size same = up_to_keeps (codes "edge") read_edge size edge_keeps 512
  where
    edge_keeps : Keeps size read_edge
    edge_keeps g ps o h =
        let a = on-inv (new_name (edge_names g) ps) _ o h in
        let b = on-inv (token is_colon (a.0).rest) _ o a.2 in
        let c = on-inv (known_name (node_names g) (b.0).rest) _ o b.2 in
        let d = on-inv (token is_arrow (c.0).rest) _ o c.2 in
        let e = on-inv (known_name (node_names g) (d.0).rest) _ o d.2 in
        let f = on-inv (read_clause (codes "writes") (variable_names g) (e.0).rest) _ o e.2 in
        let k = on-inv (read_clause (codes "reads") (variable_names g) (f.0).rest) _ o f.2 in
        let l = on-inv (token is_semicolon (k.0).rest) _ o k.2 in
        given size (size g) _ (l.0).rest o (same g (record { name = (a.0).value; source = (c.0).value; target = (e.0).value; writes = (f.0).value; reads = (k.0).value })) l.2

-- the statements of a graph leave its name
pub statements_keep_name : Keeps (λ g. g.name) read_statements
statements_keep_name g ps o h =
    let a = on-inv (read_roles g ps) _ o h in
    let b = on-inv (read_variables (a.0).value (a.0).rest) _ o a.2 in
    let c = on-inv (read_nodes (b.0).value (b.0).rest) _ o b.2 in
    edges_keep (λ g. g.name) (λ g e. refl) (c.0).value (c.0).rest o c.2
    ∙ nodes_keep (λ g. g.name) (λ g n. refl) (b.0).value (b.0).rest c.0 c.1
    ∙ variables_keep (λ g. g.name) (λ g v. refl) (a.0).value (a.0).rest b.0 b.1
    ∙ roles_keep (λ g. g.name) (λ g n. refl) g ps a.0 a.1
