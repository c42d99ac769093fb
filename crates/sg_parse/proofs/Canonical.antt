-- The canonical text of a graph spells the graph.
use Rattle.std.proofs.Common.{◌≡◌, ℕ, zero, suc, ◌<◌, ◌≤◌, ◌==◌, nat_lt, not, true, ◌&&◌, List, [], ◌∷◌, ◌++◌, map, length, get_or, codes, refl, sym, ap, subst, ◌∙◌, arith, append_assoc, append-nil, flat_map, map-id}
use Rattle.std.specs.Prelude.{All}
use Rattle.std.specs.List.{list_all, AllByRecursion}
use Rattle.std.proofs.lemmas.List.{length-map, get_or-map}
use Rattle.std.proofs.lemmas.Bool.{eq-eqb, and_parts}
use Rattle.sg_model.specs.Lists.{has_text, all_differ, is_in, rises_from}
use Rattle.sg_model.specs.Names.{Name, is_name, reserved}
use Rattle.sg_model.proofs.Small.{all-both, or_true}
use Rattle.sg_protocol.specs.Graph.{Graph, IsGraph, Variable, Node, Edge, VariableKind, Int, Text, kind_text, role_name, variable_name, node_name, AreNumbers, AreNames, spaced, clause, ended, variable_line, node_line, edge_line, canonical}
use Rattle.sg_graph.specs.Parts.{variable_names, node_names}
use Rattle.sg_graph.proofs.Sets.{number_below}
use Rattle.sg_parse.specs.Grammar.{IsOrderOf, named, head_tokens, role_tokens, node_tokens, SpellsVariable, SpellsClause, Without, With, SpellsEdge, InTurn, Done, Then, SpellsGraph}
use Rattle.sg_parse.specs.declared.token.Token.{Token}
use Rattle.sg_parse.specs.declared.token.Token.TheVariants.{Word, Colon, Semicolon, Arrow, End}
use Rattle.sg_parse.proofs.TookStatements.{SpellsRole, SpellsNode}
use Rattle.sg_parse.proofs.TookGraph.{in_turn-flat, regroup as behind}
use Rattle.sg_parse.proofs.Sets.{rising-differ}
use Rattle.sg_parse.proofs.Lexing.{Lexes, IsSeparate, lex-end, lex-space, lex-line, lex-colon, lex-semicolon, lex-arrow, lex-word}

-- lists that are equal have the same tokens
lexes-as : (cs bs : List ℕ) (ts : List Token) → cs ≡ bs → Lexes bs ts → Lexes cs ts
lexes-as cs bs ts e h = subst (λ l. Lexes l ts) (sym e) h

-- the name at an index is a name
pub name-is : (ns : List Name) (r : ℕ) → r < length ns → list_all (λ n. is_name n && not (has_text n reserved)) ns ≡ true → is_name (get_or ns r []) ≡ true
name-is [] r l h = absurd (omega arith)
name-is (n ∷ ns) zero l h = (and_parts (is_name n) (not (has_text n reserved)) (and_parts (is_name n && not (has_text n reserved)) (list_all (λ n. is_name n && not (has_text n reserved)) ns) h).0).0
name-is (n ∷ ns) (suc r) l h = name-is ns r (omega arith) (and_parts (is_name n && not (has_text n reserved)) (list_all (λ n. is_name n && not (has_text n reserved)) ns) h).1

-- so for names
is-name : (ns : List Name) (r : ℕ) → AreNames ns → r < length ns → is_name (get_or ns r []) ≡ true
is-name ns r are l = name-is ns r l (and_parts (list_all (λ n. is_name n && not (has_text n reserved)) ns) (all_differ ns) are).0

-- the numbers of a set stand in an order of it
order-self : (k : ℕ) (set : List ℕ) → AreNumbers k set → IsOrderOf set set
order-self k set h = record { same = λ n. refl; once = rising-differ 0 set (and_parts (rises_from 0 set) (list_all (λ x. nat_lt x k) set) h).0 }

-- the end of a statement
lex-ended : (rest : List ℕ) (ts : List Token) → Lexes rest ts → Lexes (59 ∷ 10 ∷ rest) (Semicolon ∷ ts)
lex-ended rest ts h = lex-semicolon (10 ∷ rest) ts (lex-line rest ts h)

-- names after spaces
lex-spaced : (name_at : ℕ → Name) (names : List Name) (indices : List ℕ) (rest : List ℕ) (ts : List Token)
    → ((x : ℕ) → is_in x indices ≡ true → (name_at x ≡ get_or names x []) × (is_name (name_at x) ≡ true)) → IsSeparate rest → Lexes rest ts
    → Lexes (spaced (map name_at indices) ++ rest) (named names indices ++ ts) × IsSeparate (spaced (map name_at indices) ++ rest)
lex-spaced name_at names [] rest ts is a h = (h, a)
lex-spaced name_at names (x ∷ xs) rest ts is a h =
    let e : (x == x) ≡ true = eq-eqb x x refl in
    let here = is x (rw e refl) in
    let more = lex-spaced name_at names xs rest ts (λ y i. is y (rw i (or_true (x == y)))) a h in
    let word : Lexes (name_at x ++ (spaced (map name_at xs) ++ rest)) (Word (name_at x) ∷ (named names xs ++ ts)) = lex-word (name_at x) (spaced (map name_at xs) ++ rest) (named names xs ++ ts) here.1 more.1 more.0 in
    let word' : Lexes (name_at x ++ (spaced (map name_at xs) ++ rest)) (Word (get_or names x []) ∷ (named names xs ++ ts)) =
    subst (λ n. Lexes (name_at x ++ (spaced (map name_at xs) ++ rest)) (Word n ∷ (named names xs ++ ts))) here.0 word in
    (lexes-as _ (32 ∷ (name_at x ++ (spaced (map name_at xs) ++ rest))) _ (ap (λ l. 32 ∷ l) (append_assoc (name_at x) (spaced (map name_at xs)) rest)) (lex-space _ _ word'), refl)

-- the line of a role
lex-role : (n : Name) (rest : List ℕ) (ts : List Token) → is_name n ≡ true → Lexes rest ts → Lexes (ended (codes "role " ++ n) ++ rest) (role_tokens n ++ ts)
lex-role n rest ts is h =
    lexes-as _ (codes "role" ++ 32 ∷ (n ++ 59 ∷ 10 ∷ rest)) _ (simp append_assoc)
    (lex-word (codes "role") (32 ∷ (n ++ 59 ∷ 10 ∷ rest)) _ refl refl (lex-space _ _ (lex-word n (59 ∷ 10 ∷ rest) (Semicolon ∷ ts) is refl (lex-ended rest ts h))))

-- the line of a graph's name
lex-head : (n : Name) (rest : List ℕ) (ts : List Token) → is_name n ≡ true → Lexes rest ts → Lexes (ended (codes "graph " ++ n) ++ rest) (head_tokens n ++ ts)
lex-head n rest ts is h =
    lexes-as _ (codes "graph" ++ 32 ∷ (n ++ 59 ∷ 10 ∷ rest)) _ (simp append_assoc)
    (lex-word (codes "graph") (32 ∷ (n ++ 59 ∷ 10 ∷ rest)) _ refl refl (lex-space _ _ (lex-word n (59 ∷ 10 ∷ rest) (Semicolon ∷ ts) is refl (lex-ended rest ts h))))

kind-is : (k : VariableKind) → is_name (kind_text k) ≡ true
kind-is Int = refl
kind-is Text = refl

-- the line of a variable
lex-variable : (g : Graph) (v : Variable) (rest : List ℕ) (ts : List Token) → IsGraph g → is_name v.name ≡ true → AreNumbers (length g.roles) v.writers → Lexes rest ts
    → (us : List Token) × SpellsVariable g v us × Lexes (variable_line g v ++ rest) (us ++ ts)
lex-variable g v rest ts is n w h =
    let names = lex-spaced (role_name g) g.roles v.writers (59 ∷ 10 ∷ rest) (Semicolon ∷ ts) (λ x i. (refl, is-name g.roles x is.role_names (number_below (length g.roles) x v.writers w i))) refl (lex-ended rest ts h) in
    let by : Lexes (codes "by" ++ (spaced (map (role_name g) v.writers) ++ 59 ∷ 10 ∷ rest)) _ = lex-word (codes "by") _ _ refl names.1 names.0 in
    let kind : Lexes (kind_text v.kind ++ 32 ∷ (codes "by" ++ (spaced (map (role_name g) v.writers) ++ 59 ∷ 10 ∷ rest))) _ = lex-word (kind_text v.kind) _ _ (kind-is v.kind) refl (lex-space _ _ by) in
    let name : Lexes (v.name ++ 58 ∷ 32 ∷ (kind_text v.kind ++ 32 ∷ (codes "by" ++ (spaced (map (role_name g) v.writers) ++ 59 ∷ 10 ∷ rest)))) _ = lex-word v.name _ _ n refl (lex-colon _ _ (lex-space _ _ kind)) in
    let all = lex-word (codes "var") (32 ∷ (v.name ++ 58 ∷ 32 ∷ (kind_text v.kind ++ 32 ∷ (codes "by" ++ (spaced (map (role_name g) v.writers) ++ 59 ∷ 10 ∷ rest))))) _ refl refl (lex-space _ _ name) in (
      Word (codes "var") ∷ Word v.name ∷ Colon ∷ Word (kind_text v.kind) ∷ Word (codes "by") ∷ named g.roles v.writers ++ Semicolon ∷ [],
      record { order = v.writers; writers = order-self (length g.roles) v.writers w; spelled = refl },
      lexes-as _ _ _ (simp append_assoc) (subst (Lexes _) (simp append_assoc) all),
    )

-- the line of a node
lex-node : (g : Graph) (n : Node) (rest : List ℕ) (ts : List Token) → is_name n.name ≡ true → is_name (role_name g n.role) ≡ true → Lexes rest ts → Lexes (node_line g n ++ rest) (node_tokens g n ++ ts)
lex-node g n rest ts is role h =
    let last : Lexes (role_name g n.role ++ 59 ∷ 10 ∷ rest) _ = lex-word (role_name g n.role) _ _ role refl (lex-ended rest ts h) in
    let name : Lexes (n.name ++ 58 ∷ 32 ∷ (role_name g n.role ++ 59 ∷ 10 ∷ rest)) _ = lex-word n.name _ _ is refl (lex-colon _ _ (lex-space _ _ last)) in
    lexes-as _ (codes "node" ++ 32 ∷ (n.name ++ 58 ∷ 32 ∷ (role_name g n.role ++ 59 ∷ 10 ∷ rest))) _ (simp append_assoc) (lex-word (codes "node") _ _ refl refl (lex-space _ _ name))

-- the variables of an edge after a word
lex-clause : (g : Graph) (first : List ℕ) (set : List ℕ) (rest : List ℕ) (ts : List Token) → IsGraph g → is_name first ≡ true → AreNumbers (length g.variables) set → IsSeparate rest → Lexes rest ts
    → (us : List Token) × SpellsClause first (variable_names g) set us × Lexes (clause (32 ∷ first) (map (variable_name g) set) ++ rest) (us ++ ts) × IsSeparate (clause (32 ∷ first) (map (variable_name g) set) ++ rest)
lex-clause g first [] rest ts is n w a h = ([], Without, h, a)
lex-clause g first (x ∷ xs) rest ts is n w a h =
    let at : (y : ℕ) → is_in y (x ∷ xs) ≡ true → (variable_name g y ≡ get_or (variable_names g) y []) × (is_name (variable_name g y) ≡ true) = λ y i.
    (let l : y < length g.variables = number_below (length g.variables) y (x ∷ xs) w i in
    let same : get_or (variable_names g) y [] ≡ variable_name g y = get_or-map (λ (v : Variable). v.name) g.variables y _ [] l in
    let l' : y < length (variable_names g) = rw length-map l in
    (sym same, subst (λ m. is_name m ≡ true) same (is-name (variable_names g) y is.variable_names l'))) in
    let names = lex-spaced (variable_name g) (variable_names g) (x ∷ xs) rest ts at a h in
    let word : Lexes (first ++ (spaced (map (variable_name g) (x ∷ xs)) ++ rest)) (Word first ∷ (named (variable_names g) (x ∷ xs) ++ ts)) = lex-word first _ _ n names.1 names.0 in (
      Word first ∷ named (variable_names g) (x ∷ xs),
      With (omega arith) (order-self (length g.variables) (x ∷ xs) w),
      lexes-as _ (32 ∷ (first ++ (spaced (map (variable_name g) (x ∷ xs)) ++ rest))) _ (ap (λ l. 32 ∷ l) (append_assoc first (spaced (map (variable_name g) (x ∷ xs))) rest)) (lex-space _ _ word),
      refl,
    )

-- the line of an edge
lex-edge : (g : Graph) (e : Edge) (rest : List ℕ) (ts : List Token) → IsGraph g → is_name e.name ≡ true → (e.source < length g.nodes) × (e.target < length g.nodes)
    → AreNumbers (length g.variables) e.writes × AreNumbers (length g.variables) e.reads → Lexes rest ts → (us : List Token) × SpellsEdge g e us × Lexes (edge_line g e ++ rest) (us ++ ts)
lex-edge g e rest ts is n ends sets h =
    let node_is : (m : ℕ) → m < length g.nodes → is_name (node_name g m) ≡ true = λ m l.
    (let same : get_or (node_names g) m [] ≡ node_name g m = get_or-map (λ (v : Node). v.name) g.nodes m _ [] l in
    let l' : m < length (node_names g) = rw length-map l in
    subst (λ k. is_name k ≡ true) same (is-name (node_names g) m is.node_names l')) in
    let reads = lex-clause g (codes "reads") e.reads (59 ∷ 10 ∷ rest) (Semicolon ∷ ts) is refl sets.1 refl (lex-ended rest ts h) in
    let r : List ℕ = clause (codes " reads") (map (variable_name g) e.reads) in
    let writes = lex-clause g (codes "writes") e.writes (r ++ 59 ∷ 10 ∷ rest) (reads.0 ++ Semicolon ∷ ts) is refl sets.0 reads.3 reads.2 in
    let w : List ℕ = clause (codes " writes") (map (variable_name g) e.writes) in
    let target : Lexes (node_name g e.target ++ (w ++ (r ++ 59 ∷ 10 ∷ rest))) _ = lex-word (node_name g e.target) _ _ (node_is e.target ends.1) writes.3 writes.2 in
    let source : Lexes (node_name g e.source ++ 32 ∷ 45 ∷ 62 ∷ 32 ∷ (node_name g e.target ++ (w ++ (r ++ 59 ∷ 10 ∷ rest)))) _ =
    lex-word (node_name g e.source) _ _ (node_is e.source ends.0) refl (lex-space _ _ (lex-arrow _ _ (lex-space _ _ target))) in
    let name : Lexes (e.name ++ 58 ∷ 32 ∷ (node_name g e.source ++ 32 ∷ 45 ∷ 62 ∷ 32 ∷ (node_name g e.target ++ (w ++ (r ++ 59 ∷ 10 ∷ rest))))) _ = lex-word e.name _ _ n refl (lex-colon _ _ (lex-space _ _ source)) in
    let all = lex-word (codes "edge") (32 ∷ (e.name ++ 58 ∷ 32 ∷ (node_name g e.source ++ 32 ∷ 45 ∷ 62 ∷ 32 ∷ (node_name g e.target ++ (w ++ (r ++ 59 ∷ 10 ∷ rest)))))) _ refl refl (lex-space _ _ name) in (
      Word (codes "edge") ∷ Word e.name ∷ Colon ∷ Word (node_name g e.source) ∷ Arrow ∷ Word (node_name g e.target) ∷ writes.0 ++ (reads.0 ++ Semicolon ∷ []),
      record { written = writes.0; read = reads.0; writes = writes.1; reads = reads.1; spelled = refl },
      lexes-as _ _ _ (simp append_assoc) (subst (Lexes _) (simp append_assoc) all),
    )

-- ---- the whole text

all-rec : {A : Type 0} (P : A → Type 0) (xs : List A) → All P xs → AllByRecursion P xs
all-rec P [] all = tt
all-rec P (x ∷ xs) all = (all 0 x (omega arith), all-rec P xs (λ k d l. all (suc k) d (omega (arith, l))))

names-rec : {A : Type 0} (name_of : A → Name) (xs : List A) → list_all (λ n. is_name n && not (has_text n reserved)) (map name_of xs) ≡ true → AllByRecursion (λ x. is_name (name_of x) ≡ true) xs
names-rec name_of [] h = tt
names-rec name_of (x ∷ xs) h =
    let parts = and_parts (is_name (name_of x) && not (has_text (name_of x) reserved)) (list_all (λ n. is_name n && not (has_text n reserved)) (map name_of xs)) h in
    ((and_parts (is_name (name_of x)) (not (has_text (name_of x) reserved)) parts.0).0, names-rec name_of xs parts.1)

all_names : {A : Type 0} (name_of : A → Name) (xs : List A) → AreNames (map name_of xs) → AllByRecursion (λ x. is_name (name_of x) ≡ true) xs
all_names name_of xs h = names-rec name_of xs (and_parts (list_all (λ n. is_name n && not (has_text n reserved)) (map name_of xs)) (all_differ (map name_of xs)) h).0

-- lines in turn
lex-lines : {A : Type 0} (line : A → List ℕ) (Spells : A → List Token → Type 0) (P : A → Type 0)
    → ((x : A) (rest : List ℕ) (ts : List Token) → P x → Lexes rest ts → (us : List Token) × Spells x us × Lexes (line x ++ rest) (us ++ ts))
    → (xs : List A) (rest : List ℕ) (ts : List Token) → AllByRecursion P xs → Lexes rest ts → (us : List Token) × InTurn Spells xs us × Lexes (flat_map line xs ++ rest) (us ++ ts)
lex-lines line Spells P each [] rest ts p h = ([], Done, h)
lex-lines line Spells P each (x ∷ xs) rest ts p h =
    let more = lex-lines line Spells P each xs rest ts p.1 h in
    let one = each x (flat_map line xs ++ rest) (more.0 ++ ts) p.0 more.2 in (
      one.0 ++ more.0,
      Then one.1 more.1,
      lexes-as ((line x ++ flat_map line xs) ++ rest) (line x ++ (flat_map line xs ++ rest)) ((one.0 ++ more.0) ++ ts) (append_assoc (line x) (flat_map line xs) rest)
          (subst (Lexes (line x ++ (flat_map line xs ++ rest))) (sym (append_assoc one.0 more.0 ts)) one.2),
    )

-- the canonical text of a graph with two roles and a node spells it
pub canonical-spells : (g : Graph) → IsGraph g → 2 ≤ length g.roles → 1 ≤ length g.nodes → SpellsGraph (canonical g) g
canonical-spells g is two one =
    let edges = lex-lines (edge_line g) (SpellsEdge g)
    (λ e. (is_name e.name ≡ true) × ((e.source < length g.nodes) × (e.target < length g.nodes)) × (AreNumbers (length g.variables) e.writes × AreNumbers (length g.variables) e.reads))
    (λ e rest ts p h. lex-edge g e rest ts is p.0 p.1 p.2 h) g.edges [] (End ∷ []) (edge_facts g.edges (all_names (λ (e : Edge). e.name) g.edges is.edge_names) (all-rec _ g.edges is.ends) (all-rec _ g.edges is.variables)) lex-end in
    let nodes = lex-lines (node_line g) (SpellsNode g) (λ n. (is_name n.name ≡ true) × (n.role < length g.roles))
    (λ n rest ts p h. (node_tokens g n, refl, lex-node g n rest ts p.0 (is-name g.roles n.role is.role_names p.1) h)) g.nodes (flat_map (edge_line g) g.edges ++ []) (edges.0 ++ End ∷ [])
    (all-both (λ n. is_name n.name ≡ true) (λ n. n.role < length g.roles) g.nodes (all_names (λ (n : Node). n.name) g.nodes is.node_names) (all-rec _ g.nodes is.roles)) edges.2 in
    let variables = lex-lines (variable_line g) (SpellsVariable g) (λ v. (is_name v.name ≡ true) × (AreNumbers (length g.roles) v.writers × (0 < length v.writers)))
    (λ v rest ts p h. lex-variable g v rest ts is p.0 (p.1).0 h) g.variables (flat_map (node_line g) g.nodes ++ (flat_map (edge_line g) g.edges ++ [])) (nodes.0 ++ (edges.0 ++ End ∷ []))
    (all-both (λ v. is_name v.name ≡ true) (λ v. AreNumbers (length g.roles) v.writers × (0 < length v.writers)) g.variables (all_names (λ (v : Variable). v.name) g.variables is.variable_names) (all-rec _ g.variables is.writers)) nodes.2 in
    let roles = lex-lines (λ r. ended (codes "role " ++ r)) (SpellsRole g) (λ r. is_name r ≡ true) (λ r rest ts p h. (role_tokens r, refl, lex-role r rest ts p h)) g.roles
    (flat_map (variable_line g) g.variables ++ (flat_map (node_line g) g.nodes ++ (flat_map (edge_line g) g.edges ++ []))) (variables.0 ++ (nodes.0 ++ (edges.0 ++ End ∷ [])))
    (names-rec (λ r. r) g.roles (role_list g is)) variables.2 in
    let named = (and_parts (list_all (λ n. is_name n && not (has_text n reserved)) (g.name ∷ [])) true is.named).0 in
    let name : is_name g.name ≡ true = name-is (g.name ∷ []) 0 (omega arith) named in
    let all = lex-head g.name _ _ name roles.2 in
    let text : Lexes (canonical g) (head_tokens g.name ++ (roles.0 ++ (variables.0 ++ (nodes.0 ++ (edges.0 ++ End ∷ []))))) = lexes-as (canonical g) _ _ (regroup (ended (codes "graph " ++ g.name)) (flat_map (λ r. ended (codes "role " ++ r)) g.roles) (flat_map (variable_line g) g.variables) (flat_map (node_line g) g.nodes) (flat_map (edge_line g) g.edges)) all in
    record {
      is_graph = is;
      two_roles = two;
      has_node = one;
      of_graph = head_tokens g.name ++ (flat_map role_tokens g.roles ++ (variables.0 ++ (flat_map (node_tokens g) g.nodes ++ edges.0)));
      statements = record { of_variables = variables.0; of_edges = edges.0; variables = variables.1; edges = edges.1; spelled = refl };
      spelled = text.go 0 ∙ settle roles.0 (flat_map role_tokens g.roles) variables.0 nodes.0 (flat_map (node_tokens g) g.nodes) (edges.0 ++ End ∷ []) (in_turn-flat role_tokens g.roles roles.0 roles.1) (in_turn-flat (node_tokens g) g.nodes nodes.0 nodes.1)
          ∙ sym (behind (head_tokens g.name) (flat_map role_tokens g.roles) variables.0 (flat_map (node_tokens g) g.nodes) edges.0 (End ∷ []));
    }
  where
    regroup : (a b c d e : List ℕ) → a ++ b ++ c ++ d ++ e ≡ a ++ (b ++ (c ++ (d ++ (e ++ []))))
    regroup a b c d e = simp (append_assoc, append-nil)

    settle : (a a' b c c' d : List Token) → a ≡ a' → c ≡ c' → head_tokens g.name ++ (a ++ (b ++ (c ++ d))) ≡ head_tokens g.name ++ (a' ++ (b ++ (c' ++ d)))
    settle a a' b c c' d e f = ap (λ l. head_tokens g.name ++ (l ++ (b ++ (c ++ d)))) e ∙ ap (λ l. head_tokens g.name ++ (a' ++ (b ++ (l ++ d)))) f

    edge_facts : (es : List Edge) → AllByRecursion (λ (e : Edge). is_name e.name ≡ true) es → AllByRecursion (λ (e : Edge). (e.source < length g.nodes) × (e.target < length g.nodes)) es
        → AllByRecursion (λ (e : Edge). AreNumbers (length g.variables) e.writes × AreNumbers (length g.variables) e.reads) es
        → AllByRecursion (λ (e : Edge). (is_name e.name ≡ true) × ((e.source < length g.nodes) × (e.target < length g.nodes)) × (AreNumbers (length g.variables) e.writes × AreNumbers (length g.variables) e.reads)) es
    edge_facts [] p q r = tt
    edge_facts (e ∷ es) p q r = ((p.0, q.0, r.0), edge_facts es p.1 q.1 r.1)

    role_list : (g : Graph) → IsGraph g → list_all (λ n. is_name n && not (has_text n reserved)) (map (λ r. r) g.roles) ≡ true
    role_list g is = rw map-id (and_parts (list_all (λ n. is_name n && not (has_text n reserved)) g.roles) (all_differ g.roles) is.role_names).0
