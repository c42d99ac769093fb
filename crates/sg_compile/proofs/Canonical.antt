-- In a canonical text no line is `table`.
use Rattle.std.proofs.Common.{◌≡◌, ℕ, ◌==◌, true, false, not, ◌&&◌, List, [], ◌∷◌, ◌++◌, map, take, get_or, zero, suc, bytes_eq, Option, Some, None, refl, sym, ap, ◌∙◌, append_assoc, append-nil}
use Rattle.std.specs.Prelude.{codes, flat_map}
use Rattle.std.specs.List.{list_all}
use Rattle.std.proofs.lemmas.Bool.{not-true, and_parts}
use Rattle.sg_model.specs.Lists.{all_differ, has_text}
use Rattle.sg_protocol.specs.Graph.{Graph, IsGraph, AreNames, Name, VariableKind, Int, Text, Variable, Node, Edge, is_name, reserved, canonical, clause, edge_line, ended, kind_text, node_line, node_name, role_name, spaced, variable_line, variable_name}
use Rattle.sg_compile.specs.Loading.{at_table}
use Rattle.sg_compile.specs.Text.{line}
use Rattle.sg_compile.proofs.Reading.{is_free, is_inner, name_free}
use Rattle.sg_compile.proofs.Tabled.{behind, table_on}

-- the search for the line goes past these bytes
abbrev pub Skipped : List ℕ → Type 0
Skipped prefix = (rest : List ℕ) → at_table true (prefix ++ rest) ≡ behind prefix (at_table true rest)

behind_append : (a b : List ℕ) (o : Option (List ℕ × List ℕ)) → behind a (behind b o) ≡ behind (a ++ b) o
behind_append a b None = refl
behind_append a b (Some s) = λ i. Some (sym (append_assoc a b s.0) i, s.1)

pub free_append : (a b : List ℕ) → is_free a ≡ true → is_free b ≡ true → is_free (a ++ b) ≡ true
free_append [] b fa fb = fb
free_append (x ∷ xs) b fa fb = let parts = and_parts (is_inner x) (is_free xs) fa in rw (parts.0, free_append xs b parts.1 fb) refl

-- the rest of a line
skip_inner : (xs rest : List ℕ) → is_free xs ≡ true → at_table false (xs ++ 10 ∷ rest) ≡ behind (xs ++ 10 ∷ []) (at_table true rest)
skip_inner [] rest f = refl
skip_inner (x ∷ xs) rest f =
    let parts = and_parts (is_inner x) (is_free xs) f in
    table_on false x (xs ++ 10 ∷ rest) refl ∙ ap (behind (x ∷ [])) (ap (λ b. at_table b (xs ++ 10 ∷ rest)) (not-true (x == 10) parts.0) ∙ skip_inner xs rest parts.1)
    ∙ behind_append (x ∷ []) (xs ++ 10 ∷ []) (at_table true rest)

differs : (c : ℕ) → (116 == c) ≡ false → (ys : List ℕ) → bytes_eq (line (codes "table")) (c ∷ ys) ≡ false
differs c h ys = rw h refl

-- a statement that begins with another letter than `table`
skip_word : (x : ℕ) (xs : List ℕ) → (116 == x) ≡ false → (x == 10) ≡ false → is_free xs ≡ true → Skipped (ended (x ∷ xs))
skip_word x xs other inner f rest =
    let whole : ended (x ∷ xs) ++ rest ≡ x ∷ ((xs ++ 59 ∷ []) ++ 10 ∷ rest) = ap (λ ys. x ∷ ys) (append_assoc xs (59 ∷ 10 ∷ []) rest ∙ sym (append_assoc xs (59 ∷ []) (10 ∷ rest))) in
    let back : x ∷ ((xs ++ 59 ∷ []) ++ 10 ∷ []) ≡ ended (x ∷ xs) = ap (λ ys. x ∷ ys) (append_assoc xs (59 ∷ []) (10 ∷ [])) in
    ap (at_table true) whole ∙ table_on true x ((xs ++ 59 ∷ []) ++ 10 ∷ rest) (differs x other (take 5 ((xs ++ 59 ∷ []) ++ 10 ∷ rest)))
    ∙ ap (behind (x ∷ [])) (ap (λ b. at_table b ((xs ++ 59 ∷ []) ++ 10 ∷ rest)) inner ∙ skip_inner (xs ++ 59 ∷ []) rest (free_append xs (59 ∷ []) f refl))
    ∙ behind_append (x ∷ []) ((xs ++ 59 ∷ []) ++ 10 ∷ []) (at_table true rest) ∙ ap (λ ys. behind ys (at_table true rest)) back

skip_append : (a b : List ℕ) → Skipped a → Skipped b → Skipped (a ++ b)
skip_append a b sa sb rest = ap (at_table true) (append_assoc a b rest) ∙ sa (b ++ rest) ∙ ap (behind a) (sb rest) ∙ behind_append a b (at_table true rest)

skip_none : Skipped []
skip_none rest = none (at_table true rest)
  where
    none : (o : Option (List ℕ × List ℕ)) → o ≡ behind [] o
    none None = refl
    none (Some s) = refl

-- the statements of parts that have names
skip_each : {A : Type 0} (name : A → List ℕ) (text : A → List ℕ) → ((x : A) → is_free (name x) ≡ true → Skipped (text x))
    → (xs : List A) → list_all is_free (map name xs) ≡ true → Skipped (flat_map text xs)
skip_each name text one [] f = skip_none
skip_each name text one (x ∷ xs) f =
    let parts = and_parts (is_free (name x)) (list_all is_free (map name xs)) f in
    skip_append (text x) (flat_map text xs) (one x parts.0) (skip_each name text one xs parts.1)

-- names are free
names_free : (names : List Name) → list_all (λ n. is_name n && not (has_text n reserved)) names ≡ true → list_all is_free names ≡ true
names_free [] h = refl
names_free (n ∷ ns) h =
    let parts = and_parts (is_name n && not (has_text n reserved)) (list_all (λ m. is_name m && not (has_text m reserved)) ns) h in
    rw (name_free n (and_parts (is_name n) (not (has_text n reserved)) parts.0).0, names_free ns parts.1) refl

are_free : (names : List Name) → AreNames names → list_all is_free names ≡ true
are_free names h = names_free names (and_parts (list_all (λ n. is_name n && not (has_text n reserved)) names) (all_differ names) h).0

at_free : {A : Type 0} (name : A → List ℕ) (xs : List A) (d : A) (k : ℕ) → is_free (name d) ≡ true → list_all is_free (map name xs) ≡ true → is_free (name (get_or xs k d)) ≡ true
at_free name [] d k fd f = fd
at_free name (x ∷ xs) d zero fd f = (and_parts (is_free (name x)) (list_all is_free (map name xs)) f).0
at_free name (x ∷ xs) d (suc k) fd f = at_free name xs d k fd (and_parts (is_free (name x)) (list_all is_free (map name xs)) f).1

spaced_free : (name : ℕ → Name) → ((k : ℕ) → is_free (name k) ≡ true) → (ks : List ℕ) → is_free (spaced (map name ks)) ≡ true
spaced_free name each [] = refl
spaced_free name each (k ∷ ks) = free_append (32 ∷ name k) (spaced (map name ks)) (each k) (spaced_free name each ks)

clause_free : (word : List ℕ) (name : ℕ → Name) → is_free word ≡ true → ((k : ℕ) → is_free (name k) ≡ true) → (ks : List ℕ) → is_free (clause word (map name ks)) ≡ true
clause_free word name fw each [] = refl
clause_free word name fw each (k ∷ ks) = free_append word (spaced (map name (k ∷ ks))) fw (spaced_free name each (k ∷ ks))

kind_free : (k : VariableKind) → is_free (kind_text k) ≡ true
kind_free Int = refl
kind_free Text = refl

map_id : (xs : List Name) → map (λ (n : Name). n) xs ≡ xs
map_id [] = refl
map_id (x ∷ xs) = ap (λ ys. x ∷ ys) (map_id xs)

module _ (g : Graph) (h : IsGraph g) where
  pub role_free : (k : ℕ) → is_free (role_name g k) ≡ true
  role_free k = at_free (λ (n : Name). n) g.roles [] k refl (rw map_id (are_free g.roles h.role_names))

  variable_free : (k : ℕ) → is_free (variable_name g k) ≡ true
  variable_free k = at_free (λ (v : Variable). v.name) g.variables (record { name = []; kind = Int; writers = [] }) k refl (are_free (map (λ (v : Variable). v.name) g.variables) h.variable_names)

  node_free : (k : ℕ) → is_free (node_name g k) ≡ true
  node_free k = at_free (λ (n : Node). n.name) g.nodes (record { name = []; role = 0 }) k refl (are_free (map (λ (n : Node). n.name) g.nodes) h.node_names)

  skip_variable : (v : Variable) → is_free v.name ≡ true → Skipped (variable_line g v)
  skip_variable v f =
      skip_word 118 (codes "ar " ++ v.name ++ codes ": " ++ kind_text v.kind ++ codes " by" ++ spaced (map (role_name g) v.writers)) refl refl
      (free_append (codes "ar " ++ v.name ++ codes ": " ++ kind_text v.kind ++ codes " by") (spaced (map (role_name g) v.writers))
      (free_append (codes "ar " ++ v.name ++ codes ": " ++ kind_text v.kind) (codes " by")
      (free_append (codes "ar " ++ v.name ++ codes ": ") (kind_text v.kind) (free_append (codes "ar " ++ v.name) (codes ": ") (free_append (codes "ar ") v.name refl f) refl) (kind_free v.kind)) refl)
      (spaced_free (role_name g) role_free v.writers))

  skip_node : (n : Node) → is_free n.name ≡ true → Skipped (node_line g n)
  skip_node n f =
      skip_word 110 (codes "ode " ++ n.name ++ codes ": " ++ role_name g n.role) refl refl
      (free_append (codes "ode " ++ n.name ++ codes ": ") (role_name g n.role) (free_append (codes "ode " ++ n.name) (codes ": ") (free_append (codes "ode ") n.name refl f) refl) (role_free n.role))

  skip_edge : (e : Edge) → is_free e.name ≡ true → Skipped (edge_line g e)
  skip_edge e f =
      let ends : List ℕ = codes "dge " ++ e.name ++ codes ": " ++ node_name g e.source ++ codes " -> " ++ node_name g e.target in
      let ends_free : is_free ends ≡ true =
      free_append (codes "dge " ++ e.name ++ codes ": " ++ node_name g e.source ++ codes " -> ") (node_name g e.target)
      (free_append (codes "dge " ++ e.name ++ codes ": " ++ node_name g e.source) (codes " -> ")
      (free_append (codes "dge " ++ e.name ++ codes ": ") (node_name g e.source) (free_append (codes "dge " ++ e.name) (codes ": ") (free_append (codes "dge ") e.name refl f) refl) (node_free e.source)) refl)
      (node_free e.target) in
      skip_word 101 (ends ++ clause (codes " writes") (map (variable_name g) e.writes) ++ clause (codes " reads") (map (variable_name g) e.reads)) refl refl
      (free_append (ends ++ clause (codes " writes") (map (variable_name g) e.writes)) (clause (codes " reads") (map (variable_name g) e.reads))
      (free_append ends (clause (codes " writes") (map (variable_name g) e.writes)) ends_free (clause_free (codes " writes") (variable_name g) refl variable_free e.writes))
      (clause_free (codes " reads") (variable_name g) refl variable_free e.reads))

  skip_role : (r : Name) → is_free r ≡ true → Skipped (ended (codes "role " ++ r))
  skip_role r f = skip_word 114 (codes "ole " ++ r) refl refl (free_append (codes "ole ") r refl f)

  -- the search goes past a canonical text
  skip_canonical : Skipped (canonical g)
  skip_canonical =
      let head : Skipped (ended (codes "graph " ++ g.name)) = skip_word 103 (codes "raph " ++ g.name) refl refl
      (free_append (codes "raph ") g.name refl (and_parts (is_free g.name) true (are_free (g.name ∷ []) h.named)).0) in
      let roles : Skipped (flat_map (λ (r : Name). ended (codes "role " ++ r)) g.roles) = skip_each (λ (n : Name). n) (λ (r : Name). ended (codes "role " ++ r)) skip_role g.roles (rw map_id (are_free g.roles h.role_names)) in
      let variables = skip_each (λ (v : Variable). v.name) (variable_line g) skip_variable g.variables (are_free (map (λ (v : Variable). v.name) g.variables) h.variable_names) in
      let nodes = skip_each (λ (n : Node). n.name) (node_line g) skip_node g.nodes (are_free (map (λ (n : Node). n.name) g.nodes) h.node_names) in
      let edges = skip_each (λ (e : Edge). e.name) (edge_line g) skip_edge g.edges (are_free (map (λ (e : Edge). e.name) g.edges) h.edge_names) in
      let t0 : List ℕ = ended (codes "graph " ++ g.name) in
      let t1 : List ℕ = flat_map (λ (r : Name). ended (codes "role " ++ r)) g.roles in
      let t2 : List ℕ = flat_map (variable_line g) g.variables in
      let t3 : List ℕ = flat_map (node_line g) g.nodes in
      let t4 : List ℕ = flat_map (edge_line g) g.edges in
      skip_append (t0 ++ t1 ++ t2 ++ t3) t4 (skip_append (t0 ++ t1 ++ t2) t3 (skip_append (t0 ++ t1) t2 (skip_append t0 t1 head roles) variables) nodes) edges

  -- the line behind a canonical text is the first
  pub table_behind : (rest : List ℕ) → at_table true (canonical g ++ line (codes "table") ++ rest) ≡ Some (canonical g, rest)
  table_behind rest =
      ap (at_table true) (append_assoc (canonical g) (line (codes "table")) rest) ∙ skip_canonical (line (codes "table") ++ rest) ∙ (λ i. Some (append-nil (canonical g) i, rest))
