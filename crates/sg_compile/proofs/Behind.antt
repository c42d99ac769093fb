-- The text of a program in its parts.
use Rattle.std.proofs.Common.{◌≡◌, ℕ, ◌+◌, ◌<◌, List, [], ◌++◌, length, take, drop, get_or, true, Some, None, bytes_eq, refl, sym, ap, subst, ◌∙◌, arith, append_assoc, inl, inr}
use Rattle.std.specs.Prelude.{codes, Result, Ok, Err, IfOk, IfErr, IsTrue, is_some}
use Rattle.std.proofs.lemmas.List.{drop-drop}
use Rattle.std.proofs.lemmas.List.Folds.{list_any_at}
use Rattle.std.proofs.lemmas.Slice.Eq.{bytes_eq-Decides}
use Rattle.sg_model.specs.Lists.{has_text}
use Rattle.sg_protocol.specs.Graph.{Graph, Name, canonical, role_name}
use Rattle.sg_protocol.specs.Keyring.{Program}
use Rattle.sg_protocol.proofs.GraphText.{canonical_same}
use Rattle.sg_views.specs.Limits.{FewOpen}
use Rattle.sg_compile.specs.Compiled.{IsCompiled, IsRefused, IsWhole}
use Rattle.sg_compile.specs.Loading.{HasPrefix, HasGraph, HasRole, HasStart, IsCanonical, IsFaultAfter, IsFaultBehind, IsLoadFault, IsLoaded, IsMalformed, IsNoCanonical, NoGraph, OtherStart, at_table}
use Rattle.sg_compile.specs.Text.{line, program_text, role_line, start_line, table_text, version}
use Rattle.sg_compile.specs.declared.loader.LoadFault.{LoadFault}
use Rattle.sg_compile.specs.declared.loader.LoadFault.TheVariants as Faults
use Rattle.sg_compile.proofs.Canonical.{table_behind}

some_same : {a b : List ℕ × List ℕ} → Some a ≡ Some b → a ≡ b
some_same e = cc

some_not_none : {a : List ℕ × List ℕ} → None ≡ Some a → ⊥
some_not_none e = cc

-- if no line `table` is found no graph is followed by one
pub none_split : (text : List ℕ) (n : Name) → None ≡ at_table true text → (g : Graph) (r : ℕ) (rest : List ℕ) → HasGraph text n g r rest → ⊥
none_split text n e g r rest h = some_not_none (e ∙ ap (at_table true) h.spelled ∙ table_behind g h.is_graph rest)

-- what stands before the first line `table` is the graph's text
pub split_same : (text : List ℕ) (index : ℕ) (n : Name) → Some (take index text, drop (index + 6) text) ≡ at_table true text
    → (g : Graph) (r : ℕ) (rest : List ℕ) → HasGraph text n g r rest → canonical g ≡ take index text
split_same text index n e g r rest h =
    sym (ap (λ (s : List ℕ × List ℕ). s.0) (some_same (e ∙ ap (at_table true) h.spelled ∙ table_behind g h.is_graph rest)))

-- if that is no canonical text there is no such graph
pub none_canonical : (text : List ℕ) (index : ℕ) (n : Name) → Some (take index text, drop (index + 6) text) ≡ at_table true text → IsNoCanonical (take index text)
    → (g : Graph) (r : ℕ) (rest : List ℕ) → HasGraph text n g r rest → ⊥
none_canonical text index n e none g r rest h =
    none g (record { is_graph = h.is_graph; two_roles = h.two_roles; has_node = h.has_node; spelled = split_same text index n e g r rest h })

-- a role's name is among the names
pub role_there : (n : Name) (names : List Name) (r : ℕ) → r < length names → get_or names r [] ≡ n → has_text n names ≡ true
role_there n names r l e = list_any_at (bytes_eq n) names r [] l ((bytes_eq-Decides n (get_or names r [])).1 (sym e))

-- if the graph doesn't have the role there is no such graph
pub none_role : (text : List ℕ) (index : ℕ) (n : Name) (h : Graph) → Some (take index text, drop (index + 6) text) ≡ at_table true text → IsCanonical (take index text) h
    → (IsTrue (has_text n h.roles) → ⊥) → (g : Graph) (r : ℕ) (rest : List ℕ) → HasGraph text n g r rest → ⊥
none_role text index n h e is none g r rest has =
    let same : g ≡ h = canonical_same g h has.is_graph is.is_graph (split_same text index n e g r rest has ∙ sym is.spelled) in
    none (subst (λ (k : Graph). has_text n k.roles ≡ true) same (role_there n g.roles r has.there has.named))

-- the parts of the text behind the name of the role
pub graph_read : (text : List ℕ) (index : ℕ) (n : Name) (h : Graph) (r : ℕ) → text ≡ take index text ++ line (codes "table") ++ drop (index + 6) text → IsCanonical (take index text) h
    → r < length h.roles → role_name h r ≡ n → HasGraph text n h r (drop (index + 6) text)
graph_read text index n h r e is there named =
    record {
      is_graph = is.is_graph;
      two_roles = is.two_roles;
      has_node = is.has_node;
      there = there;
      named = named;
      spelled = e ∙ ap (λ prefix. prefix ++ line (codes "table") ++ drop (index + 6) text) (sym is.spelled);
    }

-- a compiled program, of its own graph and role
pub compiled_own : (g : Graph) (r : ℕ) (p : Program) → IsCompiled g r p → IsCompiled p.graph p.role p
compiled_own g r p c =
    record { program = c.program; graph = refl; role = refl; few = c.few; few_open = subst (λ (k : ℕ). FewOpen p.graph k) (sym c.role) (subst (λ (k : Graph). FewOpen k r) (sym c.graph) c.few_open) }

-- the program that was loaded
pub loaded : (v : ℕ) (n : Name) (text table : List ℕ) (h : Graph) (r : ℕ) → HasGraph text n h r table → (result : Result Program LoadFault)
    → IfOk result (λ p. IsCompiled h r p × (v ≡ version h) × (table ≡ table_text p)) → IfOk result (IsLoaded v n text)
loaded v n text table h r has (Err e) k = k
loaded v n text table h r has (Ok p) (c, w, t) =
    record {
      whole = compiled_own h r p c;
      version = w ∙ ap version (sym c.graph);
      name = (λ i. role_name (c.graph i) (c.role i)) ∙ has.named;
      spelled = has.spelled ∙ (λ i. canonical (sym c.graph i) ++ line (codes "table") ++ t i);
    }

-- the fault behind the graph is one behind the name of the role
pub fault_behind : (v : ℕ) (n : Name) (text table : List ℕ) (h : Graph) (r : ℕ) → HasGraph text n h r table → (result : Result Program LoadFault)
    → IfErr result (IsFaultAfter v h r table) → IfErr result (IsFaultBehind v n text)
fault_behind v n text table h r has (Ok p) k = k
fault_behind v n text table h r has (Err (Faults.Malformed at)) (e, other) = inr (e, (h, r, table, has, other))
fault_behind v n text table h r has (Err (Faults.Graph g f)) (e, w, refused, memory) =
    let P : Graph → Type 0 = λ k. HasGraph text n k r table × (v ≡ version k) × IsRefused k r f in
    let moved = subst P (sym e) (has, w, refused) in
    (r, table, moved.0, moved.1, moved.2, memory)
fault_behind v n text table h r has (Err (Faults.NotTheTable k)) (p, c, w, (other, first)) =
    let moved : HasGraph text n p.graph p.role table = subst (λ (k : ℕ). HasGraph text n p.graph k table) (sym c.role) (subst (λ (k : Graph). HasGraph text n k r table) (sym c.graph) has) in
    (p, table, moved, w ∙ ap version (sym c.graph), compiled_own h r p c, other, first)
fault_behind v n text table h r has (Err Faults.OutOfMemory) k = ap is_some (ap (at_table true) has.spelled ∙ table_behind h has.is_graph table)

-- ---- the whole text

seam : (a b c d e : List ℕ) → a ++ (b ++ (c ++ d ++ e)) ≡ a ++ b ++ c ++ d ++ e
seam a b c d e = simp append_assoc

drop_on : (n : Name) (bs : List ℕ) → drop (19 + length n) bs ≡ drop (6 + length n) (drop 13 bs)
drop_on n bs = let e : 19 + length n ≡ 13 + (6 + length n) = omega arith in ap (λ k. drop k bs) e ∙ sym (drop-drop (6 + length n) 13 bs)

-- the text of the program that was loaded
pub text_of : (bs : List ℕ) (v : ℕ) (n : Name) (rest more : List ℕ) → HasStart bs v rest → HasRole rest n more → (result : Result Program LoadFault)
    → IfOk result (IsLoaded v n more) → IfOk result (λ p. program_text p ≡ bs)
text_of bs v n rest more start role (Err e) k = k
text_of bs v n rest more start role (Ok p) k =
    let a : List ℕ = line (start_line (version p.graph)) in
    let b : List ℕ = line (role_line p.graph p.role) in
    sym (start.spelled ∙ (λ i. line (start_line (k.version i)) ++ rest)
    ∙ ap (λ xs. a ++ xs) (role.spelled ∙ (λ i. line (codes "role " ++ sym k.name i) ++ more) ∙ ap (λ xs. b ++ xs) k.spelled)
    ∙ seam a b (canonical p.graph) (line (codes "table")) (table_text p))

-- which is compiled
pub whole_of : (v : ℕ) (n : Name) (more : List ℕ) (result : Result Program LoadFault) → IfOk result (IsLoaded v n more) → IfOk result IsWhole
whole_of v n more (Ok p) k = k.whole
whole_of v n more (Err e) k = k

-- the prefix of the text
pub prefix_of : (bs : List ℕ) (v : ℕ) (n : Name) (rest more ls : List ℕ) (g : Graph) (r : ℕ) → HasStart bs v rest → HasRole rest n more → HasGraph more n g r ls → v ≡ version g
    → HasPrefix bs g r ls
prefix_of bs v n rest more ls g r start role has w =
    let a : List ℕ = line (start_line (version g)) in
    let b : List ℕ = line (role_line g r) in
    record {
      is_graph = has.is_graph;
      two_roles = has.two_roles;
      has_node = has.has_node;
      there = has.there;
      spelled = start.spelled ∙ (λ i. line (start_line (w i)) ++ rest) ∙ ap (λ xs. a ++ xs) (role.spelled ∙ (λ i. line (codes "role " ++ sym has.named i) ++ more) ∙ ap (λ xs. b ++ xs) has.spelled)
          ∙ seam a b (canonical g) (line (codes "table")) ls;
    }

-- the fault of the whole text
pub fault_of : (bs : List ℕ) (v : ℕ) (n : Name) (rest more : List ℕ) → HasStart bs v rest → HasRole rest n more → (result : Result Program LoadFault)
    → IfErr result (IsFaultBehind v n more) → IfErr result (IsLoadFault bs)
fault_of bs v n rest more start role (Ok p) k = k
fault_of bs v n rest more start role (Err (Faults.Malformed at)) (inl (e, none)) =
    let P : ℕ → Type 0 = IsMalformed bs in subst P (sym e) (NoGraph start role none)
fault_of bs v n rest more start role (Err (Faults.Malformed at)) (inr (e, (g, r, ls, has, other))) =
    let P : ℕ → Type 0 = IsMalformed bs in subst P (sym e) (OtherStart start role has other)
fault_of bs v n rest more start role (Err (Faults.Graph g f)) (r, ls, has, w, refused, memory) = (r, ls, prefix_of bs v n rest more ls g r start role has w, refused, memory)
fault_of bs v n rest more start role (Err (Faults.NotTheTable k)) (p, ls, has, w, c, other, first) = (p, ls, prefix_of bs v n rest more ls p.graph p.role start role has w, c, other, first)
fault_of bs v n rest more start role (Err Faults.OutOfMemory) k = record { version = v; name = n; rest = rest; more = more; start = start; role = role; table = k }

-- what follows the first two lines
pub rest_of : (n : Name) (bs rest : List ℕ) → rest ≡ drop (19 + length n) bs → rest ≡ drop (6 + length n) (drop 13 bs)
rest_of n bs rest e = e ∙ drop_on n bs
