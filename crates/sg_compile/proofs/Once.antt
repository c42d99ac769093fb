-- A text is that of one program at most.
use Rattle.std.proofs.Common.{◌≡◌, ℕ, zero, suc, ◌+◌, ◌<◌, ◌==◌, Bool, true, false, not, ◌&&◌, List, [], ◌∷◌, ◌++◌, length, get_or, Some, refl, sym, ap, subst, ◌∙◌, arith, append_assoc, ◌⊎◌, inl, inr, true≢false}
use Rattle.std.specs.Prelude.{codes, if◌then◌else◌, Result, Ok, Err, IfOk, IfErr}
use Rattle.std.specs.List.{list_all}
use Rattle.std.proofs.lemmas.Bool.{and_parts, not-true}
use Rattle.std.proofs.lemmas.Bool.Decides.{nat_tests}
use Rattle.sg_model.specs.Lists.{all_differ, has_text}
use Rattle.sg_protocol.specs.Graph.{Graph, IsGraph, Name, is_name, reserved, canonical, role_name}
use Rattle.sg_protocol.specs.Keyring.{Program}
use Rattle.sg_protocol.proofs.GraphText.{canonical_same}
use Rattle.sg_parse.proofs.Canonical.{name-is}
use Rattle.sg_compile.specs.Compiled.{IsRefused, IsWhole}
use Rattle.sg_compile.specs.Loading.{HasPrefix, HasGraph, HasRole, HasStart, IsLoadFault, IsMalformed, NoStart, NoRole, NoGraph, OtherStart, at_table}
use Rattle.sg_compile.specs.Text.{line, program_text, role_line, start_line, table_text, version}
use Rattle.sg_compile.specs.declared.loader.LoadFault.{LoadFault}
use Rattle.sg_compile.specs.declared.loader.LoadFault.TheVariants as Faults
use Rattle.sg_compile.proofs.Behind.{role_there}
use Rattle.sg_compile.proofs.Canonical.{free_append, table_behind}
use Rattle.sg_compile.proofs.Only.{one_program, not_refused}
use Rattle.sg_compile.proofs.Reading.{prefix_goes, is_free, line_unique, name_free}

-- ---- names

-- of names that differ one stands at one index
index_once : (names : List Name) (r s : ℕ) → all_differ names ≡ true → r < length names → s < length names → get_or names r [] ≡ get_or names s [] → r ≡ s
index_once [] r s d l m e = absurd (omega (arith, l))
index_once (n ∷ ns) zero zero d l m e = refl
index_once (n ∷ ns) zero (suc s) d l m e =
    let parts = and_parts (not (has_text n ns)) (all_differ ns) d in
    absurd (true≢false (sym (role_there n ns s (omega (arith, m)) (sym e)) ∙ not-true (has_text n ns) parts.0))
index_once (n ∷ ns) (suc r) zero d l m e =
    let parts = and_parts (not (has_text n ns)) (all_differ ns) d in
    absurd (true≢false (sym (role_there n ns r (omega (arith, l)) e) ∙ not-true (has_text n ns) parts.0))
index_once (n ∷ ns) (suc r) (suc s) d l m e = ap suc (index_once ns r s (and_parts (not (has_text n ns)) (all_differ ns) d).1 (omega (arith, l)) (omega (arith, m)) e)

-- a role's name is that of one role
pub role_once : (g : Graph) (r s : ℕ) → IsGraph g → r < length g.roles → s < length g.roles → role_name g r ≡ role_name g s → r ≡ s
role_once g r s is l m e = index_once g.roles r s (and_parts (list_all (λ n. is_name n && not (has_text n reserved)) g.roles) (all_differ g.roles) is.role_names).1 l m e

role_named : (g : Graph) (r : ℕ) → IsGraph g → r < length g.roles → is_name (role_name g r) ≡ true
role_named g r is l = name-is g.roles r l (and_parts (list_all (λ n. is_name n && not (has_text n reserved)) g.roles) (all_differ g.roles) is.role_names).0

-- ---- lines

end_of_line : (a xs : List ℕ) → line a ++ xs ≡ a ++ 10 ∷ xs
end_of_line a xs = append_assoc a (10 ∷ []) xs

-- texts with a first line have one
first_line : (a b xs ys bs : List ℕ) → is_free a ≡ true → is_free b ≡ true → bs ≡ line a ++ xs → bs ≡ line b ++ ys → (a ≡ b) × (xs ≡ ys)
first_line a b xs ys bs f g e h = line_unique a b xs ys f g (sym (end_of_line a xs) ∙ sym e ∙ h ∙ end_of_line b ys)

start_free : (v : ℕ) → is_free (start_line v) ≡ true
start_free v = free_append (codes "sg-program ") ((48 + v) ∷ []) refl (let apart : ((48 + v) == 10) ≡ false = grind (arith, nat_tests) in rw apart refl)

role_line_free : (n : Name) → is_name n ≡ true → is_free (codes "role " ++ n) ≡ true
role_line_free n h = free_append (codes "role ") n refl (name_free n h)

pub one_start : (bs xs ys : List ℕ) (v w : ℕ) → HasStart bs v xs → HasStart bs w ys → (v ≡ w) × (xs ≡ ys)
one_start bs xs ys v w a b =
    let same = first_line (start_line v) (start_line w) xs ys bs (start_free v) (start_free w) a.spelled b.spelled in
    (digit (prefix_goes (codes "sg-program ") ((48 + v) ∷ []) ((48 + w) ∷ []) same.0), same.1)
  where
    digit : (48 + v) ∷ [] ≡ (48 + w) ∷ [] → v ≡ w
    digit e = let d : 48 + v ≡ 48 + w = ap (λ l. get_or l 0 0) e in omega (arith, d)

pub one_role : (bs xs ys : List ℕ) (m n : Name) → HasRole bs m xs → HasRole bs n ys → (m ≡ n) × (xs ≡ ys)
one_role bs xs ys m n a b =
    let same = first_line (codes "role " ++ m) (codes "role " ++ n) xs ys bs (role_line_free m a.named) (role_line_free n b.named) a.spelled b.spelled in
    (prefix_goes (codes "role ") m n same.0, same.1)

inside : (t u : List ℕ × List ℕ) → Some t ≡ Some u → t ≡ u
inside t u e = cc

one_graph : (bs xs ys : List ℕ) (m n : Name) (g h : Graph) (r s : ℕ) → HasGraph bs m g r xs → HasGraph bs n h s ys → (g ≡ h) × (xs ≡ ys)
one_graph bs xs ys m n g h r s a b =
    let t : List ℕ × List ℕ = (canonical g, xs) in
    let u : List ℕ × List ℕ = (canonical h, ys) in
    let same : t ≡ u = inside t u (sym (table_behind g a.is_graph xs) ∙ sym (ap (at_table true) a.spelled) ∙ ap (at_table true) b.spelled ∙ table_behind h b.is_graph ys) in
    (canonical_same g h a.is_graph b.is_graph (ap (λ (p : List ℕ × List ℕ). p.0) same), ap (λ (p : List ℕ × List ℕ). p.1) same)

-- ---- the whole text

-- the lines of a text's prefix, and what follows each
pub record Prefix (bs : List ℕ) (g : Graph) (r : ℕ) (table : List ℕ) : Type 0 where
  pub rest : List ℕ
  pub more : List ℕ
  pub start : HasStart bs (version g) rest
  pub role : HasRole rest (role_name g r) more
  pub graph : HasGraph more (role_name g r) g r table

version_known : (g : Graph) → (version g ≡ 1) ⊎ (version g ≡ 2)
version_known g = by (list_all (λ v. length v.writers == 1) g.variables) (version g) refl
  where
    by : (b : Bool) (v : ℕ) → v ≡ (if b then 1 else 2) → (v ≡ 1) ⊎ (v ≡ 2)
    by true v e = inl e
    by false v e = inr e

seam : (a b c d e : List ℕ) → a ++ b ++ c ++ d ++ e ≡ a ++ (b ++ (c ++ d ++ e))
seam a b c d e = simp append_assoc

pub prefix_of : (bs table : List ℕ) (g : Graph) (r : ℕ) → HasPrefix bs g r table → Prefix bs g r table
prefix_of bs table g r h = record {
  rest = line (role_line g r) ++ (canonical g ++ line (codes "table") ++ table);
  more = canonical g ++ line (codes "table") ++ table;
  start = record { known = version_known g; spelled = h.spelled ∙ seam (line (start_line (version g))) (line (role_line g r)) (canonical g) (line (codes "table")) table };
  role = record { named = role_named g r h.is_graph h.there; spelled = refl };
  graph = record { is_graph = h.is_graph; two_roles = h.two_roles; has_node = h.has_node; there = h.there; named = refl; spelled = refl };
}

-- a program's text begins so
program_prefix : (bs : List ℕ) (p : Program) → IsWhole p → program_text p ≡ bs → HasPrefix bs p.graph p.role (table_text p)
program_prefix bs p w e = record {
  is_graph = w.program.is_graph;
  two_roles = w.program.accepted.two_roles;
  has_node = (let (n, l, s) = w.program.accepted.each_role_has_node p.role w.program.role in omega (arith, l));
  there = w.program.role;
  spelled = sym e;
}

-- two such prefixes of one text are of one graph and one role, and the same follows
pub one_prefix : (bs xs ys : List ℕ) (g h : Graph) (r s : ℕ) → Prefix bs g r xs → Prefix bs h s ys → (g ≡ h) × (r ≡ s) × (xs ≡ ys)
one_prefix bs xs ys g h r s a b =
    let starts = one_start bs a.rest b.rest (version g) (version h) a.start b.start in
    let roles = one_role a.rest a.more b.more (role_name g r) (role_name h s) a.role (subst (λ t. HasRole t (role_name h s) b.more) (sym starts.1) b.role) in
    let graphs = one_graph a.more xs ys (role_name g r) (role_name h s) g h r s a.graph (subst (λ t. HasGraph t (role_name h s) h s ys) (sym roles.1) b.graph) in
    let there : s < length g.roles = subst (λ (k : Graph). s < length k.roles) (sym graphs.0) b.graph.there in
    let name : role_name g r ≡ role_name g s = roles.0 ∙ ap (λ (k : Graph). role_name k s) (sym graphs.0) in
    (graphs.0, role_once g r s a.graph.is_graph a.graph.there there name, graphs.1)

-- a text that begins so is malformed nowhere
pub well_formed : (bs table : List ℕ) (h : Graph) (s : ℕ) → Prefix bs h s table → (at : ℕ) → IsMalformed bs at → ⊥
well_formed bs table h s f _ (NoStart none) = none (version h) f.rest f.start
well_formed bs table h s f _ (NoRole {v} {rest} start none) =
    let same = one_start bs rest f.rest v (version h) start f.start in
    none (role_name h s) f.more (subst (λ t. HasRole t (role_name h s) f.more) (sym same.1) f.role)
well_formed bs table h s f _ (NoGraph {v} {n} {rest} {more} start role none) =
    let starts = one_start bs rest f.rest v (version h) start f.start in
    let roles = one_role rest more f.more n (role_name h s) role (subst (λ t. HasRole t (role_name h s) f.more) (sym starts.1) f.role) in
    let graph : HasGraph more n h s table = subst (λ t. HasGraph t n h s table) (sym roles.1) (subst (λ m. HasGraph f.more m h s table) (sym roles.0) f.graph) in
    none h s table graph
well_formed bs table h s f _ (OtherStart {v} {r} {n} {g} {rest} {more} {ls} start role graph other) =
    let starts = one_start bs rest f.rest v (version h) start f.start in
    let roles = one_role rest more f.more n (role_name h s) role (subst (λ t. HasRole t (role_name h s) f.more) (sym starts.1) f.role) in
    let graphs = one_graph more ls table n (role_name h s) g h r s graph (subst (λ t. HasGraph t (role_name h s) h s table) (sym roles.1) f.graph) in
    other (starts.0 ∙ ap version (sym graphs.0))

-- so what is loaded from the text of a program is this program, or memory ran out
pub loaded_or_memory : (bs : List ℕ) (p : Program) → IsWhole p → program_text p ≡ bs → (result : Result Program LoadFault) → IfOk result IsWhole → IfOk result (λ q. program_text q ≡ bs) → IfErr result (IsLoadFault bs)
    → IfOk result (λ q. q ≡ p) × IfErr result (λ f. f ≡ Faults.OutOfMemory)
loaded_or_memory bs p w e result whole text fault = by result whole text fault
  where
    own : Prefix bs p.graph p.role (table_text p)
    own = prefix_of bs (table_text p) p.graph p.role (program_prefix bs p w e)

    by : (result : Result Program LoadFault) → IfOk result IsWhole → IfOk result (λ q. program_text q ≡ bs) → IfErr result (IsLoadFault bs)
        → IfOk result (λ q. q ≡ p) × IfErr result (λ f. f ≡ Faults.OutOfMemory)
    by (Ok q) v t k =
        let same = one_prefix bs (table_text q) (table_text p) q.graph p.graph q.role p.role (prefix_of bs (table_text q) q.graph q.role (program_prefix bs q v t)) own in
        (one_program q p v.program w.program same.0 same.1, tt)
    by (Err (Faults.Malformed at)) v t k = absurd (well_formed bs (table_text p) p.graph p.role own at k)
    by (Err (Faults.Graph g f)) v t (r, rest, has, refused, other) =
        let same = one_prefix bs rest (table_text p) g p.graph r p.role (prefix_of bs rest g r has) own in
        let here : IsRefused p.graph p.role f = subst (λ (k : Graph). IsRefused k p.role f) same.0 (subst (λ k. IsRefused g k f) same.1 refused) in
        absurd (other (not_refused p.graph p.role p w f here))
    by (Err (Faults.NotTheTable n)) v t (q, rest, has, c, other, first) =
        let same = one_prefix bs rest (table_text p) q.graph p.graph q.role p.role (prefix_of bs rest q.graph q.role has) own in
        absurd (other (same.2 ∙ ap table_text (sym (one_program q p c.program w.program same.0 same.1))))
    by (Err Faults.OutOfMemory) v t k = (tt, refl)
