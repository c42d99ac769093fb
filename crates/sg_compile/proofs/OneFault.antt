-- A text has one fault at most, and of a graph that is refused that is which graph it is.
use Rattle.std.proofs.Common.{◌≡◌, ◌≢◌, ℕ, ◌+◌, List, length, refl, sym, ap, subst, ◌∙◌}
use Rattle.sg_protocol.specs.Graph.{Graph, Name}
use Rattle.sg_protocol.specs.Keyring.{Program}
use Rattle.sg_compile.specs.Compiled.{IsCompiled, IsRefused}
use Rattle.sg_compile.specs.Laws.{TextHasOneFault}
use Rattle.sg_compile.specs.Loading.{HasPrefix, HasGraph, HasRole, HasStart, IsMalformed, NoStart, NoRole, NoGraph, OtherStart, first_wrong}
use Rattle.sg_compile.specs.Text.{table_text}
use Rattle.sg_compile.specs.declared.check.CompileFault.{CompileFault}
use Rattle.sg_compile.specs.declared.check.CompileFault.TheVariants.{OutOfMemory as CompileMemory}
use Rattle.sg_compile.specs.declared.loader.LoadFault.TheVariants as Faults
use Rattle.sg_compile.proofs.Once.{one_start, one_role, one_prefix, prefix_of, well_formed}
use Rattle.sg_compile.proofs.Only.{one_program, not_refused}

-- ---- where a text is malformed

module _ (bs : List ℕ) where
  start_there : {v w : ℕ} {xs ys : List ℕ} {n : Name} {more : List ℕ} → HasStart bs v xs → HasStart bs w ys → HasRole ys n more → HasRole xs n more
  start_there {v} {w} {xs} {ys} {n} {more} a b role = subst (λ t. HasRole t n more) (sym (one_start bs xs ys v w a b).1) role

  -- the names of the roles are one, and the same follows
  roles_there : {v w : ℕ} {xs ys : List ℕ} {m n : Name} {more rest : List ℕ} → HasStart bs v xs → HasStart bs w ys → HasRole xs m more → HasRole ys n rest → (m ≡ n) × (more ≡ rest)
  roles_there {v} {w} {xs} {ys} {m} {n} {more} {rest} a b role other = one_role xs more rest m n role (start_there a b other)

  graph_there : {v w : ℕ} {xs ys : List ℕ} {m n : Name} {more rest : List ℕ} (g : Graph) (r : ℕ) (ls : List ℕ) → HasStart bs v xs → HasStart bs w ys → HasRole xs m more → HasRole ys n rest
      → HasGraph rest n g r ls → HasGraph more m g r ls
  graph_there {v} {w} {xs} {ys} {m} {n} {more} {rest} g r ls a b role other graph =
      let same = roles_there a b role other in
      subst (λ t. HasGraph t m g r ls) (sym same.1) (subst (λ k. HasGraph rest k g r ls) (sym same.0) graph)

  one_offset : (i j : ℕ) → IsMalformed bs i → IsMalformed bs j → i ≡ j
  one_offset _ _ (NoStart none) (NoStart other) = refl
  one_offset _ _ (NoStart none) (NoRole {v} {rest} start other) = absurd (none v rest start)
  one_offset _ _ (NoStart none) (NoGraph {v} {rest = xs} start role other) = absurd (none v xs start)
  one_offset _ _ (NoStart none) (OtherStart {v} {rest = xs} start role graph other) = absurd (none v xs start)
  one_offset _ _ (NoRole {v} {rest} start other) (NoStart none) = absurd (none v rest start)
  one_offset _ _ (NoRole start none) (NoRole other nor) = refl
  one_offset _ _ (NoRole start none) (NoGraph {n} {more = xs} start' role other) = absurd (none n xs (start_there start start' role))
  one_offset _ _ (NoRole start none) (OtherStart {n} {more = xs} start' role graph other) = absurd (none n xs (start_there start start' role))
  one_offset _ _ (NoGraph {v} {rest = xs} start role other) (NoStart none) = absurd (none v xs start)
  one_offset _ _ (NoGraph {n} {more = xs} start' role other) (NoRole start none) = absurd (none n xs (start_there start start' role))
  one_offset _ _ (NoGraph start role none) (NoGraph start' role' other) = ap (λ (n : Name). 19 + length n) (roles_there start start' role role').0
  one_offset _ _ (NoGraph start role none) (OtherStart {r} {g} {ls = table} start' role' graph other) = absurd (none g r table (graph_there g r table start start' role role' graph))
  one_offset _ _ (OtherStart {v} {rest = xs} start role graph other) (NoStart none) = absurd (none v xs start)
  one_offset _ _ (OtherStart {n} {more = xs} start' role graph other) (NoRole start none) = absurd (none n xs (start_there start start' role))
  one_offset _ _ (OtherStart {r} {g} {ls = table} start' role' graph other) (NoGraph start role none) = absurd (none g r table (graph_there g r table start start' role role' graph))
  one_offset _ _ (OtherStart start role graph none) (OtherStart start' role' graph' other) = refl

-- ---- which fault it is

-- a text that is malformed has no prefix
no_prefix : (bs rest : List ℕ) (g : Graph) (r at : ℕ) → HasPrefix bs g r rest → IsMalformed bs at → ⊥
no_prefix bs rest g r at has is = well_formed bs rest g r (prefix_of bs rest g r has) at is

-- two prefixes are one
prefix_once : (bs xs ys : List ℕ) (g h : Graph) (r s : ℕ) → HasPrefix bs g r xs → HasPrefix bs h s ys → (g ≡ h) × (r ≡ s) × (xs ≡ ys)
prefix_once bs xs ys g h r s a b = one_prefix bs xs ys g h r s (prefix_of bs xs g r a) (prefix_of bs ys h s b)

-- a graph isn't refused for a role and compiled for it
refused_compiled : (bs xs ys : List ℕ) (g : Graph) (r : ℕ) (f : CompileFault) (p : Program) → HasPrefix bs g r xs → IsRefused g r f → f ≢ CompileMemory → HasPrefix bs p.graph p.role ys → IsCompiled p.graph p.role p → ⊥
refused_compiled bs xs ys g r f p a refused other b c =
    let same = prefix_once bs xs ys g p.graph r p.role a b in
    other (not_refused p.graph p.role p c f (subst (λ (k : Graph). IsRefused k p.role f) same.0 (subst (λ k. IsRefused g k f) same.1 refused)))

pub one_fault : TextHasOneFault
one_fault bs (Faults.Malformed i) (Faults.Malformed j) h k a b = ap Faults.Malformed (one_offset bs i j h k)
one_fault bs (Faults.Malformed i) (Faults.Graph g f) h (r, rest, has, refused, other) a b = absurd (no_prefix bs rest g r i has h)
one_fault bs (Faults.Malformed i) (Faults.NotTheTable n) h (p, rest, has, c, other, first) a b = absurd (no_prefix bs rest p.graph p.role i has h)
one_fault bs (Faults.Graph g f) (Faults.Malformed i) (r, rest, has, refused, other) h a b = absurd (no_prefix bs rest g r i has h)
one_fault bs (Faults.Graph g f) (Faults.Graph h k) (r, xs, has, refused, other) (s, ys, has', refused', other') a b =
    ap (λ (x : Graph). Faults.Graph x CompileMemory) (prefix_once bs xs ys g h r s has has').0
one_fault bs (Faults.Graph g f) (Faults.NotTheTable n) (r, xs, has, refused, nom) (p, ys, has', c, other, first) a b = absurd (refused_compiled bs xs ys g r f p has refused nom has' c)
one_fault bs (Faults.NotTheTable n) (Faults.Malformed i) (p, rest, has, c, other, first) h a b = absurd (no_prefix bs rest p.graph p.role i has h)
one_fault bs (Faults.NotTheTable n) (Faults.Graph g f) (p, ys, has', c, other, first) (r, xs, has, refused, nom) a b = absurd (refused_compiled bs xs ys g r f p has refused nom has' c)
one_fault bs (Faults.NotTheTable m) (Faults.NotTheTable n) (p, xs, has, c, other, first) (q, ys, has', d, other', first') a b =
    let same = prefix_once bs xs ys p.graph q.graph p.role q.role has has' in
    let program : p ≡ q = one_program p q c.program d.program same.0 same.1 in
    ap Faults.NotTheTable (first ∙ ap (λ (x : Program). first_wrong (table_text x) xs) program ∙ ap (first_wrong (table_text q)) same.2 ∙ sym first')
one_fault bs Faults.OutOfMemory f h k a b = absurd (a refl)
one_fault bs e Faults.OutOfMemory h k a b = absurd (b refl)
