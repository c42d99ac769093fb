-- The endings of a command on one file of a graph exclude each other.
use Rattle.std.proofs.Common.{◌≡◌, ℕ, ◌<◌, ◌⊎◌, inl, inr, true, false, List, length, Ok, Err, refl, sym, ap, ◌∙◌, subst}
use Rattle.sg_compose.specs.Expansion.{expansion}
use Rattle.sg_compose.specs.declared.fault.ComposeFault.{ComposeFault}
use Rattle.sg_model.specs.Lists.{has_text}
use Rattle.sg_model.specs.Limits.{most_graph_file}
use Rattle.sg_parse.specs.Grammar.{SpellsGraph}
use Rattle.sg_parse.specs.Parts.{Part}
use Rattle.sg_parse.specs.PartsGrammar.{SpellsParts}
use Rattle.sg_parse.specs.PartsReading.{read as parts_read}
use Rattle.sg_parse.specs.declared.fault.ParseFault.{ParseFault}
use Rattle.sg_parse.proofs.GivesParts.{spells-read as spells_parts-read}
use Rattle.sg_compile.specs.Compiled.{IsCompiled, IsRefused}
use Rattle.sg_compile.specs.declared.check.CompileFault.{CompileFault}
use Rattle.sg_compile.specs.declared.check.CompileFault.TheVariants.{OutOfMemory}
use Rattle.sg_compile.proofs.Behind.{role_there}
use Rattle.sg_compile.proofs.Once.{role_once}
use Rattle.sg_compile.proofs.Only.{accepted_not_refused, not_refused}
use Rattle.sg_protocol.specs.Accepted.{Accepted}
use Rattle.sg_protocol.specs.Graph.{Graph}
use Rattle.sg_protocol.specs.Keyring.{Program}
use Rattle.sg_ending.specs.Ending.{Ending, Written, NoGraph, NoExpansion, GraphRefused, NoRole, WriteFailed, NoMemory}
use Rattle.sg_ending.specs.Laws.{EndsOnce, asked, is_of_outside}
use Rattle.sg_ending.specs.Output.{Output}
use Rattle.sg_design.specs.Claimed.{Suggests}
use Rattle.sg_design.specs.Ends.{Checks, Compiles, Composes, IsCompilation, IsRefusedFor, LacksRole}
use Rattle.sg_ending.proofs.OneEnding.{one_ok, one_err, ok_or_err, Cause, CompiledGraph, Refused, Before, Determined, one_cause, file_once, no_graph, of_graph}

-- ---- graphs

check_cause : (bytes : List ℕ) (a a' : Output) (e : Ending) → Checks bytes a a' e → is_of_outside e ≡ false → Cause (SpellsGraph bytes) (no_graph bytes) (asked e)
check_cause bytes a a' Written (text, t, w) n = CompiledGraph t.spelled t.compiled t.few
check_cause bytes a a' (NoGraph fault) (same, e) n = Before (fault, refl, e)
check_cause bytes a a' (GraphRefused g fault) (same, s, r) n = Refused s r
check_cause bytes a a' WriteFailed (text, t, w) n = CompiledGraph t.spelled t.compiled t.few
check_cause bytes a a' NoMemory h n = absurd (cc)
check_cause bytes a a' _ h n = absurd h.2

pub check_once : EndsOnce Checks most_graph_file
check_once =
    file_once Checks most_graph_file (λ bytes a a' b b' x y h k p q. one_cause _ _ (of_graph bytes) (asked x) (asked y) (check_cause bytes a a' x h p) (check_cause bytes b b' y k q))

suggest_cause : (bytes : List ℕ) (a a' : Output) (e : Ending) → Suggests bytes a a' e → is_of_outside e ≡ false → Cause (SpellsGraph bytes) (no_graph bytes) (asked e)
suggest_cause bytes a a' Written (text, t, w) n = CompiledGraph t.accepted.spelled t.accepted.compiled t.accepted.few
suggest_cause bytes a a' (NoGraph fault) (same, e) n = Before (fault, refl, e)
suggest_cause bytes a a' (GraphRefused g fault) (same, s, r) n = Refused s r
suggest_cause bytes a a' WriteFailed (text, t, w) n = CompiledGraph t.accepted.spelled t.accepted.compiled t.accepted.few
suggest_cause bytes a a' NoMemory h n = absurd (cc)
suggest_cause bytes a a' _ h n = absurd h.2

pub suggest_once : EndsOnce Suggests most_graph_file
suggest_once =
    file_once Suggests most_graph_file (λ bytes a a' b b' x y h k p q. one_cause _ _ (of_graph bytes) (asked x) (asked y) (suggest_cause bytes a a' x h p) (suggest_cause bytes b b' y k q))

-- ---- parts

abbrev expands : List ℕ → Graph → Type 0
expands bytes g = (ps : List Part) × SpellsParts bytes ps × (expansion ps ≡ Ok g)

abbrev no_expansion : List ℕ → Ending → Type 0
no_expansion bytes e = ((f : ParseFault) × (e ≡ NoGraph f) × (parts_read bytes ≡ Err f)) ⊎ ((f : ComposeFault) × (ps : List Part) × (e ≡ NoExpansion f) × SpellsParts bytes ps × (expansion ps ≡ Err f))

one_parts : (bytes : List ℕ) (ps qs : List Part) → SpellsParts bytes ps → SpellsParts bytes qs → ps ≡ qs
one_parts bytes ps qs s t = one_ok (parts_read bytes) ps qs (spells_parts-read bytes ps s) (spells_parts-read bytes qs t)

of_parts : (bytes : List ℕ) → Determined (expands bytes) (no_expansion bytes)
of_parts bytes = record { graph = graph; early = early; apart = apart }
  where
    graph : (g h : Graph) → expands bytes g → expands bytes h → g ≡ h
    graph g h (ps, s, e) (qs, t, f) = one_ok (expansion ps) g h e (ap expansion (one_parts bytes ps qs s t) ∙ f)

    early : (d e : Ending) → no_expansion bytes d → no_expansion bytes e → d ≡ e
    early d e (inl (f, is, h)) (inl (k, has, j)) = is ∙ ap NoGraph (one_err (parts_read bytes) f k h j) ∙ sym has
    early d e (inl (f, is, h)) (inr (k, ps, has, s, j)) = absurd (ok_or_err (parts_read bytes) ps f (spells_parts-read bytes ps s) h)
    early d e (inr (f, ps, is, s, h)) (inl (k, has, j)) = absurd (ok_or_err (parts_read bytes) ps k (spells_parts-read bytes ps s) j)
    early d e (inr (f, ps, is, s, h)) (inr (k, qs, has, t, j)) = is ∙ ap NoExpansion (one_err (expansion ps) f k h (ap expansion (one_parts bytes ps qs s t) ∙ j)) ∙ sym has

    apart : (g : Graph) (e : Ending) → expands bytes g → no_expansion bytes e → ⊥
    apart g e (ps, s, h) (inl (f, is, j)) = ok_or_err (parts_read bytes) ps f (spells_parts-read bytes ps s) j
    apart g e (ps, s, h) (inr (f, qs, is, t, j)) = ok_or_err (expansion ps) g f h (ap expansion (one_parts bytes ps qs s t) ∙ j)

compose_cause : (bytes : List ℕ) (a a' : Output) (e : Ending) → Composes bytes a a' e → is_of_outside e ≡ false → Cause (expands bytes) (no_expansion bytes) (asked e)
compose_cause bytes a a' Written (text, t, w) n = CompiledGraph (t.parts, t.spelled, t.expanded) t.compiled t.few
compose_cause bytes a a' (NoGraph fault) (same, e) n = Before (inl (fault, refl, e))
compose_cause bytes a a' (NoExpansion fault) (same, (ps, s, e)) n = Before (inr (fault, ps, refl, s, e))
compose_cause bytes a a' (GraphRefused g fault) (same, (ps, s, e, r)) n = Refused (ps, s, e) r
compose_cause bytes a a' WriteFailed (text, t, w) n = CompiledGraph (t.parts, t.spelled, t.expanded) t.compiled t.few
compose_cause bytes a a' NoMemory h n = absurd (cc)
compose_cause bytes a a' _ h n = absurd h.2

pub compose_once : EndsOnce Composes most_graph_file
compose_once =
    file_once Composes most_graph_file (λ bytes a a' b b' x y h k p q. one_cause _ _ (of_parts bytes) (asked x) (asked y) (compose_cause bytes a a' x h p) (compose_cause bytes b b' y k q))

-- ---- programs

-- what bytes ask for that are a graph to be compiled for a role of this name, or none
data CompileCause (name bytes : List ℕ) : Ending → Type 0 where
  Compiled : {text : List ℕ} → IsCompilation bytes name text → CompileCause name bytes Written
  NotRead : {e : Ending} → no_graph bytes e → CompileCause name bytes e
  Unfit : {g : Graph} {f : CompileFault} → SpellsGraph bytes g → IsRefusedFor g name f → CompileCause name bytes (GraphRefused g OutOfMemory)
  Lacks : LacksRole bytes name → CompileCause name bytes (NoRole name)

module _ (name bytes : List ℕ) where
  same_graph : (g h : Graph) → SpellsGraph bytes g → SpellsGraph bytes h → g ≡ h
  same_graph g h s t = (of_graph bytes).graph g h s t

  not_read : (g : Graph) (e : Ending) → SpellsGraph bytes g → no_graph bytes e → ⊥
  not_read g e s n = (of_graph bytes).apart g e s n

  accepted_of : (g : Graph) (r : ℕ) (p : Program) → IsCompiled g r p → Accepted g × (r < length g.roles)
  accepted_of g r p c =
      let P : Graph → ℕ → Type 0 = λ h k. Accepted h × (k < length h.roles) in
      subst (λ k. P g k) c.role (subst (λ (h : Graph). P h p.role) c.graph (c.program.accepted, c.program.role))

  compiled_unfit : (text : List ℕ) (g : Graph) (f : CompileFault) → IsCompilation bytes name text → SpellsGraph bytes g → IsRefusedFor g name f → ⊥
  compiled_unfit text g f t s r = by (subst (λ (h : Graph). IsRefusedFor h name f) (sym (same_graph t.graph g t.spelled s)) r)
    where
      by : IsRefusedFor t.graph name f → ⊥
      by (other, inl h) = other (accepted_not_refused t.graph (accepted_of t.graph t.role t.program t.compiled).0 f h)
      by (other, inr (q, l, named, refused)) =
          let same : q ≡ t.role = role_once t.graph q t.role t.spelled.is_graph l (accepted_of t.graph t.role t.program t.compiled).1 (named ∙ sym t.named) in
          other (not_refused t.graph t.role t.program t.compiled f (subst (λ k. IsRefused t.graph k f) same refused))

  compiled_lacks : (text : List ℕ) → IsCompilation bytes name text → LacksRole bytes name → ⊥
  compiled_lacks text t l =
      let there : has_text name t.graph.roles ≡ true = role_there name t.graph.roles t.role (accepted_of t.graph t.role t.program t.compiled).1 t.named in
      l.lacks (subst (λ (h : Graph). has_text name h.roles ≡ true) (same_graph t.graph l.graph t.spelled l.spelled) there)

  unfit_lacks : (g : Graph) (f : CompileFault) → SpellsGraph bytes g → IsRefusedFor g name f → LacksRole bytes name → ⊥
  unfit_lacks g f s r l = by (subst (λ (h : Graph). IsRefusedFor h name f) (same_graph g l.graph s l.spelled) r)
    where
      by : IsRefusedFor l.graph name f → ⊥
      by (other, inl h) = other (accepted_not_refused l.graph l.accepted f h)
      by (other, inr (q, m, named, refused)) = l.lacks (role_there name l.graph.roles q m named)

  one_compiled : (x y : Ending) → CompileCause name bytes x → CompileCause name bytes y → x ≡ y
  one_compiled _ _ (Compiled t) (Compiled u) = refl
  one_compiled _ y (Compiled t) (NotRead e) = absurd (not_read t.graph y t.spelled e)
  one_compiled _ _ (Compiled {text} t) (Unfit {g} {f} s r) = absurd (compiled_unfit text g f t s r)
  one_compiled _ _ (Compiled {text} t) (Lacks l) = absurd (compiled_lacks text t l)
  one_compiled x _ (NotRead e) (Compiled t) = absurd (not_read t.graph x t.spelled e)
  one_compiled x y (NotRead e) (NotRead f) = (of_graph bytes).early x y e f
  one_compiled x _ (NotRead e) (Unfit {g} s r) = absurd (not_read g x s e)
  one_compiled x _ (NotRead e) (Lacks l) = absurd (not_read l.graph x l.spelled e)
  one_compiled _ _ (Unfit {g} {f} s r) (Compiled {text} t) = absurd (compiled_unfit text g f t s r)
  one_compiled _ y (Unfit {g} s r) (NotRead e) = absurd (not_read g y s e)
  one_compiled _ _ (Unfit {g} s r) (Unfit {g = h} t q) = ap (λ (k : Graph). GraphRefused k OutOfMemory) (same_graph g h s t)
  one_compiled _ _ (Unfit {g} {f} s r) (Lacks l) = absurd (unfit_lacks g f s r l)
  one_compiled _ _ (Lacks l) (Compiled {text} t) = absurd (compiled_lacks text t l)
  one_compiled _ y (Lacks l) (NotRead e) = absurd (not_read l.graph y l.spelled e)
  one_compiled _ _ (Lacks l) (Unfit {g} {f} s r) = absurd (unfit_lacks g f s r l)
  one_compiled _ _ (Lacks l) (Lacks m) = refl

compile_cause : (name bytes : List ℕ) (a a' : Output) (e : Ending) → Compiles name bytes a a' e → is_of_outside e ≡ false → CompileCause name bytes (asked e)
compile_cause name bytes a a' Written (text, t, w) n = Compiled t
compile_cause name bytes a a' (NoGraph fault) (same, e) n = NotRead (fault, refl, e)
compile_cause name bytes a a' (GraphRefused g fault) (same, s, r) n = Unfit s r
compile_cause name bytes a a' (NoRole role) (same, is, l) n = subst (λ w. CompileCause name bytes (NoRole w)) (sym is) (Lacks l)
compile_cause name bytes a a' WriteFailed (text, t, w) n = Compiled t
compile_cause name bytes a a' NoMemory h n = absurd (cc)
compile_cause name bytes a a' _ h n = absurd h.2

pub compile_once : (name : List ℕ) → EndsOnce (Compiles name) most_graph_file
compile_once name =
    file_once (Compiles name) most_graph_file
    (λ bytes a a' b b' x y h k p q. one_compiled name bytes (asked x) (asked y) (compile_cause name bytes a a' x h p) (compile_cause name bytes b b' y k q))
