-- Where all roles of graphs are compiled, none of the graphs is refused, and the programs are the only ones.
use Rattle.std.proofs.Common.{◌≡◌, ℕ, zero, suc, ◌+◌, ◌<◌, ◌⊎◌, inl, inr, List, [], ◌∷◌, ◌++◌, map, take, length, Some, slice_get, refl, sym, ap, subst, ◌∙◌, arith, add-zero, zero-add, All}
use Rattle.std.proofs.lemmas.Bool.{cases_lt}
use Rattle.sg_model.specs.Lists.{range_from, below}
use Rattle.sg_protocol.specs.Graph.{Graph}
use Rattle.sg_protocol.specs.IsSchedule.{AreCompiled, IsProgram, parts}
use Rattle.sg_protocol.specs.Keyring.{Program}
use Rattle.sg_protocol.specs.Texts.{real}
use Rattle.sg_compile.specs.All.{IsAllFault, IsStopped, pairs_of, roles_of}
use Rattle.sg_compile.specs.Compiled.{IsCompiled, IsWhole}
use Rattle.sg_compile.specs.Laws.{AllCompiledIsNotRefused}
use Rattle.sg_compile.specs.declared.all.AllFault.TheVariants.{Refused}
use Rattle.sg_compile.specs.declared.check.CompileFault.{CompileFault}
use Rattle.sg_compile.proofs.Only.{not_refused, one_program}

-- x is an element of the list
abbrev In : {A : Type 0} → List A → A → Type 0
In [] x = ⊥
In (y ∷ ys) x = (y ≡ x) ⊎ In ys x

in_left : {A : Type 0} (xs ys : List A) (x : A) → In xs x → In (xs ++ ys) x
in_left [] ys x i = absurd i
in_left (z ∷ zs) ys x (inl e) = inl e
in_left (z ∷ zs) ys x (inr i) = inr (in_left zs ys x i)

in_right : {A : Type 0} (xs ys : List A) (x : A) → In ys x → In (xs ++ ys) x
in_right [] ys x i = i
in_right (z ∷ zs) ys x i = inr (in_right zs ys x i)

-- what holds of each element holds of this one
of_all : {A : Type 0} (P : A → Type 0) (xs : List A) (x : A) → All P xs → In xs x → P x
of_all P [] x a i = absurd i
of_all P (y ∷ ys) x a (inl e) = subst P e (a 0 y (omega arith))
of_all P (y ∷ ys) x a (inr i) = of_all P ys x (λ k d l. a (suc k) d (omega (arith, l))) i

in_range : (a k r : ℕ) → r < k → In (range_from a k) (a + r)
in_range a zero r l = absurd (omega (arith, l))
in_range a (suc k) zero l = inl (sym (add-zero a))
in_range a (suc k) (suc r) l =
    let same : suc a + r ≡ a + suc r = omega arith in
    inr (subst (In (range_from (suc a) k)) same (in_range (suc a) k r (omega (arith, l))))

in_pairs : (g : Graph) (rs : List ℕ) (r : ℕ) → In rs r → In {A = Graph × ℕ} (map (λ r. (g, r)) rs) (g, r)
in_pairs g [] r i = absurd i
in_pairs g (q ∷ qs) r (inl e) = inl (ap (λ r. (g, r)) e)
in_pairs g (q ∷ qs) r (inr i) = inr (in_pairs g qs r i)

-- a role of a graph
in_roles : (g : Graph) (r : ℕ) → r < length g.roles → In (roles_of g (length g.roles)) (g, r)
in_roles g r l = in_pairs g (below (length g.roles)) r (subst (In (below (length g.roles))) (zero-add r) (in_range 0 (length g.roles) r l))

-- a role of one of the graphs
in_parts : (graphs : List Graph) (index : ℕ) (g : Graph) (r : ℕ) → slice_get graphs index ≡ Some g → r < length g.roles → In (parts graphs) (g, r)
in_parts [] index g r e l = absurd (cc)
in_parts (h ∷ hs) zero g r e l =
    let same : h ≡ g = cc in
    in_left (roles_of h (length h.roles)) (parts hs) (g, r) (subst (λ (k : Graph). In (roles_of k (length k.roles)) (g, r)) (sym same) (in_roles g r l))
in_parts (h ∷ hs) (suc index) g r e l = in_right (roles_of h (length h.roles)) (parts hs) (g, r) (in_parts hs index g r e l)

-- the program of a role that programs have
of_pair : (programs : List Program) (g : Graph) (r : ℕ) → In (pairs_of programs) (g, r) → (p : Program) × In programs p × (p.graph ≡ g) × (p.role ≡ r)
of_pair [] g r i = absurd i
of_pair (p ∷ ps) g r (inl e) = (p, inl refl, ap (λ (t : Graph × ℕ). t.0) e, ap (λ (t : Graph × ℕ). t.1) e)
of_pair (p ∷ ps) g r (inr i) = let (q, j, graph, role) = of_pair ps g r i in (q, inr j, graph, role)

-- a role that a graph isn't compiled for has no program
none_stopped : (before : List (Graph × ℕ)) (g : Graph) (f : CompileFault) (s : IsStopped before g f) (programs : List Program) → All IsWhole programs → In (pairs_of programs) (g, s.role) → ⊥
none_stopped before g f s programs whole there =
    let (p, here, graph, role) = of_pair programs g s.role there in
    let own : IsWhole p = of_all IsWhole programs p whole here in
    let has : IsCompiled g s.role p = subst (λ r. IsCompiled g r p) role (subst (λ (h : Graph). IsCompiled h p.role p) graph own) in
    s.memory (not_refused g s.role p has f s.refused)

pub all_or_refused : AllCompiledIsNotRefused
all_or_refused graphs programs index f compiled whole (g, at, s) =
    none_stopped (parts (take index graphs)) g f s programs whole (subst (λ ts. In ts (g, s.role)) (sym compiled.all) (in_parts graphs index g s.role at s.there))

-- ---- one refusal

in_prefix : (graphs : List Graph) (i j : ℕ) (g : Graph) → i < j → slice_get graphs i ≡ Some g → slice_get (take j graphs) i ≡ Some g
in_prefix [] i j g l e = absurd (cc)
in_prefix (h ∷ hs) i zero g l e = absurd (omega (arith, l))
in_prefix (h ∷ hs) zero (suc j) g l e = e
in_prefix (h ∷ hs) (suc i) (suc j) g l e = in_prefix hs i j g (omega (arith, l)) e

none_before : (graphs : List Graph) (i j : ℕ) (f k : CompileFault) → i < j → IsAllFault graphs (Refused i f) → IsAllFault graphs (Refused j k) → ⊥
none_before graphs i j f k l (g, at, s) (h, there, t) =
    let early : In (parts (take j graphs)) (g, s.role) = in_parts (take j graphs) i g s.role (in_prefix graphs i j g l at) s.there in
    none_stopped (parts (take i graphs)) g f s t.programs t.each
    (subst (λ ts. In ts (g, s.role)) (sym t.earlier) (in_left (parts (take j graphs)) (roles_of h t.role) (g, s.role) early))

-- the first graph that is refused stands at one place
pub one_index : (graphs : List Graph) (i j : ℕ) (f k : CompileFault) → IsAllFault graphs (Refused i f) → IsAllFault graphs (Refused j k) → i ≡ j
one_index graphs i j f k a b = elim (cases_lt i j) [
  | inl l ↦ absurd (none_before graphs i j f k l a b)
  | inr m ↦ elim (cases_lt j i) [
    | inl l ↦ absurd (none_before graphs j i k f l b a)
    | inr n ↦ omega (arith, m, n)
  ]
]

-- ---- one compilation

same_programs : (ps qs : List Program) → All (IsProgram real) ps → All (IsProgram real) qs → pairs_of ps ≡ pairs_of qs → ps ≡ qs
same_programs [] [] a b e = refl
same_programs [] (q ∷ qs) a b e = absurd (cc)
same_programs (p ∷ ps) [] a b e = absurd (cc)
same_programs (p ∷ ps) (q ∷ qs) a b e =
    let first : (p.graph, p.role) ≡ (q.graph, q.role) = cc in
    let later : pairs_of ps ≡ pairs_of qs = cc in
    let one : p ≡ q = one_program p q (a 0 p (omega arith)) (b 0 q (omega arith)) (ap (λ (t : Graph × ℕ). t.0) first) (ap (λ (t : Graph × ℕ). t.1) first) in
    let rest : ps ≡ qs = same_programs ps qs (λ k d l. a (suc k) d (omega (arith, l))) (λ k d l. b (suc k) d (omega (arith, l))) later in
    λ i. one i ∷ rest i

-- graphs are compiled to the same programs
pub one_compilation : (graphs : List Graph) (ps qs : List Program) → AreCompiled real graphs ps → AreCompiled real graphs qs → ps ≡ qs
one_compilation graphs ps qs a b = same_programs ps qs a.each b.each (a.all ∙ sym b.all)
