-- A graph's program for a role is the only one, and if there is one nothing is refused.
use Rattle.std.proofs.Common.{◌≡◌, ◌≢◌, ℕ, ◌<◌, ◌≤◌, List, [], ◌∷◌, length, get_or, refl, sym, ap, ◌∙◌, subst, inl, inr, arith, All, AllPairs, Contains, true≢false}
use Rattle.std.specs.Prelude.{Result, Ok, Err, IfOk, IfErr}
use Rattle.std.proofs.lemmas.Bool.{cases_order, cases_lt}
use Rattle.std.proofs.lemmas.List.{get_or_past}
use Rattle.std.proofs.lemmas.List.Elements.{Contains-get_or}
use Rattle.indexmap.proofs.IndexTableLemmas.Probe.{pigeonhole}
use Rattle.sg_model.specs.Shape.{Blinding, Walk, sender}
use Rattle.sg_model.proofs.Small.{same_at}
use Rattle.sg_protocol.specs.Accepted.{Accepted}
use Rattle.sg_protocol.specs.Evidence.{IsView, IsOpenView, IsViewTable}
use Rattle.sg_protocol.specs.Graph.{Graph, shape}
use Rattle.sg_protocol.specs.IsSchedule.{IsProgram}
use Rattle.sg_protocol.specs.Keyring.{Program}
use Rattle.sg_protocol.specs.Knowledge.{knows}
use Rattle.sg_protocol.specs.Targets.{IsTargetTable}
use Rattle.sg_protocol.specs.Texts.{graph_digest, real}
use Rattle.sg_check.specs.Blind.{IsBlindFault}
use Rattle.sg_check.specs.Shaped.{IsShapeFault}
use Rattle.sg_check.specs.declared.blinding.BlindFault.{BlindFault}
use Rattle.sg_check.specs.declared.blinding.BlindFault.TheVariants.{Blinding as Blinds, OutOfMemory as BlindMemory}
use Rattle.sg_check.specs.declared.shape.ShapeFault.{ShapeFault}
use Rattle.sg_check.specs.declared.shape.ShapeFault.TheVariants.{SelfEdge, Unreachable, IdleRole}
use Rattle.sg_know.specs.Reads.{IsFirstFault}
use Rattle.sg_know.specs.declared.fault.ReadFault.{ReadFault}
use Rattle.sg_know.specs.declared.fault.ReadFault.TheVariants.{NotWriter, ReadsOwn, BadRead, OutOfMemory as ReadMemory}
use Rattle.sg_know.proofs.First.{last_split}
use Rattle.sg_views.specs.Limits.{Explains}
use Rattle.sg_views.specs.declared.open_view.OpenView.{OpenView}
use Rattle.sg_views.specs.declared.fault.ViewFault.{ViewFault}
use Rattle.sg_views.specs.declared.fault.ViewFault.TheVariants.{TooManyOpen, TooManyViews, OutOfMemory as ViewMemory}
use Rattle.sg_compile.specs.Compiled.{IsCompiled, IsRefused}
use Rattle.sg_compile.specs.Refused.{IsRefusal}
use Rattle.sg_compile.specs.declared.check.CompileFault.{CompileFault}
use Rattle.sg_compile.specs.declared.check.CompileFault.TheVariants.{Shape, Reads, Blinding as Blinded, Views, OutOfMemory}
use Rattle.sg_compile.proofs.OneTable.{one_view_table, one_target_table}

-- two programs of one graph for one role are the same
pub one_program : (p q : Program) → IsProgram real p → IsProgram real q → p.graph ≡ q.graph → p.role ≡ q.role → p ≡ q
one_program p q a b g r =
    let digest : p.digest ≡ q.digest = a.digest ∙ ap (graph_digest real) g ∙ sym b.digest in
    let views : p.views ≡ q.views =
    one_view_table q.graph q.role p.views q.views (subst (λ (h : Graph). IsViewTable h q.role p.views) g (subst (λ k. IsViewTable p.graph k p.views) r a.views)) b.views in
    let targets : p.targets ≡ q.targets = one_target_table q.graph p.targets q.targets (subst (λ (h : Graph). IsTargetTable h p.targets) g a.targets) b.targets in
    λ i. record { graph = g i; role = r i; digest = digest i; views = views i; targets = targets i }

-- the program that is compiled is the only one
pub only_compiled : (g : Graph) (r : ℕ) (p q : Program) → IsCompiled g r p → IsCompiled g r q → q ≡ p
only_compiled g r p q c d = one_program q p d.program c.program (d.graph ∙ sym c.graph) (d.role ∙ sym c.role)

-- ---- limits

-- at each number stands an element, past the end the first again
stands_in : {X : Type 0} (x : X) (xs : List X) (i : ℕ) → Contains (x ∷ xs) (get_or (x ∷ xs) i x)
stands_in x xs i =
    elim (cases_lt i (length (x ∷ xs))) [
      | inl l ↦ Contains-get_or (x ∷ xs) i x l
      | inr le ↦ subst (Contains (x ∷ xs)) (sym (get_or_past (x ∷ xs) i x le)) (0, omega arith, refl)
    ]

-- a list of different elements that all stand in another is no longer
no_longer : {X : Type 0} (xs ys : List X) → AllPairs (λ a b. a ≢ b) xs → ((v : X) → Contains xs v → Contains ys v) → length xs ≤ length ys
no_longer [] ys differ each = omega arith
no_longer {X} (x ∷ xs) ys differ each = pigeonhole (length (x ∷ xs)) (length ys) index (λ i l. (found i).1) one
  where
    at : ℕ → X
    at i = get_or (x ∷ xs) i x

    found : (i : ℕ) → Contains ys (at i)
    found i = each (at i) (stands_in x xs i)

    index : ℕ → ℕ
    index i = (found i).0

    there : (i : ℕ) → get_or ys (index i) x ≡ at i
    there i = same_at ys (index i) x (at i) (found i).1 ∙ (found i).2

    one : (i j : ℕ) → i < length (x ∷ xs) → j < length (x ∷ xs) → index i ≡ index j → i ≡ j
    one i j l m e =
        let same : at i ≡ at j = sym (there i) ∙ ap (λ k. get_or ys k x) e ∙ there j in
        elim (cases_order i j) [
          | inl s ↦ s
          | inr d ↦ elim d [ inl less ↦ absurd (differ i j x less m same) | inr more ↦ absurd (differ j i x more l (sym same)) ]
        ]

-- what holds of each element holds of one that stands in the list
of_each : {X : Type 0} (P : X → Type 0) (xs : List X) (v : X) → All P xs → Contains xs v → P v
of_each P xs v all (k, l, e) = subst P e (all k v l)

-- if a program is compiled, the views fail only if memory runs out
pub few_views : (g : Graph) (r : ℕ) (p : Program) → IsCompiled g r p → (f : ViewFault) → Explains g r f → f ≡ ViewMemory
few_views g r p c ViewMemory e = refl
few_views g r p c (TooManyOpen list) e =
    let few = c.few_open in
    let long = no_longer list few.list e.different (λ (o : OpenView) h. few.each o (of_each (λ (o : OpenView). IsOpenView g r o.node o.view) list o e.each h)) in
    absurd (omega (arith, long, few.few, e.many))
few_views g r p c (TooManyViews list) (few, e) =
    let views : IsViewTable g r p.views = subst (λ (h : Graph). IsViewTable h r p.views) c.graph (subst (λ k. IsViewTable p.graph k p.views) c.role c.program.views) in
    let long = no_longer list p.views e.different (λ v h. (views.each v).1 (of_each (IsView g r) list v e.each h)) in
    absurd (omega (arith, long, c.few, e.many))

-- ---- checks

accepted_shape : (g : Graph) → Accepted g → (f : ShapeFault) → IsShapeFault g f → ⊥
accepted_shape g a (SelfEdge e) h = let (l, s) = h.here in a.no_self_edge e l s
accepted_shape g a (Unreachable n) (none, h) = let (l, s) = h.here in s (a.all_reached n l)
accepted_shape g a (IdleRole r) (none, clear, h) = let (l, s) = h.here in s (a.each_role_has_node r l)

accepted_reads : (g : Graph) → Accepted g → (f : ReadFault) → IsFirstFault g f → f ≡ ReadMemory
accepted_reads g a ReadMemory h = refl
accepted_reads g a (NotWriter e x) (here, least) = absurd (true≢false (sym (a.writers_write e x here.0) ∙ here.1))
accepted_reads g a (ReadsOwn e x) (none, (here, least)) = absurd (a.others_read e x here.0 here.1)
accepted_reads g a (BadRead e x walk) (none, own, least, bad) =
    let split = last_split walk e bad.last_edge in
    let known = a.reads_known split.0 e x (subst (λ w. Walk (shape g) 0 w) split.1 bad.from_start) bad.is_read in
    absurd (true≢false (sym known ∙ ap (λ w. knows g (sender (shape g) e) x w) (sym split.1) ∙ bad.unknown))

accepted_blinding : (g : Graph) → Accepted g → (f : BlindFault) → IsBlindFault (shape g) f → ⊥
accepted_blinding g a BlindMemory (index, one, (less, blinds)) = a.sighted index.node index.a index.b blinds
accepted_blinding g a (Blinds node one two walk_a walk_b) h = a.sighted node one two blinds
  where
    blinds : Blinding (shape g) node one two
    blinds = record {
      apart = λ e. omega (arith, h.rising, e);
      not_a = h.not_a;
      not_b = h.not_b;
      to_a = walk_a;
      to_b = walk_b;
      leads_a = h.leads_a;
      leads_b = h.leads_b;
    }

-- an accepted graph isn't refused
pub accepted_not_refused : (g : Graph) → Accepted g → (f : CompileFault) → IsRefusal g f → f ≡ OutOfMemory
accepted_not_refused g a OutOfMemory h = refl
accepted_not_refused g a (Shape f) h = absurd (accepted_shape g a f h)
accepted_not_refused g a (Reads f) (s, h, other) = absurd (other (accepted_reads g a f h))
accepted_not_refused g a (Blinded f) (s, k, h, other) = absurd (accepted_blinding g a f h)
accepted_not_refused g a (Views q f) h = absurd h

-- if a program is compiled, nothing fails unless memory runs out
pub not_refused : (g : Graph) (r : ℕ) (p : Program) → IsCompiled g r p → (f : CompileFault) → IsRefused g r f → f ≡ OutOfMemory
not_refused g r p c f h = by f h
  where
    accepted : Accepted g
    accepted = subst Accepted c.graph c.program.accepted

    by : (f : CompileFault) → IsRefused g r f → f ≡ OutOfMemory
    by OutOfMemory h = refl
    by (Shape f) h = absurd (accepted_shape g accepted f h)
    by (Reads f) (s, h, other) = absurd (other (accepted_reads g accepted f h))
    by (Blinded f) (s, k, h, other) = absurd (accepted_blinding g accepted f h)
    by (Views q f) (a, q', h, other) = absurd (other (few_views g r p c f h))

-- so the compiler's answer is this program, or that memory ran out
pub compiled_or_memory : (g : Graph) (r : ℕ) (p : Program) → IsCompiled g r p → (result : Result Program CompileFault) → IfOk result (IsCompiled g r) → IfErr result (IsRefused g r)
    → IfOk result (λ q. q ≡ p) × IfErr result (λ f. f ≡ OutOfMemory)
compiled_or_memory g r p c (Ok q) ok err = (only_compiled g r p q c ok, tt)
compiled_or_memory g r p c (Err f) ok err = (tt, not_refused g r p c f err)
