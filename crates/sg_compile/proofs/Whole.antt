-- Graphs have programs for all their roles, or one of them is refused.
use Rattle.std.proofs.Common.{◌≡◌, ◌≢◌, ℕ, zero, suc, ◌<◌, ◌≤◌, ◌⊎◌, inl, inr, List, [], ◌∷◌, ◌++◌, length, take, get_or, Some, slice_get, refl, sym, ap, ◌∙◌, subst, arith, add-one, append-nil, append_assoc, All}
use Rattle.std.proofs.lemmas.List.{take_all}
use Rattle.std.proofs.lemmas.List.Elements.{All-nil}
use Rattle.sg_base.specs.Sets.{with_member}
use Rattle.sg_model.specs.Limits.{most_views}
use Rattle.sg_graph.proofs.Sets.{AreNumbers-none, AreNumbers-with_member}
use Rattle.sg_plan.proofs.Aimed.{AreSetsBelow, IsSetBelow, set_with, set_without, sets_with, whole_table}
use Rattle.sg_protocol.specs.Accepted.{Accepted}
use Rattle.sg_protocol.specs.Evidence.{View, IsViewTable}
use Rattle.sg_protocol.specs.Graph.{AreNumbers, Graph, IsGraph, shape}
use Rattle.sg_protocol.specs.IsSchedule.{parts}
use Rattle.sg_protocol.specs.Keyring.{Program}
use Rattle.sg_protocol.specs.Targets.{IsTarget, IsTargetTable}
use Rattle.sg_protocol.specs.Texts.{graph_digest, real}
use Rattle.sg_views.specs.Limits.{FewOpen}
use Rattle.sg_views.specs.declared.fault.ViewFault.TheVariants.{TooManyOpen, TooManyViews}
use Rattle.sg_compile.specs.All.{IsAllFault, IsStopped, pairs_of, roles_of}
use Rattle.sg_compile.specs.Compiled.{IsCompiled, IsRefused, IsWhole}
use Rattle.sg_compile.specs.Laws.{AllAreCompiledOrRefused, RolesAreCompiledOrRefused, Surely}
use Rattle.sg_compile.specs.Refused.{IsRefusal}
use Rattle.sg_compile.specs.declared.all.AllFault.TheVariants.{Refused}
use Rattle.sg_compile.specs.declared.check.CompileFault.{CompileFault}
use Rattle.sg_compile.specs.declared.check.CompileFault.TheVariants.{Shape, Reads, Blinding, Views, OutOfMemory}
use Rattle.sg_compile.proofs.Adding.{each_more, pairs_more}
use Rattle.sg_compile.proofs.Compiling.{program_from}
use Rattle.sg_compile.proofs.Decided.{accepted_or_refused}
use Rattle.sg_compile.proofs.Listed.{open_views, table_or_many}
use Rattle.sg_compile.proofs.Sure.{or_not, so, sure}

-- ---- targets

module _ (g : Graph) (is : IsGraph g) where
  set_below : (e k : ℕ) → k ≤ length g.roles → Surely ((set : List ℕ) × AreNumbers (length g.roles) set × IsSetBelow g e k set)
  set_below e zero l = sure ([], AreNumbers-none (length g.roles), record { below = λ t m. absurd (omega (arith, m)); above = λ t m n. refl })
  set_below e (suc k) l =
      let small : k < 16 = (let m = is.sizes.0 in omega (arith, l, m)) in
      so (set_below e k (omega (arith, l)))
      (λ a. so (or_not (IsTarget (shape g) e k))
      (λ b. elim b [
        | inl aimed ↦
            sure (with_member 16 a.0 k, AreNumbers-with_member 16 (length g.roles) k a.0 a.1 (omega (arith, l)), subst (λ n. IsSetBelow g e n (with_member 16 a.0 k)) (add-one k) (set_with g e k a.0 small a.2 aimed))
        | inr missed ↦ sure (a.0, a.1, subst (λ n. IsSetBelow g e n a.0) (add-one k) (set_without g e k a.0 small a.2 missed))
      ]))

  sets_below : (n : ℕ) → Surely ((sets : List (List ℕ)) × AreSetsBelow g n sets)
  sets_below zero = sure ([], record { size = refl; rising = λ e l. absurd (omega (arith, l)); each = λ e t l m. absurd (omega (arith, l)) })
  sets_below (suc n) =
      so (sets_below n)
      (λ a. so (set_below n (length g.roles) (omega arith))
      (λ b. sure (a.0 ++ b.0 ∷ [], subst (λ m. AreSetsBelow g m (a.0 ++ b.0 ∷ [])) (add-one n) (sets_with g n a.0 (a.0 ++ b.0 ∷ []) b.0 refl a.1 b.1 b.2.below))))

  targets : Surely ((table : List (List ℕ)) × IsTargetTable g table)
  targets = so (sets_below (length g.edges)) (λ a. sure (a.0, whole_table g (length g.edges) a.0 refl a.1))

  -- ---- a role of an accepted graph

  module _ (accepted : Accepted g) (r : ℕ) (there : r < length g.roles) where
    compiled : FewOpen g r → (vs : List View) → length vs ≤ most_views → IsViewTable g r vs → (ts : List (List ℕ)) → IsTargetTable g ts → (p : Program) × IsCompiled g r p
    compiled few vs short views ts aims = (
      record { graph = g; role = r; digest = graph_digest real g; views = vs; targets = ts },
      record { program = program_from g g r (graph_digest real g) vs ts refl is accepted there refl views aims; graph = refl; role = refl; few = short; few_open = few },
    )

    with_few : FewOpen g r → Surely (((p : Program) × IsCompiled g r p) ⊎ ((f : CompileFault) × IsRefused g r f × (f ≢ OutOfMemory)))
    with_few few =
        so (table_or_many g r)
        (λ a. elim a [
          | inl t ↦ so targets (λ b. sure (inl (compiled few t.0 t.1 t.2 b.0 b.1)))
          | inr m ↦ sure (inr (Views r (TooManyViews m.0), (accepted, refl, (few, m.1), λ e. cc), λ e. cc))
        ])

    accepted_role : Surely (((p : Program) × IsCompiled g r p) ⊎ ((f : CompileFault) × IsRefused g r f × (f ≢ OutOfMemory)))
    accepted_role =
        so (open_views g r)
        (λ a. elim a [
          | inl few ↦ with_few few
          | inr m ↦ sure (inr (Views r (TooManyOpen m.0), (accepted, refl, m.1, λ e. cc), λ e. cc))
        ])

-- the refusal of a graph is one for each of its roles
of_each : (g : Graph) (r : ℕ) (f : CompileFault) → IsRefusal g f → IsRefused g r f
of_each g r (Shape f) h = h
of_each g r (Reads f) h = h
of_each g r (Blinding f) h = h
of_each g r (Views q f) h = absurd h
of_each g r OutOfMemory h = tt

pub role_or_refused : RolesAreCompiledOrRefused
role_or_refused g r is two there =
    so (accepted_or_refused g two)
    (λ a. elim a [
      | inl accepted ↦ accepted_role g is accepted r there
      | inr f ↦ sure (inr (f.0, of_each g r f.0 f.1, f.2))
    ])

-- ---- all roles of a graph, behind other programs

module _ (before : List Program) (whole : All IsWhole before) (g : Graph) (is : IsGraph g) (two : 2 ≤ length g.roles) where
  roles_below : (k : ℕ) → k ≤ length g.roles
      → Surely (((ps : List Program) × All IsWhole ps × (pairs_of ps ≡ pairs_of before ++ roles_of g k)) ⊎ ((f : CompileFault) × IsStopped (pairs_of before) g f))
  roles_below zero l = sure (inl (before, whole, sym (append-nil (pairs_of before))))
  roles_below (suc k) l =
      so (roles_below k (omega (arith, l)))
      (λ a. elim a [
        | inr s ↦ sure (inr s)
        | inl w ↦
            so (role_or_refused g k is two (omega (arith, l)))
            (λ b. elim b [
              | inl p ↦
                  sure (inl (
                    w.0 ++ p.0 ∷ [],
                    each_more w.0 (w.0 ++ p.0 ∷ []) p.0 g k refl w.1 p.1,
                    subst (λ n. pairs_of (w.0 ++ p.0 ∷ []) ≡ pairs_of before ++ roles_of g n) (add-one k) (pairs_more w.0 (w.0 ++ p.0 ∷ []) p.0 (pairs_of before) g k refl w.2 p.1),
                  ))
              | inr f ↦ sure (inr (f.0, record { role = k; there = omega (arith, l); programs = w.0; each = w.1; earlier = w.2; refused = f.1; memory = f.2 }))
            ])
      ])

-- ---- all graphs

-- the element at an index of a list, and the list up to it
element : {A : Type 0} (xs : List A) (k : ℕ) → k < length xs → (x : A) × (slice_get xs k ≡ Some x) × (get_or xs k x ≡ x) × (take (suc k) xs ≡ take k xs ++ x ∷ [])
element [] k l = absurd (omega (arith, l))
element (x ∷ xs) zero l = (x, refl, refl, refl)
element (x ∷ xs) (suc k) l = let more = element xs k (omega (arith, l)) in (more.0, more.1, more.2, ap (λ ys. x ∷ ys) more.3)

parts_more : (gs : List Graph) (g : Graph) → parts (gs ++ g ∷ []) ≡ parts gs ++ roles_of g (length g.roles)
parts_more [] g = append-nil (roles_of g (length g.roles))
parts_more (h ∷ hs) g = ap (λ ps. roles_of h (length h.roles) ++ ps) (parts_more hs g) ∙ sym (append_assoc (roles_of h (length h.roles)) (parts hs) (roles_of g (length g.roles)))

module _ (graphs : List Graph) (are : All (λ (g : Graph). IsGraph g × (2 ≤ length g.roles)) graphs) where
  graphs_below : (k : ℕ) → k ≤ length graphs
      → Surely (((ps : List Program) × All IsWhole ps × (pairs_of ps ≡ parts (take k graphs))) ⊎ ((index : ℕ) × (f : CompileFault) × IsAllFault graphs (Refused index f)))
  graphs_below zero l = sure (inl ([], All-nil IsWhole, refl))
  graphs_below (suc k) l =
      let at = element graphs k (omega (arith, l)) in
      let is : IsGraph at.0 × (2 ≤ length (at.0).roles) = subst (λ (g : Graph). IsGraph g × (2 ≤ length g.roles)) at.2 (are k at.0 (omega (arith, l))) in
      so (graphs_below k (omega (arith, l)))
      (λ a. elim a [
        | inr f ↦ sure (inr f)
        | inl w ↦
            so (roles_below w.0 w.1 at.0 is.0 is.1 (length (at.0).roles) (omega arith))
            (λ b. elim b [
              | inl v ↦
                  sure (inl (v.0, v.1, v.2 ∙ ap (λ ps. ps ++ roles_of at.0 (length (at.0).roles)) w.2 ∙ sym (parts_more (take k graphs) at.0) ∙ ap parts (sym at.3)))
              | inr s ↦ sure (inr (k, s.0, (at.0, at.1, subst (λ ps. IsStopped ps at.0 s.0) w.2 s.1)))
            ])
      ])

pub all_or_one_refused : AllAreCompiledOrRefused
all_or_one_refused graphs are =
    so (graphs_below graphs are (length graphs) (omega arith))
    (λ a. elim a [
      | inl w ↦ sure (inl (w.0, record { each = λ k d l. (w.1 k d l).program; all = w.2 ∙ ap parts (take_all (length graphs) graphs (omega arith)) }, w.1))
      | inr f ↦ sure (inr f)
    ])
