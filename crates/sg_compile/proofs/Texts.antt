-- A text is that of a program, or it has a fault.
use Rattle.std.proofs.Common.{◌≡◌, ◌≢◌, ℕ, ◌+◌, ◌⊎◌, inl, inr, true, List, ◌++◌, length, refl, sym, ap, ◌∙◌, subst}
use Rattle.std.specs.Prelude.{bytes_eq}
use Rattle.std.proofs.lemmas.Bool.{cases_Bool}
use Rattle.std.proofs.lemmas.Slice.Eq.{bytes_eq-Decides}
use Rattle.sg_model.proofs.Small.{same_or_not}
use Rattle.sg_protocol.specs.Graph.{Graph, Name}
use Rattle.sg_protocol.specs.Keyring.{Program}
use Rattle.sg_compile.specs.Compiled.{IsCompiled, IsWhole}
use Rattle.sg_compile.specs.Laws.{Surely, TextsAreReadOrRefused}
use Rattle.sg_compile.specs.Loading.{HasGraph, HasPrefix, HasRole, HasStart, IsLoadFault, NoStart, NoRole, NoGraph, OtherStart, first_wrong}
use Rattle.sg_compile.specs.Text.{prefix, program_text, table_text, version}
use Rattle.sg_compile.specs.declared.loader.LoadFault.{LoadFault}
use Rattle.sg_compile.specs.declared.loader.LoadFault.TheVariants.{Graph as GraphFault, Malformed, NotTheTable, OutOfMemory as LoadMemory}
use Rattle.sg_compile.proofs.Behind.{compiled_own, prefix_of}
use Rattle.sg_compile.proofs.Sure.{or_not, so, sure}
use Rattle.sg_compile.proofs.Whole.{role_or_refused}

-- ---- the parts of a text

abbrev ReadOrRefused : List ℕ → Type 0
ReadOrRefused bs = ((p : Program) × IsWhole p × (program_text p ≡ bs)) ⊎ ((f : LoadFault) × IsLoadFault bs f × (f ≢ LoadMemory))

module _ (bs : List ℕ) (v r : ℕ) (n : Name) (g : Graph) (rest more ls : List ℕ) (start : HasStart bs v rest) (role : HasRole rest n more) (graph : HasGraph more n g r ls) (same : v ≡ version g) where
  there : HasPrefix bs g r ls
  there = prefix_of bs v n rest more ls g r start role graph same

  compiled_text : (p : Program) → IsCompiled g r p → ReadOrRefused bs
  compiled_text p c =
      let own : IsWhole p = compiled_own g r p c in
      let front : prefix g r ≡ prefix p.graph p.role = (λ i. prefix (sym c.graph i) (sym c.role i)) in
      let text : bs ≡ prefix p.graph p.role ++ ls = there.spelled ∙ ap (λ xs. xs ++ ls) front in
      let here : HasPrefix bs p.graph p.role ls = subst (λ k. HasPrefix bs p.graph k ls) (sym c.role) (subst (λ (h : Graph). HasPrefix bs h r ls) (sym c.graph) there) in
      elim (cases_Bool (bytes_eq ls (table_text p))) [
        | inl y ↦ inl (p, own, ap (λ xs. prefix p.graph p.role ++ xs) (sym ((bytes_eq-Decides ls (table_text p)).0 y)) ∙ sym text)
        | inr z ↦
            inr (NotTheTable (first_wrong (table_text p) ls), (p, ls, here, own, (λ e. let yes : bytes_eq ls (table_text p) ≡ true = (bytes_eq-Decides ls (table_text p)).1 e in cc), refl), λ e. cc)
      ]

  text_of_graph : Surely (ReadOrRefused bs)
  text_of_graph =
      so (role_or_refused g r graph.is_graph graph.two_roles graph.there)
      (λ a. elim a [
        | inl p ↦ sure (compiled_text p.0 p.1)
        | inr f ↦ sure (inr (GraphFault g f.0, (r, ls, there, f.1, f.2), λ e. cc))
      ])

pub text_or_refused : TextsAreReadOrRefused
text_or_refused bs =
    so (or_not ((v : ℕ) × (rest : List ℕ) × HasStart bs v rest))
    (λ a. elim a [
      | inr none ↦ sure (inr (Malformed 0, NoStart (λ v rest h. none (v, rest, h)), λ e. cc))
      | inl s ↦
          so (or_not ((n : Name) × (more : List ℕ) × HasRole s.1 n more))
          (λ b. elim b [
            | inr none ↦ sure (inr (Malformed 13, NoRole s.2 (λ n more h. none (n, more, h)), λ e. cc))
            | inl r ↦
                so (or_not ((g : Graph) × (q : ℕ) × (ls : List ℕ) × HasGraph r.1 r.0 g q ls))
                (λ c. elim c [
                  | inr none ↦ sure (inr (Malformed (19 + length r.0), NoGraph s.2 r.2 (λ g q ls h. none (g, q, ls, h)), λ e. cc))
                  | inl g ↦
                      elim (same_or_not s.0 (version g.0)) [
                        | inl same ↦ text_of_graph bs s.0 g.1 r.0 g.0 s.1 r.1 g.2 s.2 r.2 g.3 same
                        | inr other ↦ sure (inr (Malformed 11, OtherStart s.2 r.2 g.3 other, λ e. cc))
                      ]
                ])
          ])
    ])
