use Rattle.std.proofs.Common.{◌≡◌, ℕ, List, [], ◌∷◌, ◌++◌, sym, ◌∙◌, ap, subst, arith, append_assoc}
use Rattle.std.specs.Prelude.{reverse}
use Rattle.std.proofs.lemmas.List.{reverse-append}
use Rattle.sg_know.specs.States.{IsPath}
use Rattle.sg_know.specs.States.IsPath.{Begins, Goes}
use Rattle.sg_know.proofs.states.States.path.Goals as goal

pub loop-step-preserved : goal.loop-step-preserved
loop-step-preserved c =
    let states = c.args.self.now in
    let label = c.in-Some.step.label in
    let labels = c.loop-step.labels.items in
    let held = c.loop-step.invariant in
    record {
      within = omega (arith, held.within, c.in-Some.ensures.earlier);
      joins = λ before p.
          (let turned : reverse c.push.new.self.items ≡ label ∷ reverse labels = ap reverse c.in_ok-push.ensures.items ∙ reverse-append labels (label ∷ []) in
          let joined : (before ++ label ∷ []) ++ reverse labels ≡ before ++ reverse c.push.new.self.items = append_assoc before (label ∷ []) (reverse labels) ∙ ap (λ (l : List ℕ). before ++ l) (sym turned) in
          subst (IsPath states c.args.index) joined (held.joins (before ++ label ∷ []) (Goes (sym c.step.ensures.step ∙ c.in-Some.is) p)));
    }

pub returns : goal.returns
returns c = rw (c.reverse.ensures.items) (c.loop-step.invariant.joins [] (Begins (sym c.step.ensures.step ∙ c.in_default.is)))
