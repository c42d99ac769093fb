use Rattle.std.proofs.Common.{◌≡◌, ◌++◌, ◌∷◌, take, ℕ}
use Rattle.std.specs.Prelude.{flat_map}
use Rattle.sg_answers.specs.Answers.{label_text}
use Rattle.sg_answers.proofs.turn.put_labels.Given as goal

abbrev pub invariant-loop-label : goal.invariant-loop-label
invariant-loop-label l = l.out ≡ l.initial.out ++ flat_map (λ (e : ℕ). 32 ∷ label_text l.graph e) (take l.label-index l.labels)
