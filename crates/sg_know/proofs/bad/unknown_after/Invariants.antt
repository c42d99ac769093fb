use Rattle.std.proofs.Common.{◌≡◌, ◌<◌, ℕ, get_or}
use Rattle.sg_know.specs.declared.states.Mark.TheVariants.{Known}
use Rattle.sg_know.specs.States.{IsUnknownAfter, state_at}
use Rattle.sg_know.proofs.bad.unknown_after.Given as goal

abbrev pub invariant-loop-mark : goal.invariant-loop-mark
invariant-loop-mark l = (j i : ℕ) → j < l.mark-index → IsUnknownAfter l.graph l.role l.var l.states l.label i → (state_at l.states i).mark ≡ get_or l.mark-items j Known → ⊥
