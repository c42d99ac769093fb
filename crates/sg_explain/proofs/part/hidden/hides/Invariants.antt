use Rattle.sg_model.specs.Lists.{is_in}
use Rattle.sg_explain.proofs.Concealed.{Hiding}
use Rattle.sg_explain.proofs.part.hidden.hides.Given as goal

abbrev pub decreases-loop-left : goal.decreases-loop-left
decreases-loop-left l = l.left

abbrev pub invariant-loop-left : goal.invariant-loop-left
invariant-loop-left l = Hiding l.graph (λ r. is_in r l.honest) l.taken l.steps l.left l.carried
