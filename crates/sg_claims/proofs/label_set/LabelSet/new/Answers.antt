use Rattle.std.proofs.Common.{false, replicate, sym, subst}
use Rattle.sg_claims.specs.Invariant.{HoldsLabels}
use Rattle.sg_claims.proofs.Labelled.{empty_holds}
use Rattle.sg_claims.proofs.label_set.LabelSet.new.Goals as goal

pub invariant_of-result : goal.invariant_of-result
invariant_of-result c = subst (λ labels. HoldsLabels labels (replicate 512 false)) (sym c.new.ensures.items) empty_holds
