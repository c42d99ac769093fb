use Rattle.sg_plan.proofs.Aimed.{AreSetsBelow}
use Rattle.sg_plan.proofs.plan.targets.Given as goal

abbrev pub invariant-loop-number : goal.invariant-loop-number
invariant-loop-number l = AreSetsBelow l.graph l.number l.sets.items
