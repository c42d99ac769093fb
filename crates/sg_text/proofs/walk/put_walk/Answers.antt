use Rattle.std.proofs.Common.{sym, subst, All, List}
use Rattle.sg_walk.specs.declared.stored.StoredStep.{StoredStep}
use Rattle.sg_text.proofs.Numbers.{HasStep, has_steps}
use Rattle.sg_text.proofs.walk.put_walk.Goals as goal

pub put_steps-requires : goal.put_steps-requires
put_steps-requires c = subst (λ (ss : List StoredStep). All (HasStep c.args.graph.now) ss) (sym c.as_slice.ensures) (has_steps c.args.graph.now c.args.walk.now.steps c.requires)
