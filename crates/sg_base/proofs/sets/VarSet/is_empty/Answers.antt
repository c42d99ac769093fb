use Rattle.std.proofs.Common.{ap}
use Rattle.sg_base.specs.SetsBack.{mask_of-variables}
use Rattle.sg_base.specs.declared.sets.VarSet.TheInside.{Inside}
use Rattle.sg_base.proofs.SetLaws.{members-none}
use Rattle.sg_base.proofs.sets.VarSet.is_empty.Goals as goal

pub returns : goal.returns
returns c = members-none 32 c.self.inside.0 c.args.self.now c.self.view_is (ap (λ (s : Inside). s.0) (mask_of-variables c.self.inside c.self.invariant))
