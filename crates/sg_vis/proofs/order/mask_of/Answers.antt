use Rattle.std.proofs.Common.{◌∙◌, ap, sym}
use Rattle.sg_base.specs.SetsBack.{mask_of-variables}
use Rattle.sg_base.specs.declared.sets.VarSet.TheInside.{Inside}
use Rattle.sg_protocol.specs.Evidence.{mask}
use Rattle.sg_vis.proofs.order.mask_of.Goals as goal

pub returns-clause-mask : goal.returns-clause-mask
returns-clause-mask c = sym (ap (λ (s : Inside). s.0) (mask_of-variables c.vars.inside c.vars.invariant)) ∙ ap mask c.vars.view_is
