use Rattle.std.proofs.Common.{◌∙◌, sym, ap}
use Rattle.sg_model.specs.Lists.{rises_from}
use Rattle.sg_audit.proofs.Orders.{vars, values_vars}
use Rattle.sg_audit.proofs.order.values_rise.Goals as goal

pub returns : goal.returns
returns c = c.rises.ensures ∙ ap (λ ps. (rises_from 0) (vars ps)) c.as_slice.ensures ∙ ap (rises_from 0) (sym (values_vars c.args.given.now.pairs))
