use Rattle.std.proofs.Common.{◌∙◌, sym, ap}
use Rattle.sg_audit.specs.LineContents.{differ}
use Rattle.sg_audit.proofs.Orders.{vars, writes_vars}
use Rattle.sg_audit.proofs.order.writes_differ.Goals as goal

pub returns : goal.returns
returns c = c.differ.ensures ∙ ap (λ ps. differ (vars ps)) c.as_slice.ensures ∙ ap differ (sym (writes_vars c.args.given.now.pairs))
