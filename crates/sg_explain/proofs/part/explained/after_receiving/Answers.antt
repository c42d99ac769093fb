use Rattle.std.proofs.Common.{map}
use Rattle.sg_protocol.specs.Walk.{Receives}
use Rattle.sg_explain.specs.Matching.{kept}
use Rattle.sg_walk.specs.Model.{step_of}
use Rattle.sg_explain.proofs.Explained.{takes_other}
use Rattle.sg_explain.proofs.part.explained.after_receiving.Goals as goal

pub returns-else-is_receipt : goal.returns-else-is_receipt
returns-else-is_receipt c =
    takes_other c.args.events.now c.args.from c.in-Some.at c.index-events-at.result c.args.counts
    (Receives c.args.receipt.role c.args.receipt.label (kept (map step_of c.args.steps.now) c.args.indices.now c.args.receipt.reads))
    c.if-not-counts.false c.index-events-at.is c.in-Some.ensures (λ e. let t = c.is_receipt.ensures.1 e in absurd (cc))
