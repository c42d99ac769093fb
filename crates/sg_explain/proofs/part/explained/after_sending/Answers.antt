use Rattle.sg_protocol.specs.Walk.{Sends}
use Rattle.sg_walk.specs.Model.{writes_of}
use Rattle.sg_explain.proofs.Explained.{takes_other}
use Rattle.sg_explain.proofs.part.explained.after_sending.Goals as goal

pub returns-else-is_sending : goal.returns-else-is_sending
returns-else-is_sending c =
    takes_other c.args.events.now c.args.from c.in-Some.at c.index-events-at.result c.args.honest (Sends c.args.role c.args.step.now.label (writes_of c.args.step.now.writes))
    c.if-not-honest.false c.index-events-at.is c.in-Some.ensures (λ e. let t = c.is_sending.ensures.1 e in absurd (cc))
