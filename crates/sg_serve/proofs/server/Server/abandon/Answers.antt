use Rattle.std.proofs.Common.{◌∙◌, sym}
use Rattle.sg_serve.proofs.Calling.{abandoned}
use Rattle.sg_serve.proofs.server.Server.abandon.Goals as goal

pub returns-clause-replied : goal.returns-clause-replied
returns-clause-replied c =
    let asked = c.ask_abandon-outcome in
    abandoned c.args.self.now c.report-reply.new.self asked.new.self c.args.number c.in-Some.sid asked.result c.report-reply.result (λ p h. sym c.in-Some.is ∙ c.sid.ensures p h) asked.ensures.asked c.report-reply.ensures.replied
