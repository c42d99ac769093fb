use Rattle.std.proofs.Common.{◌∙◌, length, sym}
use Rattle.std.proofs.lemmas.List.{length-map}
use Rattle.sg_walk.specs.Model.{values_of}
use Rattle.sg_serve.proofs.Calling.{acted}
use Rattle.sg_serve.proofs.server.Server.act_with.Goals as goal

pub returns-in-Ok-ask_act-clause-replied : goal.returns-in-Ok-ask_act-clause-replied
returns-in-Ok-ask_act-clause-replied g c =
    let came = c.in-Ok-ask_act in
    let vs = c.args.values.now in
    acted c.args.self.now c.report-reply.new.self c.ask_act.new.self (g.R.Fresh.random c.args.fresh.now) c.args.sid c.args.label (length vs) (values_of vs) c.as_slice.result.now came.outcome came.frame c.report-reply.result
    (sym (length-map vs _)) (λ all e. c.as_slice.ensures.value ∙ c.in-Ok.ensures.confounders all e) came.ensures.asked came.ensures.frame c.report-reply.ensures.replied
