use Rattle.std.proofs.Common.{◌∙◌, subst, false, Some}
use Rattle.sg_protocol.specs.Schedule.{DeliverStep}
use Rattle.sg_sched.specs.Format.Model.{delivered}
use Rattle.sg_sched_text.specs.Adding.{Added, add_step}
use Rattle.sg_sched_text.specs.TakingLines.{Takes}
use Rattle.sg_sched_text.proofs.AddingLaws.{deliver_added}
use Rattle.sg_sched_text.proofs.declarations.Declared.deliver.Goals as goal

pub returns-clause-takes : goal.returns-clause-takes
returns-clause-takes c =
    let past = c.args.self.now in
    subst (λ (a : Added). Takes a c.add_step.new.self c.add_step.result)
    ((λ i. add_step past false (c.is_honest-honest.ensures.honest i) (Some (DeliverStep c.args.who (c.in_ok-what.ensures.made i)))) ∙ deliver_added past c.is_honest-honest.ensures.group c.args.who (delivered c.args.what.now))
    c.add_step.ensures.takes
