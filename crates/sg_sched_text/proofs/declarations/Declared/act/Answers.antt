use Rattle.std.proofs.Common.{◌∙◌, subst, not}
use Rattle.sg_sched_text.specs.Adding.{Added, add_step}
use Rattle.sg_sched_text.specs.TakingLines.{Takes}
use Rattle.sg_sched_text.proofs.AddingLaws.{act_added}
use Rattle.sg_sched_text.proofs.declarations.Declared.act.Goals as goal

pub returns : goal.returns
returns c =
    let past = c.args.self.now in
    subst (λ (a : Added). Takes a c.add_step.new.self c.add_step.result)
    ((λ i. add_step past (not (c.in_ok-repeated.ensures i)) (c.is_honest-honest.ensures.honest i) (c.in_ok-step.ensures i))
    ∙ act_added past c.is_honest-honest.ensures.group c.args.who c.args.session.now c.args.label.now c.args.values.now)
    c.add_step.ensures.takes
