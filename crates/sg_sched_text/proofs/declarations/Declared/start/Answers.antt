use Rattle.std.proofs.Common.{◌∙◌, subst, false}
use Rattle.sg_sched_text.specs.Adding.{Added, add_step}
use Rattle.sg_sched_text.specs.TakingLines.{Takes}
use Rattle.sg_sched_text.proofs.AddingLaws.{start_added}
use Rattle.sg_sched_text.proofs.declarations.Declared.start.Goals as goal

pub returns-clause-takes : goal.returns-clause-takes
returns-clause-takes c =
    let past = c.args.self.now in
    subst (λ (a : Added). Takes a c.add_step.new.self c.add_step.result)
    ((λ i. add_step past false (c.is_honest-honest.ensures.honest i) (c.start_step-step.ensures i)) ∙ start_added past c.is_honest-honest.ensures.group c.args.who c.args.session.now)
    c.add_step.ensures.takes
