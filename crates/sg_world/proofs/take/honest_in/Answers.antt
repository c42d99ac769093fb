use Rattle.std.proofs.Common.{Option, IfSome, sym, ◌∙◌, ap, subst}
use Rattle.sg_certify.specs.Adding.{AreHonestIn}
use Rattle.sg_protocol.specs.Frame.{Cast}
use Rattle.sg_sched.specs.Format.StepsHeld.{step_of}
use Rattle.sg_sched.specs.declared.step.Step.{Step}
use Rattle.sg_world.specs.Indices.{names_of}
use Rattle.sg_world.specs.RecordModel.{IsHonestIn, StepResult}
use Rattle.sg_world.proofs.Called.{begun_other}
use Rattle.sg_world.proofs.take.honest_in.Goals as goal

pub returns-in-Start : goal.returns-in-Start
returns-in-Start c =
    let names = names_of c.args.nodes.now.entries in
    subst (λ (x : Step). IsHonestIn c.args.setting.now.sessions names (step_of x) c.args.step_result.now.cast c.honest_roles.result) (sym c.in-Start.is)
    (subst (λ (o : Option Cast). IfSome o (λ d. AreHonestIn names d c.honest_roles.result)) (sym c.cast.ensures) c.honest_roles.ensures)

pub returns-in-Some : goal.returns-in-Some
returns-in-Some c =
    let names = names_of c.args.nodes.now.entries in
    let joined = sym (ap (λ (z : StepResult). z.cast) c.step_result.view_is) ∙ c.in-Some.is in
    subst (λ (o : Option Cast). IfSome o (λ d. AreHonestIn names d c.honest_roles-in-Some.result))
    (sym (begun_other c.args.setting.now.sessions c.args.step.now c.args.step_result.now.cast c.in_default.not-Start ∙ joined))
    (subst (λ (d : Cast). AreHonestIn names d c.honest_roles-in-Some.result) c.get.ensures c.honest_roles-in-Some.ensures)

pub returns-in-None : goal.returns-in-None
returns-in-None c =
    let names = names_of c.args.nodes.now.entries in
    let joined = sym (ap (λ (z : StepResult). z.cast) c.step_result.view_is) ∙ c.in-None.is in
    subst (λ (o : Option Cast). IfSome o (λ d. AreHonestIn names d c.empty.result))
    (sym (begun_other c.args.setting.now.sessions c.args.step.now c.args.step_result.now.cast c.in_default.not-Start ∙ joined)) tt
