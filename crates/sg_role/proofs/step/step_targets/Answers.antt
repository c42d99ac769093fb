use Rattle.std.proofs.Common.{◌≡◌, ◌<◌, [], filter, get_or, length, sym, ap, ◌∙◌, subst}
use Rattle.std.specs.List.{AllByRecursion}
use Rattle.sg_model.specs.Lists.{is_in, below}
use Rattle.sg_protocol.specs.Keyring.{targets_of}
use Rattle.sg_role.proofs.Listed.{targets_listed, targets_there}
use Rattle.sg_role.proofs.step.step_targets.Goals as goal

pub returns-clause-value : goal.returns-clause-value
returns-clause-value c = c.in_ok-targets.ensures ∙ ap (λ s. filter (λ x. is_in x s) (below 16)) (c.of.ensures ∙ ap (λ ts. get_or ts c.args.label []) c.targets.ensures.targets) ∙ targets_listed c.args.kept.now.program.now c.targets.ensures.program c.args.label

pub returns-clause-there : goal.returns-clause-there
returns-clause-there c =
    let p = c.args.kept.now.program.now in
    let same : c.in_ok-targets.targets.items ≡ targets_of p c.args.label = c.in_ok-targets.ensures ∙ ap (λ s. filter (λ x. is_in x s) (below 16)) (c.of.ensures ∙ ap (λ ts. get_or ts c.args.label []) c.targets.ensures.targets) ∙ targets_listed p c.targets.ensures.program c.args.label in
    subst (AllByRecursion (λ t. t < length p.graph.roles)) (sym same) (targets_there p c.targets.ensures.program c.args.label)
