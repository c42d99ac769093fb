use Rattle.std.proofs.Common.{◌∙◌, ap}
use Rattle.sg_base.specs.Sets.{members}
use Rattle.sg_views.specs.Steps.{joined}
use Rattle.sg_views.proofs.Unions.{members-or}
use Rattle.sg_views.proofs.step.joined.Goals as goal

pub returns : goal.returns
returns c =
    members-or c.one.inside.0 c.two.inside.0
    ∙ ap (λ s. joined s (members 32 c.two.inside.0)) c.one.view_is
    ∙ ap (joined c.args.one) c.two.view_is
