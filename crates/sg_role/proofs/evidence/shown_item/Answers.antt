use Rattle.std.proofs.Common.{not, filter, ap, ◌∙◌}
use Rattle.sg_model.specs.Last.{has}
use Rattle.sg_protocol.specs.Frame.{Item}
use Rattle.sg_role.proofs.evidence.shown_item.Goals as goal

pub returns : goal.returns
returns c = c.in_ok-shown.ensures
    ∙ ap (λ ts. record (c.args.item.now) { tags = ts }) (c.in_ok-tags.ensures
    ∙ ap (filter (λ t. not (has (λ (j : Item). j.role) t.0 c.args.later.now))) (c.as_slice.ensures ∙ ap (λ (i : Item). i.tags) c.item.view_is))
