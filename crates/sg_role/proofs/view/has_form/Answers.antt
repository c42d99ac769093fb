use Rattle.std.proofs.Common.{◌<◌, ◌∙◌, sym, ap, subst, length, All}
use Rattle.sg_model.specs.Lists.{keys_of}
use Rattle.sg_protocol.specs.Frame.{Item, Frame}
use Rattle.sg_protocol.specs.Graph.{AreNumbers}
use Rattle.sg_role.proofs.Spelled.{tags_rise, last_all}
use Rattle.sg_role.proofs.view.has_form.Goals as goal

pub has_right_tags-tags-requires-clause-tags : goal.has_right_tags-tags-requires-clause-tags
has_right_tags-tags-requires-clause-tags c =
    subst (All (λ (i : Item). AreNumbers 16 (keys_of i.tags) × (i.role < 16))) (sym (c.as_slice-items.ensures ∙ ap (λ (f : Frame). f.items) c.frame.view_is)) (tags_rise c.args.frame.now c.requires.spelled)

pub opens_all-openings-requires-clause-label : goal.opens_all-openings-requires-clause-label
opens_all-openings-requires-clause-label c =
    let labels = subst (All (λ (i : Item). i.label < length c.args.program.now.graph.edges)) (sym (c.as_slice-items.ensures ∙ ap (λ (f : Frame). f.items) c.frame.view_is)) c.requires.labels in
    subst (λ n. n < length c.args.program.now.graph.edges) (sym (ap (λ (i : Item). i.label) c.item.view_is)) (last_all (λ (i : Item). i.label < length c.args.program.now.graph.edges) c.as_slice-items.result.now c.in-Some.item.now labels c.in-Some.ensures)
