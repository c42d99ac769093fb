use Rattle.std.proofs.Common.{◌<◌, ◌++◌, length, map, sym, ap, subst, ◌∙◌}
use Rattle.std.specs.List.{AllByRecursion}
use Rattle.sg_protocol.specs.Notes.{note_of}
use Rattle.sg_protocol.specs.Sending.{tag_for}
use Rattle.sg_protocol.specs.Session.{principal}
use Rattle.sg_protocol.specs.Texts.{real}
use Rattle.sg_role.specs.Model.{state_of}
use Rattle.sg_role.specs.Stepping.{own_text}
use Rattle.sg_role.proofs.Walked.{extends_same}
use Rattle.sg_role.proofs.step.step_tags.Goals as goal

pub returns-in_err-targets-clause-keeps : goal.returns-in_err-targets-clause-keeps
returns-in_err-targets-clause-keeps c = extends_same c.args.notes.now

pub tags_for-requires-clause-targets : goal.tags_for-requires-clause-targets
tags_for-requires-clause-targets c =
    subst (AllByRecursion (λ t. t < length c.args.kept.now.cast.names)) (sym c.as_slice.ensures.value)
    (subst (λ n. AllByRecursion (λ t. t < n) c.in_ok-targets.targets.items) (sym c.requires.counted) c.in_ok-targets.ensures.there)

pub returns-clause-value : goal.returns-clause-value
returns-clause-value c =
    let h = (state_of c.args.kept.now).held in
    c.in_ok-tags.ensures.value
    ∙ ap (map (λ t. (t, tag_for real c.args.keys.now h.cast t (own_text h c.args.label c.args.commitments.now t)))) (c.as_slice.ensures.value ∙ c.in_ok-targets.ensures.value)

pub returns-clause-noted : goal.returns-clause-noted
returns-clause-noted c =
    let h = (state_of c.args.kept.now).held in
    let old = c.args.notes.now in
    c.in_ok-tags.ensures.noted
    ∙ ap (λ ts. record old { made = old.made ++ map (λ t. note_of c.args.keys.now.me (principal h.cast t) (own_text h c.args.label c.args.commitments.now t)) ts }) (c.as_slice.ensures.value ∙ c.in_ok-targets.ensures.value)
