use Rattle.std.proofs.Common.{◌<◌, ℕ, [], get_or, length, filter, not, bytes_eq, sym, ap, ◌∙◌, subst, arith}
use Rattle.sg_model.specs.Lists.{is_in, keys_of}
use Rattle.sg_protocol.specs.Frame.{Item}
use Rattle.sg_protocol.specs.Graph.{AreNumbers}
use Rattle.sg_base.specs.Sets.{with_member}
use Rattle.sg_protocol.specs.IsSchedule.{IsProgram}
use Rattle.sg_protocol.specs.Keyring.{Program, targets_of}
use Rattle.sg_protocol.specs.Texts.{real}
use Rattle.sg_graph.proofs.Sets.{numbers_within}
use Rattle.sg_role.proofs.Forms.{tags_wrong, tags_right, later_more}
use Rattle.sg_role.proofs.view.has_right_tags.Goals as goal

numbers : (p : Program) → IsProgram real p → (e : ℕ) → AreNumbers 16 (targets_of p e)
numbers p is e = numbers_within (length p.graph.roles) 16 (targets_of p e) is.is_graph.sizes.0 (is.targets.rising e)

pub has_tags-requires-clause-targets : goal.has_tags-requires-clause-targets
has_tags-requires-clause-targets c =
    let of_is = c.of.ensures ∙ ap (λ t. get_or t c.item.inside.label []) c.targets.ensures.targets in
    subst (AreNumbers 16) (sym of_is) (numbers c.args.program.now c.targets.ensures.program c.item.inside.label)

pub returns-then-not-has_tags : goal.returns-then-not-has_tags
returns-then-not-has_tags c =
    let p = c.args.program.now in
    let i = c.index-items-items.result in
    let of_is = c.of.ensures ∙ ap (λ t. get_or t c.item.inside.label []) c.targets.ensures.targets ∙ ap (λ (i : Item). targets_of p i.label) c.item.view_is in
    let its = c.as_slice.ensures ∙ ap (λ (i : Item). i.tags) c.item.view_is in
    let test = c.if-not-has_tags.ensures ∙ ap (λ m. bytes_eq (keys_of m) (filter (λ t. not (is_in t c.loop-back.later)) c.of.result)) its ∙ ap (λ ts. bytes_eq (keys_of i.tags) (filter (λ t. not (is_in t c.loop-back.later)) ts)) of_is in
    sym (tags_wrong p c.args.items.now c.loop-back.back i (omega (arith, c.loop-back-test.true)) c.index-items-items.is c.loop-back.later (numbers p c.targets.ensures.program i.label) c.loop-back.invariant.1 (sym test))

pub loop-back-preserved : goal.loop-back-preserved
loop-back-preserved c =
    let p = c.args.program.now in
    let i = c.index-items-items.result in
    let of_is = c.of.ensures ∙ ap (λ t. get_or t c.item.inside.label []) c.targets.ensures.targets ∙ ap (λ (i : Item). targets_of p i.label) c.item.view_is in
    let its = c.as_slice.ensures ∙ ap (λ (i : Item). i.tags) c.item.view_is in
    let test = c.if-not-has_tags.ensures ∙ ap (λ m. bytes_eq (keys_of m) (filter (λ t. not (is_in t c.loop-back.later)) c.of.result)) its ∙ ap (λ ts. bytes_eq (keys_of i.tags) (filter (λ t. not (is_in t c.loop-back.later)) ts)) of_is in
    let l : c.loop-back.back < length c.args.items.now = omega (arith, c.loop-back-test.true) in (
      tags_right p c.args.items.now c.loop-back.back i l c.index-items-items.is c.loop-back.later (numbers p c.targets.ensures.program i.label) c.loop-back.invariant.1 (sym test) c.loop-back.invariant.0,
      later_more p c.args.items.now c.loop-back.back i l c.index-items-items.is c.loop-back.later c.with-later.result c.loop-back.invariant.1 (c.with-later.ensures ∙ ap (λ (i : Item). with_member 16 c.loop-back.later i.role) c.item.view_is),
    )
