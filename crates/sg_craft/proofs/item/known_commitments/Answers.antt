use Rattle.std.proofs.Common.{◌≡◌, ◌∙◌, ap, length, replicate, None, arith}
use Rattle.sg_protocol.specs.Crafted.{committed_to}
use Rattle.sg_protocol.specs.Texts.{real}
use Rattle.sg_craft.specs.Means.{Means}
use Rattle.sg_craft.proofs.CommitmentLaws.{whole_back, known_now}
use Rattle.sg_craft.proofs.item.known_commitments.Goals as goal

pub returns : goal.returns
returns c =
    let e : length c.overwrite.new.current ≡ c.in_ok-current.current.len = omega arith in
    let old : c.deref_mut.result.now ≡ replicate c.vars.result None = c.deref_mut.ensures.value ∙ c.in_ok-current.ensures in
    whole_back c.in_ok-current.current.len c.overwrite.new.current _ e
    ∙ known_now c.args.means.now c.args.know.now c.vars.result c.deref_mut.result.now c.overwrite.new.current c.as_slice.result.now
    (c.vars.ensures.count ∙ ap (λ (m : Means). length m.graph.variables) c.means.view_is)
    old
    (c.as_slice.ensures ∙ c.in_ok-known.ensures ∙ ap (λ (m : Means). committed_to real m.sid c.args.know.now) c.means.view_is)
    c.overwrite.ensures
