use Rattle.std.proofs.Common.{◌≡◌, ◌<◌, ◌||◌, ◌==◌, ℕ, List, length, sym, ap, ◌∙◌, subst, arith}
use Rattle.sg_model.specs.Lists.{is_in, keys_of}
use Rattle.sg_protocol.specs.Graph.{AreNumbers}
use Rattle.sg_protocol.proofs.OneTable.{numbers_by_set}
use Rattle.sg_graph.proofs.Sets.{AreNumbers-with_member}
use Rattle.sg_role.proofs.Forms.{in_more, key_less}
use Rattle.sg_base.specs.Sets.{with_member}
use Rattle.sg_base.proofs.SetLaws.{is_in-with_member}
use Rattle.sg_role.proofs.Lists.{take_over}
use Rattle.sg_role.proofs.view.vars_of.Goals as goal

pub with-vars-requires : goal.with-vars-requires
with-vars-requires c = key_less 32 c.args.delta.now c.loop-at.at c.index-delta-at.result c.requires (omega (arith, c.loop-at-test.true))

pub loop-at-preserved : goal.loop-at-preserved
loop-at-preserved c =
    let l : c.loop-at.at < length c.args.delta.now = omega (arith, c.loop-at-test.true) in
    let w = c.index-delta-at.result in
    let small : w.0 < 32 = subst (λ (v : ℕ × List ℕ). v.0 < 32) (sym c.index-delta-at.is) (key_less 32 c.args.delta.now c.loop-at.at w c.requires l) in
    let set : c.with-vars.result ≡ with_member 32 c.loop-at.vars w.0 = c.with-vars.ensures ∙ ap (λ (v : ℕ × List ℕ). with_member 32 c.loop-at.vars v.0) (sym c.index-delta-at.is) in (
      subst (AreNumbers 32) (sym set) (AreNumbers-with_member 32 32 w.0 c.loop-at.vars c.loop-at.invariant.0 small),
      λ x m. ap (is_in x) set ∙ is_in-with_member 32 x w.0 c.loop-at.vars m ∙ ap (λ b. (x == w.0) || b) (c.loop-at.invariant.1 x m) ∙ sym (in_more c.args.delta.now c.loop-at.at x w l c.index-delta-at.is),
    )

pub returns : goal.returns
returns c = numbers_by_set 32 c.loop-at.vars (keys_of c.args.delta.now) c.loop-at.invariant.0 c.requires (λ x m. c.loop-at.invariant.1 x m ∙ ap (λ d. is_in x (keys_of d)) (take_over c.args.delta.now c.loop-at.at (omega (arith, c.loop-at-test.false))))
