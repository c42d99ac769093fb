use Rattle.std.proofs.Common.{◌≡◌, true, drop, sym, ap, ◌∙◌}
use Rattle.sg_model.specs.Last.{has}
use Rattle.sg_protocol.specs.Frame.{Item}
use Rattle.sg_role.proofs.Showing.{after_at, all_rest}
use Rattle.sg_role.proofs.evidence.index_after.Goals as goal

pub loop-at-preserved : goal.loop-at-preserved
loop-at-preserved c =
    let there : has (λ (i : Item). i.role) c.args.role (drop c.loop-at.at c.args.items.now) ≡ true = ap (λ l. has (λ (i : Item). i.role) c.args.role l) (sym (all_rest c.args.items.now c.loop-at.at)) ∙ sym c.has_role.ensures ∙ c.if-not-has_role.false in
    after_at c.args.items.now c.args.role c.loop-at.at c.loop-at-test.true there ∙ c.loop-at.invariant
