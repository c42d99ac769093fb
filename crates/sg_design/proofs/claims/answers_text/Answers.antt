use Rattle.std.proofs.Common.{[], true, sym, subst}
use Rattle.sg_design.specs.Claimed.{AreAnswered, NoClaims}
use Rattle.sg_design.proofs.Claiming.{one_more}
use Rattle.sg_design.proofs.claims.answers_text.Goals as goal

pub loop-claim-init : goal.loop-claim-init
loop-claim-init c = subst (λ t. AreAnswered c.args.graph.now [] t true) (sym c.new-text.ensures) NoClaims

pub loop-claim-preserved : goal.loop-claim-preserved
loop-claim-preserved c =
    one_more c.args.graph.now c.args.claims.now c.loop-claim.claim-index c.claim-item.result c.in_ok-answer.answer c.loop-claim.text c.put_answer.new.out c.loop-claim.all_hold c.does_hold-all_hold.result
    c.loop-claim-test.true c.claim-item.is c.loop-claim.invariant c.in_ok-answer.ensures c.in_ok-put_answer.ensures c.does_hold-all_hold.ensures
