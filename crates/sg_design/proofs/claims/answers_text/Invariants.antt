use Rattle.std.proofs.Common.{take}
use Rattle.sg_design.specs.Claimed.{AreAnswered}
use Rattle.sg_design.proofs.claims.answers_text.Given as goal

abbrev pub invariant-loop-claim : goal.invariant-loop-claim
invariant-loop-claim l = AreAnswered l.graph (take l.claim-index l.claims) l.text l.all_hold
