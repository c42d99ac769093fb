use Rattle.std.proofs.Common.{◌≡◌, ◌++◌, take}
use Rattle.std.specs.Prelude.{flat_map}
use Rattle.sg_claims_text.specs.Written.{claim_line}
use Rattle.sg_claims_text.proofs.written.put_claims.Given as goal

abbrev pub invariant-loop-claim : goal.invariant-loop-claim
invariant-loop-claim l = l.out ≡ l.initial.out ++ flat_map (claim_line l.graph) (take l.claim-index l.claims)
