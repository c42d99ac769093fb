-- What is answered of a claim.
use Rattle.sg_model.specs.Shape.{Shape}
use Rattle.sg_model.specs.Claims.{Claim, HoldsOnWalks}
use Rattle.sg_claims.specs.Breaks.{IsFirstBreak}
use Rattle.sg_claims.specs.declared.decision.Answer.{Answer}
use Rattle.sg_claims.specs.declared.decision.Answer.TheVariants.{Holds, Fails}

-- the answer is true: the claim holds of the graph, or this is the first walk that breaks it
abbrev pub IsAnswer : Shape → Claim → Answer → Type 0
IsAnswer g c Holds = HoldsOnWalks g c
IsAnswer g c (Fails walk) = IsFirstBreak g c walk.items
