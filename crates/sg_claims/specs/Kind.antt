-- The kinds of claims as those of the definitions.
use Rattle.sg_model.specs.Claims as Core
use Rattle.sg_model.specs.Claims.{Needs as CoreNeeds, Bars as CoreBars}
use Rattle.sg_claims.specs.declared.claim.ClaimKind.{ClaimKind}
use Rattle.sg_claims.specs.declared.claim.ClaimKind.TheVariants.{Needs, Bars}

-- the kind that is kept
abbrev pub kind_of : ClaimKind → Core.ClaimKind
kind_of Needs = CoreNeeds
kind_of Bars = CoreBars
