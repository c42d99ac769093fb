-- The law of claims.
use Rattle.sg_apart_claims.proofs.Claims.{claims_are_kept}
use Rattle.sg_apart_claims.proofs.Pasts.{of_pasts}
use Rattle.sg_apart_claims.specs.Laws.{ClaimsAreKept}
use Rattle.sg_apart_claims.proofs.claims_are_kept_apart.Goals as goal

pub returns : goal.returns
returns c = λ sha hash. of_pasts sha (ClaimsAreKept sha) (claims_are_kept sha hash)
