-- The law of claims over restarts.
use Rattle.sg_restarts.proofs.Claims.{claims_are_kept_over_restarts}
use Rattle.sg_restarts.proofs.claims_are_kept_over_restarts.Goals as goal

pub returns : goal.returns
returns c = claims_are_kept_over_restarts
