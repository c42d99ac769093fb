-- The law of claims.
use Rattle.sg_design.proofs.OneClaims.{claims_once}
use Rattle.sg_top.proofs.laws.claims_end_once.Goals as goal

pub returns : goal.returns
returns c = claims_once
