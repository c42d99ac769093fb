-- The law of claims.
use Rattle.sg_protocol.proofs.Causes.{claims_are_kept, occur_once}
use Rattle.sg_protocol.proofs.claims_are_kept.Goals as goal

pub returns : goal.returns
returns c = record { kept = claims_are_kept; once = occur_once }
