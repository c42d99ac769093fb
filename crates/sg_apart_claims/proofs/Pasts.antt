-- What holds of principals that run apart holds of the pasts of honest principals.
use Rattle.sg_protocol.specs.Texts.{Hash}
use Rattle.sg_protocol.specs.Schedule.{Schedule}
use Rattle.sg_protocol.specs.World.{World}
use Rattle.sg_apart.specs.Apart.{run_apart}
use Rattle.sg_apart.proofs.Honest.{on_pasts}
use Rattle.sg_apart_claims.specs.Laws.{HoldsOfRuns, HoldsApart}

pub of_pasts : (sha : Hash) (Law : Schedule → World → Type 0) → HoldsOfRuns sha Law → HoldsApart sha Law
of_pasts sha Law holds = (holds, on_pasts sha (λ s ps calls. Law s (run_apart sha ps calls)) holds)
