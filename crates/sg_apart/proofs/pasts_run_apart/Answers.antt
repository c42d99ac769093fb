-- Pasts are those of a run of their calls, and one walk explains each session.
use Rattle.sg_apart.proofs.Honest.{honest_pasts_follow_walks}
use Rattle.sg_apart.proofs.Once.{pasts_run_apart}
use Rattle.sg_apart.proofs.pasts_run_apart.Goals as goal

pub returns : goal.returns
returns c = record { runs = pasts_run_apart; walks = honest_pasts_follow_walks }
