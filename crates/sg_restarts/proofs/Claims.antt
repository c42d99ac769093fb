-- Claims over restarts.
use Rattle.sg_protocol.specs.Texts.{Hash, IsHash}
use Rattle.sg_protocol.specs.Schedule.{honest_role}
use Rattle.sg_protocol.specs.Run.{events_of}
use Rattle.sg_protocol.specs.Restarts.{run_with_restarts}
use Rattle.sg_protocol.proofs.Causes.{path_keeps}
use Rattle.sg_protocol.proofs.OverRestarts.{sessions_follow_walks_over_restarts}
use Rattle.sg_restarts.specs.OverRestarts.{ClaimsAreKeptOverRestarts}

pub claims_are_kept_over_restarts : (sha : Hash) → IsHash sha → ClaimsAreKeptOverRestarts sha
claims_are_kept_over_restarts sha hash programs s xs compiled sched good premises sid some =
    (sessions_follow_walks_over_restarts sha hash programs s xs compiled sched good premises sid some, λ x c holds. path_keeps x.graph (honest_role s x.cast) (events_of sid (run_with_restarts sha programs s xs).log) x.steps c x.path holds)
