-- Claims of principals that run apart.
use Rattle.sg_protocol.specs.Texts.{Hash, IsHash}
use Rattle.sg_protocol.specs.Schedule.{honest_role}
use Rattle.sg_protocol.specs.Run.{events_of}
use Rattle.sg_protocol.proofs.Causes.{path_keeps}
use Rattle.sg_apart.specs.Apart.{honest_are, run_apart}
use Rattle.sg_apart.proofs.Whole.{sessions_follow_walks_apart}
use Rattle.sg_apart_claims.specs.Laws.{HoldsOfRuns, ClaimsAreKept}

pub claims_are_kept : (sha : Hash) → IsHash sha → HoldsOfRuns sha (ClaimsAreKept sha)
claims_are_kept sha hash ps calls are range premises sid some =
    (sessions_follow_walks_apart sha hash ps calls are range premises sid some, λ x c holds. path_keeps x.graph (honest_role (honest_are ps) x.cast) (events_of sid (run_apart sha ps calls).log) x.steps c x.path holds)
