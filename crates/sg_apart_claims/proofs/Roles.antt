-- All events of a session of principals apart are of one cast, and so a principal has one role in it.
use Rattle.std.specs.Prelude.{map}
use Rattle.sg_protocol.specs.Texts.{Hash, IsHash}
use Rattle.sg_protocol.proofs.OneCasts.{event_of_cast, one_role}
use Rattle.sg_apart.specs.Apart.{honest_are, run_apart}
use Rattle.sg_apart.proofs.Whole.{asks, is_course, of_course}
use Rattle.sg_apart_claims.specs.Laws.{HoldsOfRuns, SessionsHaveOneCast, NoneTakesTwoRoles}

pub sessions_have_one_cast : (sha : Hash) → IsHash sha → HoldsOfRuns sha (SessionsHaveOneCast sha)
sessions_have_one_cast sha hash ps calls are range = of_course sha ps calls (SessionsHaveOneCast sha (honest_are ps)) (event_of_cast sha hash (honest_are ps) ps (map asks calls) (is_course sha ps are calls range))

pub none_takes_two_roles : (sha : Hash) → IsHash sha → HoldsOfRuns sha (NoneTakesTwoRoles sha)
none_takes_two_roles sha hash ps calls are range free = one_role sha (honest_are ps) (run_apart sha ps calls) (sessions_have_one_cast sha hash ps calls are range free)
