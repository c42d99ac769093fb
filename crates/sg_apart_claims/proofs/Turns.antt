-- The turn of a session of principals apart is that of the one live session with its sid.
use Rattle.std.specs.Prelude.{map}
use Rattle.sg_protocol.specs.Texts.{Hash, IsHash}
use Rattle.sg_protocol.proofs.OneTurns.{turn_is}
use Rattle.sg_apart.specs.Apart.{honest_are}
use Rattle.sg_apart.proofs.Whole.{asks, is_course, of_course}
use Rattle.sg_apart_claims.specs.Laws.{HoldsOfRuns, TurnIsOfSession}

pub turn_is_of_session : (sha : Hash) → IsHash sha → HoldsOfRuns sha (TurnIsOfSession sha)
turn_is_of_session sha hash ps calls are range = of_course sha ps calls (TurnIsOfSession sha (honest_are ps)) (turn_is sha hash (honest_are ps) ps (map asks calls) (is_course sha ps are calls range))
