-- Where a session stands that is at its turn.
use Rattle.std.specs.Prelude.{◌≡◌, ℕ, List, map, if◌then◌else◌, Option, Some, None, option_and_then}
use Rattle.sg_model.specs.Lists.{first_some}
use Rattle.sg_model.specs.Names.{Name}
use Rattle.sg_protocol.specs.Texts.{Hash}
use Rattle.sg_protocol.specs.Keyring.{Program}
use Rattle.sg_protocol.specs.Session.{Session, place, at_turn}
use Rattle.sg_protocol.specs.Node.{Node, program_for, session_with}
use Rattle.sg_protocol.specs.Past.{Past, node_of}
use Rattle.sg_protocol.specs.Schedule.{Schedule}
use Rattle.sg_protocol.specs.World.{past_of}
use Rattle.sg_protocol.specs.Run.{run}
use Rattle.sg_protocol.specs.Premises.{hashed, CollisionFree}
use Rattle.sg_protocol.specs.IsSchedule.{AreCompiled, IsSchedule}
use Rattle.sg_protocol.specs.Isolation.{sessions_with}

-- the graph's node at which a session stands, if it is at its turn there
abbrev pub turn_in : List Program → Session → Option ℕ
turn_in programs s = option_and_then (λ p. if at_turn p.graph s then Some (place p.graph s) else None) (program_for programs s.cast.graph s.role)

-- the graph's node of the first live session with the sid that is at its turn
abbrev pub turn_of : Node → List ℕ → Option ℕ
turn_of n sid = first_some (map (turn_in n.programs) (sessions_with n.live sid))

-- If no two hashed texts of a run have one digest, it is that of the session with the sid
abbrev pub TurnIsOfSession : Hash → Type 0
TurnIsOfSession sha = (programs : List Program) (s : Schedule) → AreCompiled sha s.graphs programs → IsSchedule sha s →
    let w = run sha programs s in
    CollisionFree sha (hashed s w) → (who : Name) (past : Past) (sid : List ℕ) → past_of w who ≡ Some past →
    turn_of (node_of past) sid ≡ option_and_then (turn_in (node_of past).programs) (session_with (node_of past).live sid)
