-- In a schedule's run the turn of a session is that of the one live session with its sid.
use Rattle.std.specs.Prelude.{◌≡◌, ℕ, List, Some, option_and_then}
use Rattle.std.proofs.Common.{subst}
use Rattle.sg_model.specs.Names.{Name}
use Rattle.sg_protocol.specs.Texts.{Hash, IsHash}
use Rattle.sg_protocol.specs.Node.{session_with}
use Rattle.sg_protocol.specs.Past.{Past, node_of}
use Rattle.sg_protocol.specs.World.{World, new_world, past_of}
use Rattle.sg_protocol.specs.Premises.{CollisionFree, hashed}
use Rattle.sg_protocol.specs.Turn.{turn_in, turn_of, TurnIsOfSession}
use Rattle.sg_protocol.proofs.Courses.{course, is_course, same_run}
use Rattle.sg_protocol.proofs.OneTurns.{turn_is}

pub turn_is_of_session : (sha : Hash) → IsHash sha → TurnIsOfSession sha
turn_is_of_session sha hash programs s compiled sched =
    subst (λ (w : World). CollisionFree sha (hashed s w) → (who : Name) (past : Past) (sid : List ℕ) → past_of w who ≡ Some past → turn_of (node_of past) sid ≡ option_and_then (turn_in (node_of past).programs) (session_with (node_of past).live sid)) (same_run sha hash programs s compiled sched)
    (turn_is sha hash s (new_world programs s).pasts (course sha hash programs s compiled sched) (is_course sha hash programs s compiled sched))
