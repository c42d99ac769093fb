-- Turns over restarts.
use Rattle.std.specs.Prelude.{◌≡◌, ◌++◌, map, Some, option_and_then}
use Rattle.std.proofs.Common.{sym, ap, subst}
use Rattle.sg_protocol.specs.Texts.{Hash, IsHash, graph_text_of}
use Rattle.sg_protocol.specs.Node.{Node, session_with}
use Rattle.sg_protocol.specs.Past.{Past, node_of}
use Rattle.sg_protocol.specs.Schedule.{Schedule}
use Rattle.sg_protocol.specs.World.{World, past_of}
use Rattle.sg_protocol.specs.Run.{run}
use Rattle.sg_protocol.specs.Premises.{CollisionFree}
use Rattle.sg_protocol.specs.Turn.{turn_in, turn_of}
use Rattle.sg_protocol.specs.Restarts.{run_with_restarts}
use Rattle.sg_protocol.proofs.OverRestarts.{hashed_more}
use Rattle.sg_protocol.proofs.Restarts.{Same, plain, same_runs, is_plain}
use Rattle.sg_protocol.proofs.Turn.{turn_is_of_session}
use Rattle.sg_restarts.specs.OverRestarts.{TurnIsOfSessionOverRestarts}
use Rattle.sg_restarts.proofs.Logs.{past_there}

pub turn_is_of_session_over_restarts : (sha : Hash) → IsHash sha → TurnIsOfSessionOverRestarts sha
turn_is_of_session_over_restarts sha hash programs s xs compiled sched good free who past sid its_past =
    let w : World = run_with_restarts sha programs s xs in
    let t : Schedule = plain sha hash programs s compiled sched xs good in
    let w' : World = run sha programs t in
    let same : Same w w' = same_runs sha hash programs s compiled sched xs good in
    let there : (q : Past) × (past_of w' who ≡ Some q) × (past.keys ≡ q.keys) × (node_of past ≡ node_of q) = past_there w.pasts w'.pasts same.nodes who past its_past in
    subst (λ (n : Node). turn_of n sid ≡ option_and_then (turn_in n.programs) (session_with n.live sid)) (sym there.3)
    (turn_is_of_session sha hash programs t compiled (is_plain sha hash programs s compiled sched xs good) (subst (CollisionFree sha) (ap (λ l. map graph_text_of s.graphs ++ l) (hashed_more w'.log w.log same.log)) free) who there.0 sid there.1)
