-- The laws of principals that are begun anew.
use Rattle.sg_protocol.proofs.Anew.{restarts_abandon}
use Rattle.sg_protocol.proofs.Lives.{no_restarts_no_change}
use Rattle.sg_protocol.proofs.Restarts.{restarts_are_abandonments}
use Rattle.sg_protocol.proofs.restarts_abandon.Goals as goal

pub returns : goal.returns
returns c = record { at_nodes = restarts_abandon; alone = no_restarts_no_change; in_runs = restarts_are_abandonments }
