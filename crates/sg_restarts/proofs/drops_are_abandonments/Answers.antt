-- The law of what restarts drop.
use Rattle.sg_restarts.proofs.Added.{drops_are_abandonments}
use Rattle.sg_restarts.proofs.drops_are_abandonments.Goals as goal

pub returns : goal.returns
returns c = drops_are_abandonments
