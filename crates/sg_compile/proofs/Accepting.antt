-- What the checks of a graph say together.
use Rattle.std.proofs.Common.{◌≤◌, length}
use Rattle.sg_model.specs.Shape.{Sighted}
use Rattle.sg_check.specs.Shaped.{HasShape}
use Rattle.sg_know.specs.Reads.{AcceptedReads}
use Rattle.sg_protocol.specs.Accepted.{Accepted}
use Rattle.sg_protocol.specs.Graph.{Graph, shape}

-- the parts of an accepted graph
pub accepted_from : (g : Graph) → 2 ≤ length g.roles → HasShape g → AcceptedReads g → Sighted (shape g) → Accepted g
accepted_from g two s r b = search
