use Rattle.sg_serve.proofs.Pasts.{of_nodes}
use Rattle.sg_serve.proofs.laws.runs_are_of_nodes.Goals as goal

pub returns : goal.returns
returns c = of_nodes
