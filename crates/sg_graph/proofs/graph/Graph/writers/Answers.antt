use Rattle.std.proofs.Common.{◌<◌, length, subst}
use Rattle.sg_protocol.specs.Graph.{Variable, IsGraph, AreNumbers}
use Rattle.sg_graph.proofs.ModelLaws.{variable_has}
use Rattle.sg_graph.proofs.graph.Graph.writers.Goals as goal

pub returns-clause-there : goal.returns-clause-there
returns-clause-there c =
    let whole = subst IsGraph c.self.view_is c.self.invariant.graph in
    variable_has (λ (v : Variable). AreNumbers (length c.args.self.now.roles) v.writers × (0 < length v.writers))
    c.self.inside c.args.self.now c.var.inside.0 c.args.var c.index.result.now c.self.view_is c.var.view_is c.requires c.index.ensures whole.writers
