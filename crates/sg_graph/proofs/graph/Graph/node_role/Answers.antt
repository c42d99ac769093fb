use Rattle.std.proofs.Common.{◌<◌, length, subst}
use Rattle.sg_protocol.specs.Graph.{Node, IsGraph}
use Rattle.sg_graph.proofs.ModelLaws.{role_kept, node_has}
use Rattle.sg_graph.proofs.graph.Graph.node_role.Goals as goal

pub returns-clause-role : goal.returns-clause-role
returns-clause-role c =
    role_kept c.self.inside c.args.self.now c.node.inside.0 c.args.node c.index.result.now c.self.view_is c.node.view_is c.requires c.index.ensures

pub returns-clause-there : goal.returns-clause-there
returns-clause-there c =
    let whole = subst IsGraph c.self.view_is c.self.invariant.graph in
    node_has (λ (n : Node). n.role < length c.args.self.now.roles)
    c.self.inside c.args.self.now c.node.inside.0 c.args.node c.index.result.now c.self.view_is c.node.view_is c.requires c.index.ensures whole.roles
