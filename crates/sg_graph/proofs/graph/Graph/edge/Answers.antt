use Rattle.std.proofs.Common.{◌<◌, length, subst}
use Rattle.sg_protocol.specs.Graph.{Edge, IsGraph, AreNumbers}
use Rattle.sg_graph.proofs.ModelLaws.{edge_kept, edge_has}
use Rattle.sg_graph.proofs.graph.Graph.edge.Goals as goal

pub returns-clause-edge : goal.returns-clause-edge
returns-clause-edge c =
    edge_kept c.self.inside c.args.self.now c.label.inside.0 c.args.label c.index.result.now c.self.invariant c.self.view_is c.label.view_is c.requires c.index.ensures

pub returns-clause-ends : goal.returns-clause-ends
returns-clause-ends c =
    let whole = subst IsGraph c.self.view_is c.self.invariant.graph in
    edge_has (λ (e : Edge). (e.source < length c.args.self.now.nodes) × (e.target < length c.args.self.now.nodes))
    c.self.inside c.args.self.now c.label.inside.0 c.args.label c.index.result.now c.self.view_is c.label.view_is c.requires c.index.ensures whole.ends

pub returns-clause-sets : goal.returns-clause-sets
returns-clause-sets c =
    let whole = subst IsGraph c.self.view_is c.self.invariant.graph in
    edge_has (λ (e : Edge). AreNumbers (length c.args.self.now.variables) e.writes × AreNumbers (length c.args.self.now.variables) e.reads)
    c.self.inside c.args.self.now c.label.inside.0 c.args.label c.index.result.now c.self.view_is c.label.view_is c.requires c.index.ensures whole.variables
