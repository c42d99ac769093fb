use Rattle.sg_audit.proofs.AssignmentLaws.{label_is}
use Rattle.sg_audit.proofs.assignments.label_named.Goals as goal

pub returns : goal.returns
returns c = label_is c.args.graph.now c.args.name.now c.find_edge.result c.edges-count.ensures.graph c.find_edge.ensures.found c.find_edge.ensures.index
