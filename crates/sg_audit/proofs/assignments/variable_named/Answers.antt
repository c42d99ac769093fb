use Rattle.sg_audit.proofs.AssignmentLaws.{variable_is}
use Rattle.sg_audit.proofs.assignments.variable_named.Goals as goal

pub returns : goal.returns
returns c = variable_is c.args.graph.now c.args.name.now c.find_var.result c.vars-count.ensures.graph c.find_var.ensures.found c.find_var.ensures.index
