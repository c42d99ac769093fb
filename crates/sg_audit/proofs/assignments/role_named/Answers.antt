use Rattle.sg_audit.proofs.AssignmentLaws.{role_is}
use Rattle.sg_audit.proofs.assignments.role_named.Goals as goal

pub returns-clause-number : goal.returns-clause-number
returns-clause-number c = role_is c.args.graph.now c.args.name.now c.find_role.result c.roles-count.ensures.graph c.find_role.ensures.found c.find_role.ensures.index
