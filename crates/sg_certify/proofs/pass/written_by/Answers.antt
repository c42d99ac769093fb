use Rattle.std.proofs.Common.{length}
use Rattle.sg_graph.proofs.Sets.{numbers_within}
use Rattle.sg_certify.proofs.pass.written_by.Goals as goal

pub returns-clause-numbers : goal.returns-clause-numbers
returns-clause-numbers c = numbers_within (length c.args.graph.now.variables) 32 c.edge.result.now.writes c.vars-count.ensures.graph.sizes.1 c.edge.ensures.sets.0
