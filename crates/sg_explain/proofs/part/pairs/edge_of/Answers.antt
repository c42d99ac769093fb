use Rattle.std.proofs.Common.{length}
use Rattle.sg_graph.proofs.Sets.{numbers_within}
use Rattle.sg_explain.proofs.part.pairs.edge_of.Goals as goal

pub returns-clause-writes : goal.returns-clause-writes
returns-clause-writes c = numbers_within (length c.args.graph.now.variables) 32 c.edge.result.now.writes c.vars-count.ensures.graph.sizes.1 c.edge.ensures.sets.0

pub returns-clause-reads : goal.returns-clause-reads
returns-clause-reads c = numbers_within (length c.args.graph.now.variables) 32 c.edge.result.now.reads c.vars-count.ensures.graph.sizes.1 c.edge.ensures.sets.1
