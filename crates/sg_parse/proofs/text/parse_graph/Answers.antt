use Rattle.sg_parse.proofs.Agrees.{found, only}
use Rattle.sg_parse.proofs.text.parse_graph.Goals as goal

pub returns-clause-found : goal.returns-clause-found
returns-clause-found c = found c.args.bytes.now c.read_whole.result c.read_whole.ensures.reads

pub returns-clause-only : goal.returns-clause-only
returns-clause-only c = only c.args.bytes.now c.read_whole.result c.read_whole.ensures.reads
