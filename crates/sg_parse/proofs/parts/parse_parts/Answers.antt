use Rattle.sg_parse.proofs.PartsAgree.{found, only}
use Rattle.sg_parse.proofs.parts.parse_parts.Goals as goal

pub returns-clause-found : goal.returns-clause-found
returns-clause-found c = found (λ v. v.items) c.args.bytes.now c.read_whole.result c.read_whole.ensures.reads

pub returns-clause-only : goal.returns-clause-only
returns-clause-only c = only (λ v. v.items) c.args.bytes.now c.read_whole.result c.read_whole.ensures.reads
