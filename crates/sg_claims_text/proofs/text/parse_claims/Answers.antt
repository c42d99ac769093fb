use Rattle.sg_claims_text.proofs.Agrees.{found, only}
use Rattle.sg_claims_text.proofs.text.parse_claims.Goals as goal

pub returns-clause-found : goal.returns-clause-found
returns-clause-found c = found (λ v. v.items) c.args.graph.now c.args.bytes.now c.read_whole.result c.read_whole.ensures

pub returns-clause-only : goal.returns-clause-only
returns-clause-only c = only (λ v. v.items) c.args.graph.now c.args.bytes.now c.read_whole.result c.read_whole.ensures c.name-name.ensures.graph
