use Rattle.std.proofs.Common.{sym}
use Rattle.sg_world.proofs.take.index_for.Goals as goal

pub returns-clause-index : goal.returns-clause-index
returns-clause-index c = let p = c.in-Some-index_of.ensures in ((c.in-Some.name, p.0), p.1, sym c.in-Some.ensures)
