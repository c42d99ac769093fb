use Rattle.sg_protocol.proofs.Joins.{none_joins_twice}
use Rattle.sg_protocol.specs.Texts.{real}
use Rattle.sg_world.proofs.laws.none_joins_twice.Goals as goal

pub returns : goal.returns
returns c = λ r. none_joins_twice real r.programs r.schedule
