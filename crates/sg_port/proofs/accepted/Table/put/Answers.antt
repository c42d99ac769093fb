use Rattle.std.proofs.Common.{Some}
use Rattle.std.proofs.lemmas.List.{map-set}
use Rattle.sg_port.specs.Silence.{stream_at}
use Rattle.sg_port.proofs.accepted.Table.put.Goals as goal

pub returns : goal.returns
returns c = map-set stream_at c.args.self.now.slots.items c.args.at (Some _)
