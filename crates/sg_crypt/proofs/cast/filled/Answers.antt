use Rattle.std.proofs.Common.{arith}
use Rattle.sg_crypt.proofs.Slots.{filled_up}
use Rattle.sg_crypt.proofs.cast.filled.Goals as goal

pub returns : goal.returns
returns c = filled_up c.args.names.now c.copy_from_slice.new.self c.index-names-0.result c.index-names-0.is (omega arith) c.copy_from_slice.ensures.after
