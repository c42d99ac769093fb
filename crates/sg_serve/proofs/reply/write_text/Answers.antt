use Rattle.std.proofs.Common.{refl}
use Rattle.sg_play.proofs.Counting.{alone_rose, alone_same, no_fault}
use Rattle.sg_serve.proofs.reply.write_text.Goals as goal

pub returns-in-Ok-clause-faults : goal.returns-in-Ok-clause-faults
returns-in-Ok-clause-faults g c = alone_same c.in-Ok.ensures.no_fault (no_fault _)

pub returns-in-Err-clause-faults : goal.returns-in-Err-clause-faults
returns-in-Err-clause-faults g c = alone_rose c.write_all.ensures.never_falls c.in-Err.ensures.failed refl
