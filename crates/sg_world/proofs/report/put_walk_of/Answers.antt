use Rattle.std.proofs.Common.{sym}
use Rattle.sg_world.proofs.WalkLaws.{found_can_walk}
use Rattle.sg_world.proofs.report.put_walk_of.Goals as goal

pub put_trace-requires : goal.put_trace-requires
put_trace-requires c = found_can_walk c.args.sid.now c.args.traces.now c.in-Some.trace.now c.requires (sym c.in-Some.ensures)
