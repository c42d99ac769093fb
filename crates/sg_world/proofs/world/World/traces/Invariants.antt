use Rattle.std.proofs.Common.{take}
use Rattle.sg_certify.specs.Runs.{AreTraces}
use Rattle.sg_setting.specs.Replay.{run_of}
use Rattle.sg_world.proofs.world.World.traces.Given as goal

-- the traces are those of the steps so far
abbrev pub invariant-loop-entry : goal.invariant-loop-entry
invariant-loop-entry l = AreTraces l.self.programs l.self.schedule (take l.entry-index (run_of l.self).log) l.traces
