use Rattle.std.proofs.Common.{◌≡◌, take}
use Rattle.sg_report.specs.Reported.{reported_log}
use Rattle.sg_setting.specs.Replay.{run_of}
use Rattle.sg_drive.specs.Summary.{counts}
use Rattle.sg_drive.proofs.tally.Tally.of.Given as goal

-- the counts of the steps before the index
abbrev pub invariant-loop-index : goal.invariant-loop-index
invariant-loop-index l = l.tally ≡ counts l.graph (take l.index (reported_log (run_of l.world).log))
