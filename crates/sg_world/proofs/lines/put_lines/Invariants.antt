use Rattle.std.proofs.Common.{◌≡◌, ◌++◌, map, take}
use Rattle.sg_text.specs.Sessions.{KnownSessions, naming}
use Rattle.sg_report.specs.Report.{lines_from}
use Rattle.sg_world.specs.KeptLines.{line_kept}
use Rattle.sg_world.proofs.lines.put_lines.Given as goal

-- the lines so far are written
abbrev pub invariant-loop-entry : goal.invariant-loop-entry
invariant-loop-entry l = (l.number ≡ l.entry-index) × ((m : KnownSessions) → l.names ≡ naming 120 m → l.out ≡ l.initial.out ++ lines_from m 1 (map (line_kept l.setting) (take l.entry-index l.entries)))
