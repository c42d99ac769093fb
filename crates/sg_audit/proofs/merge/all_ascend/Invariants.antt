use Rattle.std.proofs.Common.{◌↔◌, drop, map}
use Rattle.std.specs.List.{AllByRecursion}
use Rattle.sg_audit.specs.Merged.{AscendFrom}
use Rattle.sg_audit.specs.Model.{log_of}
use Rattle.sg_audit.proofs.merge.all_ascend.Given as goal

abbrev pub invariant-loop-log : goal.invariant-loop-log
invariant-loop-log l = AllByRecursion (λ l. AscendFrom 0 l.1) (map log_of l.logs) ↔ AllByRecursion (λ l. AscendFrom 0 l.1) (map log_of (drop l.log-index l.logs))
